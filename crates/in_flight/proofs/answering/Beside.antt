-- The answers of board and hopper, compared with the list of pending instructions.
use Rattle.std.proofs.Common.{◌≡◌, ◌<◌, ◌≤◌, ℕ, suc, Bool, true, false, cond, List, [], ◌∷◌, ◌++◌, Option, Some, None}
use Rattle.std.proofs.Common.{refl, sym, ap, ◌∙◌, subst, arith, append-nil}
use Rattle.std.specs.Prelude.{◌&&◌, ◌||◌, not, is_none, is_some, Result, Ok, Err, IfSome, replicate}
use Rattle.std.specs.List.{list_any}
use Rattle.std.proofs.lemmas.Option.{same_Some}
use Rattle.instructions.specs.declared.instr.Instr.{Instr}
use Rattle.instructions.specs.declared.instr.Reg.TheVariants.{X}
use Rattle.instructions.specs.declared.instr.UnitKind.{UnitKind}
use Rattle.instructions.specs.Operands.{uses}
use Rattle.instructions.specs.declared.instr.Unit.{Unit as FunctionalUnit}
use Rattle.instructions.specs.declared.refusal.Refusal.{Refusal}
use Rattle.instructions.specs.declared.refusal.Refusal.TheVariants.{Nothing, HopperFull, UnitBusy, ResultReserved}
use Rattle.instructions.specs.Each.{Each, Pairs}
use Rattle.instructions.specs.RegisterLists.{overlap}
use Rattle.instructions.specs.Shape.{shape_of, results, is_branch_shape}
use Rattle.instructions.proofs.Lists.{each_left, each_right, each_append, each_map, each_of_any, pairs_before, any_same}
use Rattle.hopper.specs.Hopper.{first_place, free_place}
use Rattle.hopper.specs.Queue.{Queue, stands_at, is_for, stores_here, place_for as free_in, is_taken as taken_in}
use Rattle.hopper.specs.Queue.{free_answer}
use Rattle.hopper.specs.declared.entered.Entered.{Entered}
use Rattle.hopper.proofs.Standing.{first_same}
use Rattle.scoreboard.specs.declared.issued.Issued.{Issued}
use Rattle.scoreboard.specs.declared.reservation.Occupancy.TheVariants.{Left}
use Rattle.scoreboard.specs.declared.reservation.Reservation.{Reservation}
use Rattle.scoreboard.specs.Reservations as board
use Rattle.scoreboard.specs.Reservations.{is_reserved, has_store_turn}
use Rattle.scoreboard.specs.Conflicts as conflict
use Rattle.scoreboard.specs.Units.{first_unit}
use Rattle.scoreboard.specs.Conflicts.{first_free, free_unit, is_held}
use Rattle.scoreboard.specs.Issued.{reservation_of as reservation_of_issued}
use Rattle.scoreboard.specs.Answers.{Standing, held_in, returning_by, unless, read_answer, store_answer, return_answer}
use Rattle.scoreboard.specs.Answers.{turn_answer, read, gone, with_issued, reserve_answer, reserved, new_issued}
use Rattle.scoreboard.proofs.in_slots.Standing.{find_same}
use Rattle.unit_ops.specs.declared.Operands.{Operands}
use Rattle.unit_ops.specs.declared.UnitValue.{UnitValue}
use Rattle.sequential.specs.declared.fetching.Fetched.TheVariants.{Taking}
use Rattle.sequential.specs.declared.position.ProgramPosition.{ProgramPosition as SomePosition}
use Rattle.in_flight.specs.declared.pending.Arrival.{Arrival}
use Rattle.in_flight.specs.declared.pending.Outstanding.TheVariants.{Accepted}
use Rattle.in_flight.specs.declared.pending.Pending.{Pending}
use Rattle.in_flight.specs.declared.pending.Phase.{Phase}
use Rattle.in_flight.specs.declared.pending.Phase.TheVariants.{Before, After}
use Rattle.in_flight.specs.declared.pending.Stage.{Stage}
use Rattle.in_flight.specs.declared.pending.Stage.TheVariants.{Unread, Read, Finished}
use Rattle.in_flight.specs.declared.slots.Located.{Located}
use Rattle.in_flight.specs.inner.Board.{on_board, IsTied}
use Rattle.in_flight.specs.Tests.{refusal_in, store_conflicts, Test, refusal_of, nothing, tests_found, read_tests}
use Rattle.in_flight.specs.Tests.{return_tests, free_tests, reservation_tests, unit_for}
use Rattle.in_flight.specs.Flight.{Flight, flight_of, reserved_in, with_pending}
use Rattle.in_flight.specs.Lookup.{waiting_in, waiting, located, stage_at, stage_in, arrival_at, arrival_in, entry_at}
use Rattle.in_flight.specs.Lookup.{entry_in, in_place, place_for, is_pending, in_phase}
use Rattle.in_flight.specs.Pending.{has_read, reservation_of, occupancy_of, awaited, is_branch, has_turn, stores_in}
use Rattle.in_flight.specs.Pending.{waits_in, delays_fetch, delays_access}
use Rattle.in_flight.proofs.asking.PendingReservations.{comes}
use Rattle.in_flight.proofs.Opened.{coming}
use Rattle.instructions.specs.Finding.{replaced, Found, seek, put_back}
use Rattle.in_flight.specs.inner.Slots.{has_none}
use Rattle.in_flight.specs.Apart.{IsApart}
use Rattle.instructions.proofs.Finding.{seek_splits, seek_nobody}
use Rattle.in_flight.proofs.asking.Finding.{stage_found}
use Rattle.in_flight.proofs.answering.Boarding.{arrival_in_there, board_any, no_turn, read_of_all, store_of_all}
use Rattle.in_flight.proofs.answering.Boarding.{turn_of_all, return_of_all, read_follows, stage_follows, return_follows}
use Rattle.in_flight.proofs.answering.Boarding.{issue_follows, same_free, same_awaited}

-- ---- the found instruction ----

pub there : {K : Type 0} (o : Option (Found Pending K)) (s : Located K) → located o ≡ Some s → (f : Found Pending K)
    × (o ≡ Some f) × (f.item ≡ s.pending) × (f.answer ≡ s.answer)
unfolding located
there None s h = cc
there (Some f) s h = (f, refl, ap (λ x. x.pending) (same_Some _ s h), ap (λ x. x.answer) (same_Some _ s h))

pub nothing_there : {K : Type 0} (o : Option (Found Pending K)) (g : Found Pending K → List Test) → located o ≡ None
    → refusal_of (tests_found o g) ≡ Some Nothing
unfolding located refusal_of tests_found nothing
nothing_there o g h = grind arith

pub error_there : {T E : Type 0} (r : Result T E) → ((x : T) → r ≡ Ok x → ⊥) → (y : E) × (r ≡ Err y)
error_there (Ok x) h = absurd (h x refl)
error_there (Err y) h = (y, refl)

pub some_from : {K : Type 0} (o : Option (Found Pending K)) (s : Option (Located K)) (b : Bool) → s ≡ located o
    → is_some s ≡ not b → b ≡ false → (f : Found Pending K) × (o ≡ Some f)
unfolding located
some_from None s b k e h = cc
some_from (Some f) s b k e h = (f, refl)

pub nobody_from : {K : Type 0} (o : Option (Found Pending K)) (s : Option (Located K)) (b : Bool) → s ≡ located o
    → is_some s ≡ not b → b ≡ true → o ≡ None
unfolding located
nobody_from o s b k e h = grind arith

pub nothing_pending : (ms : List Pending) → has_none ms ≡ not (is_pending ms)
unfolding has_none is_pending
nothing_pending ms = grind arith

-- ---- tests of the board and tests of the list ----

no_branch : (reservation : Reservation) → reservation.occupancy ≡ Left None → board.is_branch reservation ≡ false
unfolding board.is_branch is_reserved
no_branch reservation e = ap (λ p. is_reserved p && is_branch_shape (shape_of reservation.instr)) e

no_store : (reservation : Reservation) → reservation.occupancy ≡ Left None → has_store_turn reservation ≡ false
unfolding has_store_turn is_reserved
no_store reservation e = cc

pub branch_held : (ms : List Pending) → list_any (λ x. board.is_branch x.reservation) (on_board ms)
    ≡ list_any is_branch ms
unfolding reservation_of_issued is_branch
branch_held ms = board_any board.is_branch no_branch ms

pub any-append : {K : Type 0} (f : K → Bool) (xs ys : List K) → list_any f (xs ++ ys) ≡ (list_any f xs || list_any f ys)
any-append f [] ys = refl
any-append f (x ∷ xs) ys = grind (arith, any-append f xs ys)

-- a test of all waiting references, put as a test of phases
waiting_any : (f : Entered → Bool) (g : Phase → Bool) → ((p : Phase) → list_any f (waiting_in p) ≡ g p)
    → (ms : List Pending) → list_any f (waiting ms) ≡ list_any (λ m. g m.phase) ms
unfolding waiting
waiting_any f g h [] = refl
waiting_any f g h (m ∷ ms) = grind (arith, waiting_any f g h ms, any-append)

stores_in_phase : (a : ℕ) (p : Phase) → list_any (stores_here a) (waiting_in p) ≡ stores_in a p
unfolding waiting_in stores_in stores_here
stores_in_phase a p = grind arith

waits_in_phase : (a : ℕ) (p : Phase) → list_any (is_for a) (waiting_in p) ≡ waits_in a p
unfolding waiting_in waits_in is_for
waits_in_phase a p = grind arith

any_either : {K : Type 0} (f g : K → Bool) (xs : List K)
    → list_any (λ x. f x || g x) xs ≡ (list_any f xs || list_any g xs)
any_either f g [] = refl
any_either f g (x ∷ xs) = grind (arith, any_either f g xs)

-- a test of the board's reservations or of the hopper's references, put as a test of each pending instruction
delayed_by : (t : Reservation → Bool) (f : Entered → Bool) (g : Phase → Bool)
    → ((reservation : Reservation) → reservation.occupancy ≡ Left None → t reservation ≡ false)
    → ((p : Phase) → list_any f (waiting_in p) ≡ g p) → (ms : List Pending) (queue : Queue) (standing : Standing)
    → IsTied ms queue standing
    → (list_any (λ x. t x.reservation) standing.issued || list_any f queue.entered)
    ≡ list_any (λ m. t (reservation_of m) || g m.phase) ms
unfolding reservation_of_issued
delayed_by t f g none h ms queue standing tied =
    cc (board_any t none ms, waiting_any f g h ms, any_either (λ m. t (reservation_of m)) (λ m. g m.phase) ms)

pub fetch_delayed : (a : ℕ) (ms : List Pending) (queue : Queue) (standing : Standing) → IsTied ms queue standing
    → (list_any (λ x. has_store_turn x.reservation) standing.issued || list_any (stores_here a) queue.entered)
    ≡ list_any (delays_fetch a) ms
unfolding delays_fetch
fetch_delayed a ms queue standing tied =
    delayed_by has_store_turn (stores_here a) (stores_in a) no_store (stores_in_phase a) ms queue standing tied

pub access_delayed : (a : ℕ) (ms : List Pending) (queue : Queue) (standing : Standing) → IsTied ms queue standing
    → (list_any (λ x. board.has_turn x.reservation) standing.issued || list_any (is_for a) queue.entered)
    ≡ list_any (delays_access a) ms
unfolding delays_access
access_delayed a ms queue standing tied =
    delayed_by board.has_turn (is_for a) (waits_in a) no_turn (waits_in_phase a) ms queue standing tied

-- ---- the waiting references ----

pub append-assoc : {K : Type 0} (xs ys zs : List K) → xs ++ (ys ++ zs) ≡ (xs ++ ys) ++ zs
append-assoc [] ys zs = refl
append-assoc (x ∷ xs) ys zs = ap (λ l. x ∷ l) (append-assoc xs ys zs)

pub waiting-append : (xs ys : List Pending) → waiting (xs ++ ys) ≡ waiting xs ++ waiting ys
unfolding waiting
waiting-append [] ys = refl
waiting-append (m ∷ xs) ys = grind (arith, waiting-append xs ys, append-assoc)

pub waiting_put : {K : Type 0} (f : Found Pending K) (xs : List Pending) → waiting (put_back f xs) ≡ waiting f.earlier
    ++ (waiting xs ++ waiting f.later)
unfolding put_back
waiting_put f xs = simp waiting-append

pub waiting_around : {K : Type 0} (g : Pending → Option K) (ms : List Pending) (f : Found Pending K)
    → seek g ms ≡ Some f → waiting ms ≡ waiting f.earlier ++ (waiting_in f.item.phase ++ waiting f.later)
unfolding waiting
waiting_around g ms f h = ap waiting (seek_splits g ms f h).0 ∙ waiting-append f.earlier (f.item ∷ f.later)

pub waiting_one : (m : Pending) → waiting (m ∷ []) ≡ waiting_in m.phase
unfolding waiting
waiting_one m = append-nil (waiting_in m.phase)

-- the hopper's list is unchanged if an instruction is replaced by another with the same reference
pub waiting_same : {K : Type 0} (g : Pending → Option K) (ms : List Pending) (f : Found Pending K) (xs : List Pending)
    → seek g ms ≡ Some f → waiting xs ≡ waiting_in f.item.phase → waiting (put_back f xs) ≡ waiting ms
waiting_same g ms f xs h e = grind (arith, waiting_put, waiting_around)

staged_waits : (u : FunctionalUnit) (ms : List Pending) (f : Found Pending Stage) (t : Stage)
    → seek (stage_at u) ms ≡ Some f → waiting (put_back f (in_phase f.item (Before t) ∷ [])) ≡ waiting ms
unfolding waiting_in in_phase
staged_waits u ms f t h =
    let q = stage_found u f.item f.answer (seek_splits (stage_at u) ms f h).1 in
    grind (arith, waiting_same, waiting_one)

-- a property of all instructions, after one was replaced
pub each_put : {K : Type 0} (P : Pending → Type 0) (g : Pending → Option K) (ms : List Pending) (f : Found Pending K)
    (xs : List Pending) → seek g ms ≡ Some f → (P f.item → Each P xs) → Each P ms → Each P (put_back f xs)
unfolding put_back
each_put P g ms f xs h step k =
    let all = subst (Each P) (seek_splits g ms f h).0 k in
    let rest = each_right P f.earlier (f.item ∷ f.later) all in
    grind (arith, each_append, each_left)

-- ---- places ----

place_taken : (p : ℕ) (ms : List Pending) → list_any (stands_at p) (waiting ms) ≡ list_any (in_place p) ms
unfolding waiting waiting_in entry_in stands_at in_place entry_at
place_taken p [] = refl
place_taken p (m ∷ ms) = grind (arith, place_taken p ms)

pub same_place : (ms : List Pending) → place_for ms ≡ free_place (λ p. list_any (in_place p) ms)
unfolding free_in place_for free_place taken_in
same_place ms = grind (arith, first_same, place_taken)

first_place_found : (taken : ℕ → Bool) (ps : List ℕ) (p : ℕ) → Each (λ q. q < 4) ps → first_place taken ps ≡ Some p
    → (taken p ≡ false) × (p < 4)
unfolding first_place
first_place_found taken [] p h e = cc
first_place_found taken (q ∷ ps) p h e = grind (arith, first_place_found taken ps p h.1)

pub place_found : (ms : List Pending) (p : ℕ) → place_for ms ≡ Some p → (list_any (in_place p) ms ≡ false) × (p < 4)
unfolding free_place
place_found ms p e = grind (arith, first_place_found, same_place)

-- ---- a store event ----

test_fails : (a : Bool) (k r : Refusal) (ts : List Test) → unless a k ≡ Err r
    → refusal_of (record { fails = a; refusal = k } ∷ ts) ≡ Some r
unfolding refusal_of
test_fails a k r ts h = grind arith

test_passes : (a : Bool) (k : Refusal) (x : Unit {0}) (ts : List Test) → unless a k ≡ Ok x
    → refusal_of (record { fails = a; refusal = k } ∷ ts) ≡ refusal_of ts
unfolding refusal_of
test_passes a k x ts h = grind arith

test_is : (a : Bool) (k : Refusal) → refusal_of (record { fails = a; refusal = k } ∷ []) ≡ refusal_in (unless a k)
unfolding refusal_of
test_is a k = grind arith

pub next_fails : (a : Bool) (k : Refusal) (ts : List Test) → a ≡ true
    → refusal_of (record { fails = a; refusal = k } ∷ ts) ≡ Some k
unfolding refusal_of
next_fails a k ts h = ap (λ b. cond b (Some k) (refusal_of ts)) h

pub next_passes : (a : Bool) (k : Refusal) (ts : List Test) → a ≡ false
    → refusal_of (record { fails = a; refusal = k } ∷ ts) ≡ refusal_of ts
unfolding refusal_of
next_passes a k ts h = ap (λ b. cond b (Some k) (refusal_of ts)) h

pub store_refused : (u : FunctionalUnit) (ms : List Pending) (xs : List Issued) (f : Found Pending Stage)
    (enters : Bool) (r : Refusal) → xs ≡ on_board ms → seek (stage_at u) ms ≡ Some f
    → Err r ≡ store_answer (seek (held_in u) xs)
    → refusal_of (store_conflicts ms f.earlier f.item.instr enters) ≡ Some r
store_refused u ms xs f enters r e h k =
    test_fails _ _ r _ (sym (k ∙ ap (λ l. store_answer (seek (held_in u) l)) e ∙ store_of_all u ms f h))

pub store_unroomed : (u : FunctionalUnit) (ms : List Pending) (xs : List Issued) (f : Found Pending Stage)
    (enters : Bool) (x : Unit {0}) → xs ≡ on_board ms → seek (stage_at u) ms ≡ Some f
    → Ok x ≡ store_answer (seek (held_in u) xs) → (enters && is_none (place_for ms)) ≡ true
    → refusal_of (store_conflicts ms f.earlier f.item.instr enters) ≡ Some HopperFull
store_unroomed u ms xs f enters x e h k full =
    grind (arith, test_passes, next_fails, store_of_all u ms f h)

pub store_turned : (u : FunctionalUnit) (ms : List Pending) (xs : List Issued) (f : Found Pending Stage)
    (enters : Bool) (x : Unit {0}) (r : Result (Unit {0}) Refusal) → xs ≡ on_board ms → seek (stage_at u) ms ≡ Some f
    → Ok x ≡ store_answer (seek (held_in u) xs) → (enters && is_none (place_for ms)) ≡ false
    → r ≡ turn_answer (seek (held_in u) xs)
    → refusal_of (store_conflicts ms f.earlier f.item.instr enters) ≡ refusal_in r
unfolding has_turn
store_turned u ms xs f enters x r e h k room t =
    grind (arith, test_passes, next_passes, test_is, store_of_all u ms f h, turn_of_all u ms f h)

-- ---- a unit that reads ----

abbrev pub read_refused : Option (Found Pending Stage) → Option Refusal
read_refused o = refusal_of (tests_found o (λ f. read_tests f.answer f.earlier f.item.instr))

pub not_waiting : (o : Option (Found Pending Stage)) (s : Located Stage) → located o ≡ Some s → (s.answer ≡ Unread → ⊥)
    → read_refused o ≡ Some Nothing
unfolding refusal_of tests_found read_tests nothing
not_waiting o s h k = grind (arith, there)

pub read_answered : (u : FunctionalUnit) (ms : List Pending) (xs : List Issued) (s : Located Stage)
    (r : Result (Unit {0}) Refusal) → xs ≡ on_board ms → located (seek (stage_at u) ms) ≡ Some s → s.answer ≡ Unread
    → r ≡ read_answer (seek (held_in u) xs) → read_refused (seek (stage_at u) ms) ≡ refusal_in r
unfolding tests_found read_tests
read_answered u ms xs s r e h w k =
    let p = there (seek (stage_at u) ms) s h in
    let a = read_of_all u ms p.0 p.1 in grind (arith, test_is)

pub read_tied : (u : FunctionalUnit) (ms ns : List Pending) (queue : Queue) (b c : Standing) (s : Located Stage)
    (os : Operands) → located (seek (stage_at u) ms) ≡ Some s → IsTied ms queue b
    → ns ≡ replaced (seek (stage_at u) ms) ms (λ m. in_phase m (Before (Read os)) ∷ [])
    → c ≡ with_issued b (replaced (seek (held_in u) b.issued) b.issued read) → IsTied ns queue c
unfolding replaced with_issued in_phase
read_tied u ms ns queue b c s os h tied en ec =
    let p = there (seek (stage_at u) ms) s h in
    let made : ns ≡ put_back p.0 (in_phase p.0.item (Before (Read os)) ∷ []) =
    en ∙ ap (λ o. replaced o ms (λ m. in_phase m (Before (Read os)) ∷ [])) p.1 in
    record {
      boarded = grind (arith, read_follows);
      entered = tied.entered ∙ sym (staged_waits u ms p.0 (Read os) p.1) ∙ ap waiting (sym made);
      counted = subst (λ l. Each (λ m. m.number ≤ l) ns) (sym (ap (λ (x : Standing). x.last) ec))
          (subst (Each (λ m. m.number ≤ b.last)) (sym made)
          (search each_put));
    }

-- ---- a unit that finishes ----

pub finish_tied : (u : FunctionalUnit) (ms ns : List Pending) (queue : Queue) (b : Standing) (v : UnitValue)
    (o : Option (Found Pending Stage)) → seek (stage_at u) ms ≡ o → IfSome (located o) (λ s. has_read s.answer ≡ true)
    → IsTied ms queue b → ns ≡ replaced o ms (λ m. in_phase m (Before (Finished v)) ∷ []) → IsTied ns queue b
unfolding replaced located in_phase
finish_tied u ms ns queue b v None h k tied en = subst (λ l. IsTied l queue b) (sym en) tied
finish_tied u ms ns queue b v (Some f) h k tied en =
    let made : ns ≡ put_back f (in_phase f.item (Before (Finished v)) ∷ []) = en in
    record {
      boarded = tied.boarded ∙ sym (stage_follows u ms f v h k) ∙ ap on_board (sym made);
      entered = tied.entered ∙ sym (staged_waits u ms f (Finished v) h) ∙ ap waiting (sym made);
      counted = subst (Each (λ m. m.number ≤ b.last)) (sym made)
          (search each_put);
    }

-- ---- a load that returns ----

returns_apart : (n w : ℕ) (e m : Pending) → m.phase ≡ After (Accepted n w) → IsApart e m → comes (X n) e ≡ false
unfolding coming overlap
returns_apart n w e m h a = grind arith

none_awaits : (n w : ℕ) (es : List Pending) (m : Pending) → m.phase ≡ After (Accepted n w) → Each (λ e. IsApart e m) es
    → conflict.awaited reservation_of es (X n) ≡ false
unfolding conflict.awaited comes
none_awaits n w [] m h a = refl
none_awaits n w (e ∷ es) m h a = cc (none_awaits n w es m h a.1, returns_apart n w e m h a.0)

in_channel : (n : ℕ) (p : Phase) (x : Arrival) → arrival_in n p ≡ Some x → x.channel ≡ n
unfolding arrival_in
in_channel n p x h = grind arith

pub arrival_phase : (n : ℕ) (m : Pending) (x : Arrival) → arrival_at n m ≡ Some x → m.phase ≡ After (Accepted n x.word)
unfolding arrival_at
arrival_phase n m x h = arrival_in_there n m.phase x h

arrival_channel : (n : ℕ) (m : Pending) (x : Arrival) → arrival_at n m ≡ Some x → x.channel ≡ n
unfolding arrival_at
arrival_channel n m x h = in_channel n m.phase x h

pub free_load : (n : ℕ) (ms : List Pending) (f : Found Pending Arrival) → seek (arrival_at n) ms ≡ Some f
    → Pairs IsApart ms → conflict.awaited reservation_of f.earlier (X n) ≡ false
free_load n ms f h apart =
    let p = seek_splits (arrival_at n) ms f h in
    none_awaits n f.answer.word f.earlier f.item (arrival_phase n f.item f.answer p.1)
    (pairs_before IsApart f.earlier f.item f.later (subst (Pairs IsApart) p.0 apart))

-- ---- nothing in flight ----

pub new_tied : (ms : List Pending) (queue : Queue) (b : Standing) → ms ≡ []
    → queue ≡ record { entered = []; busy = replicate 32 false } → b ≡ record { issued = []; last = 0 }
    → IsTied ms queue b
unfolding on_board waiting
new_tied ms queue b em eq eb = grind arith

-- ---- a bank that is free again ----

pub free_answered : (busy : List Bool) (bank : ℕ)
    → refusal_of (free_tests busy bank) ≡ refusal_in (free_answer busy bank)
unfolding refusal_of free_tests free_answer
free_answered busy bank = grind arith

pub full_is : (ms : List Pending) (queue : Queue) (b : Standing) → IsTied ms queue b
    → is_none (free_in queue.entered) ≡ is_none (place_for ms)
unfolding place_for
full_is ms queue b tied = ap (λ es. is_none (free_in es)) tied.entered

-- ---- a load that returns, as the board answers ----

pub return_answered : (n : ℕ) (ms : List Pending) (xs : List Issued) (s : Located Arrival)
    (r : Result (Unit {0}) Refusal) → xs ≡ on_board ms → Pairs IsApart ms → located (seek (arrival_at n) ms) ≡ Some s
    → r ≡ return_answer n (seek (returning_by n) xs)
    → refusal_of (tests_found (seek (arrival_at n) ms) (λ f. return_tests f.earlier f.answer)) ≡ refusal_in r
unfolding tests_found return_tests
return_answered n ms xs s r e apart h k =
    let p = there (seek (arrival_at n) ms) s h in
    let q = seek_splits (arrival_at n) ms p.0 p.1 in
    search (arith, arrival_channel, test_is, return_of_all, free_load)

pub return_tied : (n : ℕ) (ms ns : List Pending) (queue : Queue) (b c : Standing) (s : Located Arrival)
    → Pairs IsApart ms → located (seek (arrival_at n) ms) ≡ Some s → IsTied ms queue b
    → ns ≡ replaced (seek (arrival_at n) ms) ms (λ m. [])
    → c ≡ with_issued b (replaced (seek (returning_by n) b.issued) b.issued gone) → IsTied ns queue c
unfolding replaced with_issued waiting waiting_in
return_tied n ms ns queue b c s apart h tied en ec =
    let p = there (seek (arrival_at n) ms) s h in
    let q = seek_splits (arrival_at n) ms p.0 p.1 in
    let made : ns ≡ put_back p.0 [] = en ∙ ap (λ o. replaced o ms (λ m. [])) p.1 in
    record {
      boarded = grind (arith, return_follows, free_load);
      entered = grind (arith, waiting_same, arrival_phase);
      counted = subst (λ l. Each (λ m. m.number ≤ l) ns) (sym (ap (λ (x : Standing). x.last) ec))
          (subst (Each (λ m. m.number ≤ b.last)) (sym made)
          (each_put (λ m. m.number ≤ b.last) (arrival_at n) ms p.0 [] p.1 (λ k. tt) tied.counted));
    }

pub what_there : {K : Type 0} (o : Option (Found Pending K)) (s : Located K) → located o ≡ Some s
    → IfSome o (λ f. f.answer ≡ s.answer)
unfolding located
what_there o s h = grind arith

-- a flight in which only the pending instructions changed
pub changed_flight : (g : List Pending → List Pending) (ms ns : List Pending) (queue : Queue) (b c : Standing)
    (xs : List Issued) (f : Flight) → flight_of ms queue b ≡ f → ns ≡ g ms → c ≡ with_issued b xs
    → flight_of ns queue c ≡ with_pending f (g f.pending)
unfolding with_issued
changed_flight g ms ns queue b c xs f ef en ec = cc

-- ---- a reservation ----

same_unit_for : (ms : List Pending) (kind : Option UnitKind)
    → conflict.unit_for reservation_of_issued (on_board ms) kind ≡ unit_for ms kind
unfolding conflict.unit_for
same_unit_for ms kind = grind (arith, same_free)

reserve_refused : (ms : List Pending) (i : Instr) (b : Standing) (o : Option FunctionalUnit) → b.issued ≡ on_board ms
    → refusal_of (record { fails = is_none o; refusal = UnitBusy (first_unit (uses i).unit) }
    ∷ record {
      fails = list_any (awaited ms) (results (shape_of i));
      refusal = ResultReserved (conflict.first_such (awaited ms)
          (results (shape_of i)));
    } ∷ []) ≡ refusal_in (reserve_answer b i o)
unfolding reserve_answer refusal_of
reserve_refused ms i b o e = grind (arith, any_same, same_awaited, find_same)

pub reserve_answered : (ms : List Pending) (i : Instr) (place : SomePosition) (b : Standing)
    (r : Result (FunctionalUnit × ℕ) Refusal) → b.issued ≡ on_board ms
    → r ≡ reserve_answer b i (conflict.unit_for reservation_of_issued b.issued (uses i).unit)
    → refusal_of (reservation_tests ms (Taking i place)) ≡ refusal_in r
unfolding reservation_tests
reserve_answered ms i place b r e k =
    cc (reserve_refused ms i b (unit_for ms (uses i).unit) e, same_unit_for ms (uses i).unit)

pub unreserved : (b c : Standing) (i : Instr) (r : Result (FunctionalUnit × ℕ) Refusal) (k : Refusal)
    → c ≡ reserved b i r → r ≡ Err k → c ≡ b
unfolding reserved
unreserved b c i r k e h = e ∙ ap (reserved b i) h

pub reserved_now : (b c : Standing) (i : Instr) (r : Result (FunctionalUnit × ℕ) Refusal) (p : FunctionalUnit × ℕ)
    → c ≡ reserved b i r → r ≡ Ok p → c ≡ record { issued = b.issued ++ new_issued i p.0 p.1 ∷ []; last = p.1 }
unfolding reserved
reserved_now b c i r p e h = e ∙ ap (reserved b i) h

ok_inj : (x y : FunctionalUnit × ℕ) (r : Result (FunctionalUnit × ℕ) Refusal) → r ≡ Ok x → r ≡ Ok y → x ≡ y
ok_inj x y r e k = cc

reserve_ok : (b : Standing) (i : Instr) (o : Option FunctionalUnit) (p : FunctionalUnit × ℕ)
    → reserve_answer b i o ≡ Ok p → (o ≡ Some p.0) × (p.1 ≡ suc b.last)
unfolding reserve_answer
reserve_ok b i o p h = search (arith, ok_inj)

-- the unit and the number in the answer
pub reserved_as : (ms : List Pending) (i : Instr) (b : Standing) (r : Result (FunctionalUnit × ℕ) Refusal)
    (p : FunctionalUnit × ℕ) → b.issued ≡ on_board ms
    → r ≡ reserve_answer b i (conflict.unit_for reservation_of_issued b.issued (uses i).unit) → r ≡ Ok p
    → (unit_for ms (uses i).unit ≡ Some p.0) × (p.1 ≡ suc b.last)
reserved_as ms i b r p e k h = grind (arith, reserve_ok, same_unit_for)

first_free_is : (held : FunctionalUnit → Bool) (us : List FunctionalUnit) (u : FunctionalUnit)
    → first_free held us ≡ Some u → held u ≡ false
unfolding first_free
first_free_is held [] u h = cc
first_free_is held (v ∷ us) u h = grind (arith, first_free_is held us u)

not_held : (u : FunctionalUnit) (m : Pending) → board.holds u (reservation_of m) ≡ false → stage_at u m ≡ None
unfolding board.holds reservation_of stage_at stage_in is_reserved occupancy_of
not_held u m h = grind arith

pub unit_free : (ms : List Pending) (kind : Option UnitKind) (u : FunctionalUnit) → unit_for ms kind ≡ Some u
    → seek (stage_at u) ms ≡ None
unfolding conflict.unit_for free_unit is_held
unit_free ms kind u h = grind (arith, seek_nobody, each_of_any, not_held, first_free_is)

pub reserve_tied : (ms ns : List Pending) (queue : Queue) (b c : Standing) (i : Instr) (at : ℕ)
    (p : FunctionalUnit × ℕ) → IsTied ms queue b → p.1 ≡ suc b.last
    → c ≡ record { issued = b.issued ++ new_issued i p.0 p.1 ∷ []; last = p.1 } → ns ≡ ms
    ++ record { instr = i; at = at; number = p.1; unit = p.0; phase = Before Unread } ∷ [] → IsTied ns queue c
unfolding waiting waiting_in
reserve_tied ms ns queue b c i at p tied en ec es =
    grind (arith, issue_follows, waiting-append, each_append, each_map, append-nil)

pub all_below : (ms : List Pending) (last n : ℕ) → Each (λ m. m.number ≤ last) ms → n ≡ suc last
    → Each (λ m. m.number < n) ms
all_below ms last n h e = each_map (λ m. m.number ≤ last) (λ m. m.number < n) (λ m k. omega (arith, k, e)) ms h

pub reserved_flight : (ms ns : List Pending) (queue : Queue) (b c : Standing) (i : Instr) (at : ℕ)
    (p : FunctionalUnit × ℕ) → unit_for ms (uses i).unit ≡ Some p.0 → p.1 ≡ suc b.last
    → c ≡ record { issued = b.issued ++ new_issued i p.0 p.1 ∷ []; last = p.1 } → ns ≡ ms
    ++ record { instr = i; at = at; number = p.1; unit = p.0; phase = Before Unread } ∷ []
    → flight_of ns queue c ≡ reserved_in (flight_of ms queue b) i at
reserved_flight ms ns queue b c i at p eu en ec es = cc
