-- The list of pending instructions, and the part of it that the board has.
use Rattle.std.proofs.Common.{◌≡◌, ℕ, Bool, true, false, cond, List, [], ◌∷◌, ◌++◌, Option, Some, None, refl, sym, ap}
use Rattle.std.proofs.Common.{◌∙◌, subst, arith}
use Rattle.std.specs.Prelude.{◌&&◌}
use Rattle.std.specs.List.{list_any}
use Rattle.std.proofs.lemmas.Bool.{eq-eqb, or_parts}
use Rattle.instructions.specs.declared.instr.Instr.{Instr}
use Rattle.instructions.specs.declared.instr.Reg.{Reg}
use Rattle.instructions.specs.declared.instr.Reg.TheVariants.{X}
use Rattle.instructions.specs.declared.instr.Unit.{Unit as FunctionalUnit}
use Rattle.instructions.specs.declared.instr.UnitKind.{UnitKind}
use Rattle.instructions.specs.declared.refusal.Refusal.{Refusal}
use Rattle.instructions.specs.declared.refusal.Refusal.TheVariants.{OperandAwaited, ResultHeld, OutOfTurn}
use Rattle.instructions.specs.RegisterLists.{is_in}
use Rattle.instructions.specs.Shape.{shape_of, sets_of, has_reference}
use Rattle.instructions.specs.Operands.{sources_of}
use Rattle.relocation.specs.declared.area.Access.TheVariants.{Load, Store}
use Rattle.scoreboard.specs.declared.reservation.Occupancy.{Occupancy}
use Rattle.scoreboard.specs.declared.reservation.Occupancy.TheVariants.{Reserved, Left}
use Rattle.scoreboard.specs.declared.reservation.Reservation.{Reservation}
use Rattle.scoreboard.specs.Reservations.{is_reserved, returning_to, to_come, to_come_in, reads, reads_in, comes}
use Rattle.scoreboard.specs.Reservations.{reads_it, holds, has_turn}
use Rattle.scoreboard.specs.Units.{same_unit}
use Rattle.scoreboard.specs.Conflicts.{awaited, to_be_read, first_such, out_of_turn, is_held, free_unit}
use Rattle.unit_ops.specs.declared.Operands.{Operands}
use Rattle.unit_ops.specs.declared.UnitValue.{UnitValue}
use Rattle.scoreboard.specs.declared.issued.Issued.{Issued}
use Rattle.scoreboard.specs.Answers.{held_in, returns_in, returning_by, new_issued, unless, read_answer, store_answer}
use Rattle.scoreboard.specs.Answers.{return_answer, turn_answer, in_occupancy, read, left, left_with, gone}
use Rattle.scoreboard.specs.Issued.{reservation_of as reservation_of_issued, channel_of}
use Rattle.scoreboard.proofs.changing.Reserving.{first_free_same}
use Rattle.instructions.specs.Each.{Each}
use Rattle.in_flight.specs.declared.pending.Arrival.{Arrival}
use Rattle.hopper.specs.declared.reference.Reference.{Reference}
use Rattle.in_flight.specs.declared.pending.Outstanding.{Outstanding}
use Rattle.in_flight.specs.declared.pending.Outstanding.TheVariants.{Accepted}
use Rattle.in_flight.specs.declared.pending.Pending.{Pending}
use Rattle.in_flight.specs.declared.pending.Phase.{Phase}
use Rattle.in_flight.specs.declared.pending.Phase.TheVariants.{Before, After}
use Rattle.in_flight.specs.declared.pending.Stage.{Stage}
use Rattle.in_flight.specs.declared.pending.Stage.TheVariants.{Unread, Read, Finished}
use Rattle.in_flight.specs.Pending.{has_read, returning, occupancy_of, reservation_of, left_to_return}
use Rattle.instructions.specs.Finding.{Found, found_further, found_here, seek, put_back, replaced}
use Rattle.in_flight.specs.Lookup.{arrival_in, stage_in, stage_at, entry_at, arrival_at, in_phase, kept}
use Rattle.in_flight.specs.inner.Board.{issued_of, kept_on, on_board}
use Rattle.instructions.proofs.Finding.{seek_splits, seek_around}
use Rattle.in_flight.proofs.asking.Finding.{stage_found, entry_in_found}

-- the found instruction, as a search of the board finds it
unfoldable pub found_on_board : {K : Type 0} → Option (Found Pending K) → Option (Found Issued Instr)
found_on_board None = None
found_on_board (Some f) = Some
    (record {
      earlier = on_board f.earlier;
      item = issued_of f.item;
      answer = f.item.instr;
      later = on_board f.later;
    })

-- ---- the board's part of a list ----

board-append : (xs ys : List Pending) → on_board (xs ++ ys) ≡ on_board xs ++ on_board ys
unfolding on_board kept_on
board-append [] ys = refl
board-append (m ∷ xs) ys = grind (arith, board-append xs ys)

-- a test that is false for an instruction that has left the board
pub board_any : (t : Reservation → Bool) → ((reservation : Reservation) → reservation.occupancy ≡ Left None
    → t reservation ≡ false) → (ms : List Pending)
    → list_any (λ x. t (reservation_of_issued x)) (on_board ms) ≡ list_any (λ m. t (reservation_of m)) ms
unfolding on_board kept_on issued_of reservation_of_issued
board_any t h [] = refl
board_any t h (m ∷ ms) = grind (arith, board_any t h ms)

nothing_comes : (r : Reg) (reservation : Reservation) → reservation.occupancy ≡ Left None → comes r reservation ≡ false
unfolding comes to_come to_come_in returning_to is_in
nothing_comes r reservation e = ap (λ p. is_in (to_come_in (shape_of reservation.instr) p) r) e

nothing_read : (r : Reg) (reservation : Reservation) → reservation.occupancy ≡ Left None → reads_it r reservation ≡ false
unfolding reads_it reads reads_in is_in
nothing_read r reservation e = ap (λ p. is_in (reads_in (sources_of reservation.instr) p) r) e

pub no_turn : (reservation : Reservation) → reservation.occupancy ≡ Left None → has_turn reservation ≡ false
unfolding has_turn is_reserved
no_turn reservation e = ap (λ p. is_reserved p && has_reference (shape_of reservation.instr)) e

no_unit : (u : FunctionalUnit) (reservation : Reservation) → reservation.occupancy ≡ Left None
    → holds u reservation ≡ false
unfolding holds is_reserved
no_unit u reservation e = grind arith

pub same_awaited : (ms : List Pending) (r : Reg) → awaited reservation_of_issued (on_board ms) r
    ≡ awaited reservation_of ms r
unfolding awaited
same_awaited ms r = board_any (comes r) (nothing_comes r) ms

pub same_to_be_read : (ms : List Pending) (r : Reg) → to_be_read reservation_of_issued (on_board ms) r
    ≡ to_be_read reservation_of ms r
unfolding to_be_read
same_to_be_read ms r = board_any (reads_it r) (nothing_read r) ms

pub same_turn : (ms : List Pending) → out_of_turn reservation_of_issued (on_board ms) ≡ out_of_turn reservation_of ms
same_turn ms = board_any has_turn no_turn ms

pub same_held : (ms : List Pending) (u : FunctionalUnit) → is_held reservation_of_issued (on_board ms) u
    ≡ is_held reservation_of ms u
unfolding is_held
same_held ms u = board_any (holds u) (no_unit u) ms

pub same_free : (kind : UnitKind) (ms : List Pending)
    → free_unit reservation_of_issued (on_board ms) kind ≡ free_unit reservation_of ms kind
unfolding free_unit
same_free kind ms = grind (arith, first_free_same, same_held)

-- ---- the instruction that holds a unit ----

kept_nothing : (l : List Issued) (x : Issued) → kept_on (Left None) l x ≡ l
unfolding kept_on
kept_nothing l x = refl

after_off : {K : Type 0} (m : Pending) (o : Option (Found Pending K)) → (reservation_of m).occupancy ≡ Left None
    → found_on_board (found_further m o) ≡ found_on_board o
unfolding found_on_board found_further on_board
after_off m o e = grind (arith, kept_nothing)

kept_here : (p : Occupancy) (l : List Issued) (x : Issued) → (p ≡ Left None → ⊥) → kept_on p l x ≡ x ∷ l
unfolding kept_on
kept_here p l x h = grind arith

after_on : {K : Type 0} (m : Pending) (o : Option (Found Pending K)) → ((reservation_of m).occupancy ≡ Left None → ⊥)
    → found_on_board (found_further m o) ≡ found_further (issued_of m) (found_on_board o)
unfolding found_on_board found_further on_board
after_on m o h = grind (arith, kept_here)

-- searching the board by reservation finds the same instruction as searching the pending instructions
board_seek : {K : Type 0} (f : Pending → Option K) (g : Issued → Option Instr)
    → ((m : Pending) (k : K) → f m ≡ Some k → g (issued_of m) ≡ Some m.instr)
    → ((m : Pending) → f m ≡ None → g (issued_of m) ≡ None)
    → ((m : Pending) (k : K) → f m ≡ Some k → (reservation_of m).occupancy ≡ Left None → ⊥) → (ms : List Pending)
    → seek g (on_board ms) ≡ found_on_board (seek f ms)
unfolding seek found_here found_on_board on_board
board_seek f g pass fail stay [] = refl
board_seek {K} f g pass fail stay (m ∷ ms) =
    by_answer (f m) refl (reservation_of m).occupancy refl (board_seek f g pass fail stay ms)
  where
    by_answer : (o : Option K) → f m ≡ o → (p : Occupancy) → (reservation_of m).occupancy ≡ p
        → seek g (on_board ms) ≡ found_on_board (seek f ms)
        → seek g (kept_on p (on_board ms) (issued_of m)) ≡ found_on_board (found_here o m ms (seek f ms))
    by_answer (Some k) e p ep ih =
        ap (seek g) (kept_here p (on_board ms) (issued_of m) (λ q. stay m k e (ep ∙ q)))
        ∙ ap (λ o. found_here o (issued_of m) (on_board ms) (seek g (on_board ms))) (pass m k e)
    by_answer None e (Reserved b) ep ih =
        ap (seek g) (kept_here (Reserved b) (on_board ms) (issued_of m) (λ q. cc))
        ∙ ap (λ o. found_here o (issued_of m) (on_board ms) (seek g (on_board ms))) (fail m e)
        ∙ ap (found_further (issued_of m)) ih
        ∙ sym (after_on m (seek f ms) (λ q. let z : Reserved b ≡ Left None = sym ep ∙ q in cc))
    by_answer None e (Left (Some n)) ep ih =
        ap (seek g) (kept_here (Left (Some n)) (on_board ms) (issued_of m) (λ q. cc))
        ∙ ap (λ o. found_here o (issued_of m) (on_board ms) (seek g (on_board ms))) (fail m e)
        ∙ ap (found_further (issued_of m)) ih
        ∙ sym (after_on m (seek f ms) (λ q. let z : Left (Some n) ≡ Left None = sym ep ∙ q in cc))
    by_answer None e (Left None) ep ih =
        ap (seek g) (kept_nothing (on_board ms) (issued_of m)) ∙ ih ∙ sym (after_off m (seek f ms) ep)

unit_here_in : (u v : FunctionalUnit) (p : Phase) (t : Stage) → cond (same_unit v u) (stage_in p) None ≡ Some t
    → (same_unit v u && is_reserved (occupancy_of p)) ≡ true
unfolding stage_in is_reserved occupancy_of
unit_here_in u v p t h = grind arith

unit_not_in : (u v : FunctionalUnit) (p : Phase) → cond (same_unit v u) (stage_in p) None ≡ None
    → (same_unit v u && is_reserved (occupancy_of p)) ≡ false
unfolding stage_in is_reserved occupancy_of
unit_not_in u v p h = grind arith

unit_on_in : (b : Bool) (p : Phase) (t : Stage) → cond b (stage_in p) None ≡ Some t → occupancy_of p ≡ Left None → ⊥
unfolding stage_in occupancy_of
unit_on_in b p t h e = grind arith

pub unit_found : (u : FunctionalUnit) (ms : List Pending)
    → seek (held_in u) (on_board ms) ≡ found_on_board (seek (stage_at u) ms)
unfolding held_in holds issued_of reservation_of stage_at
unit_found u ms = search (arith, board_seek, unit_here_in, unit_not_in, unit_on_in)

-- ---- the board's answers ----

unless_same : (f g : Reg → Bool) (rs : List Reg) (k : Reg → Refusal) → ((r : Reg) → f r ≡ g r)
    → unless (list_any f rs) (k (first_such f rs)) ≡ unless (list_any g rs) (k (first_such g rs))
unless_same f g rs k h = grind arith

pub read_of_all : (u : FunctionalUnit) (ms : List Pending) (f : Found Pending Stage) → seek (stage_at u) ms ≡ Some f
    → read_answer (seek (held_in u) (on_board ms))
    ≡ unless (list_any (awaited reservation_of f.earlier) (sources_of f.item.instr))
    (OperandAwaited (first_such (awaited reservation_of f.earlier) (sources_of f.item.instr)))
unfolding read_answer found_on_board issued_of reservation_of
read_of_all u ms f h = search (arith, unit_found, unless_same, same_awaited)

pub store_of_all : (u : FunctionalUnit) (ms : List Pending) (f : Found Pending Stage) → seek (stage_at u) ms ≡ Some f
    → store_answer (seek (held_in u) (on_board ms))
    ≡ unless (list_any (to_be_read reservation_of f.earlier) (sets_of (shape_of f.item.instr)))
    (ResultHeld (first_such (to_be_read reservation_of f.earlier) (sets_of (shape_of f.item.instr))))
unfolding store_answer found_on_board issued_of reservation_of
store_of_all u ms f h = search (arith, unit_found, unless_same, same_to_be_read)

pub turn_of_all : (u : FunctionalUnit) (ms : List Pending) (f : Found Pending Stage) → seek (stage_at u) ms ≡ Some f
    → turn_answer (seek (held_in u) (on_board ms))
    ≡ unless (has_reference (shape_of f.item.instr) && out_of_turn reservation_of f.earlier) OutOfTurn
unfolding turn_answer found_on_board issued_of reservation_of
turn_of_all u ms f h = simp (unit_found, h, same_turn)

-- ---- a load that returns ----

pub arrival_in_there : (c : ℕ) (q : Phase) (x : Arrival) → arrival_in c q ≡ Some x → q ≡ After (Accepted c x.word)
unfolding arrival_in
arrival_in_there c q x h = grind arith

arrival_occupancy : (c : ℕ) (m : Pending) (x : Arrival) → arrival_at c m ≡ Some x
    → (reservation_of m).occupancy ≡ Left (Some c)
unfolding arrival_at reservation_of occupancy_of returning
arrival_occupancy c m x h = ap occupancy_of (arrival_in_there c m.phase x h)

not_reserved : (n : ℕ) (e : Pending) (b : Bool) → (reservation_of e).occupancy ≡ Reserved b
    → returning_by n (issued_of e) ≡ None
unfolding returning_by returns_in issued_of
not_reserved n e b h = ap (λ p. cond (returns_in n p) (Some (reservation_of e).instr) None) h

not_that : (n m : ℕ) (e : Pending) → (reservation_of e).occupancy ≡ Left (Some m)
    → comes (X n) (reservation_of e) ≡ false
    → returning_by n (issued_of e) ≡ None
unfolding returning_by returns_in issued_of comes to_come to_come_in returning_to is_in
not_that n m e h k = grind arith

silent_returns : (n : ℕ) (es : List Pending) → awaited reservation_of es (X n) ≡ false
    → Each (λ x. returning_by n x ≡ None) (on_board es)
unfolding awaited on_board kept_on
silent_returns n [] h = tt
silent_returns n (e ∷ es) h =
    let p = or_parts (comes (X n) (reservation_of e)) (list_any (λ m. comes (X n) (reservation_of m)) es) h in
    by_occupancy n (reservation_of e).occupancy refl (issued_of e) (on_board es) refl p.0 (silent_returns n es p.1)
  where
    by_occupancy : (n : ℕ) (p : Occupancy) → (reservation_of e).occupancy ≡ p → (x : Issued) (l : List Issued)
        → x ≡ issued_of e
        → comes (X n) (reservation_of e) ≡ false → Each (λ x. returning_by n x ≡ None) l
        → Each (λ x. returning_by n x ≡ None) (kept_on p l x)
    by_occupancy n (Reserved b) ep x l ex h k = (ap (returning_by n) ex ∙ not_reserved n e b ep, k)
    by_occupancy n (Left (Some m)) ep x l ex h k = (ap (returning_by n) ex ∙ not_that n m e ep h, k)
    by_occupancy n (Left None) ep x l ex h k = subst (Each (λ x. returning_by n x ≡ None)) (sym (kept_nothing l x)) k

returning_here : (n : ℕ) (m : Pending) (x : Arrival) → arrival_at n m ≡ Some x
    → returning_by n (issued_of m) ≡ Some m.instr
unfolding returning_by returns_in issued_of reservation_of
returning_here n m x h = grind (arith, arrival_occupancy, eq-eqb)

-- the board's part of a list around one of its instructions
board_around : (es : List Pending) (m : Pending) (ls : List Pending) → ((reservation_of m).occupancy ≡ Left None → ⊥)
    → on_board (es ++ m ∷ ls) ≡ on_board es ++ issued_of m ∷ on_board ls
unfolding on_board
board_around es m ls h = simp (board-append, kept_here)

-- a returning load, as a search of the board finds it
pub return_found : (n : ℕ) (ms : List Pending) (f : Found Pending Arrival) → seek (arrival_at n) ms ≡ Some f
    → awaited reservation_of f.earlier (X n) ≡ false → seek (returning_by n) (on_board ms) ≡ found_on_board (Some f)
unfolding found_on_board
return_found n ms f h k =
    let p = seek_splits (arrival_at n) ms f h in
    let q = arrival_occupancy n f.item f.answer p.1 in
    grind (arith, board_around, seek_around, silent_returns, returning_here)

pub return_of_all : (n : ℕ) (ms : List Pending) (f : Found Pending Arrival) → seek (arrival_at n) ms ≡ Some f
    → awaited reservation_of f.earlier (X n) ≡ false
    → return_answer n (seek (returning_by n) (on_board ms))
    ≡ unless (to_be_read reservation_of f.earlier (X n)) (ResultHeld (X n))
unfolding return_answer found_on_board
return_of_all n ms f h k = cc (return_found n ms f h k, same_to_be_read f.earlier (X n))

-- ---- the list after the board's calls ----

board_put : {K : Type 0} (f : Found Pending K) (xs : List Pending) → on_board (put_back f xs) ≡ on_board f.earlier
    ++ (on_board xs ++ on_board f.later)
unfolding put_back
board_put f xs = board-append f.earlier (xs ++ f.later) ∙ ap (λ l. on_board f.earlier ++ l) (board-append xs f.later)

unit_changed : (u : FunctionalUnit) (ms : List Pending) (f : Found Pending Stage) (g : Issued → List Issued)
    → seek (stage_at u) ms ≡ Some f → replaced (seek (held_in u) (on_board ms)) (on_board ms) g ≡ on_board f.earlier
    ++ (g (issued_of f.item) ++ on_board f.later)
unfolding replaced put_back found_on_board
unit_changed u ms f g h = ap (λ o. replaced o (on_board ms) g) (unit_found u ms ∙ ap found_on_board h)

read_put : (m : Pending) (os : Operands) → on_board (in_phase m (Before (Read os)) ∷ []) ≡ read (issued_of m)
unfolding on_board kept_on read issued_of reservation_of in_occupancy in_phase occupancy_of has_read
read_put m os = refl

pub read_follows : (u : FunctionalUnit) (ms : List Pending) (f : Found Pending Stage) (os : Operands)
    → seek (stage_at u) ms ≡ Some f
    → on_board (put_back f (in_phase f.item (Before (Read os)) ∷ []))
    ≡ replaced (seek (held_in u) (on_board ms)) (on_board ms) read
read_follows u ms f os h = grind (arith, board_put, read_put, unit_changed)

-- a list in which the board's part of the changed instruction is unchanged
same_put : {K : Type 0} (g : Pending → Option K) (ms : List Pending) (f : Found Pending K) (xs : List Pending)
    → seek g ms ≡ Some f → on_board xs ≡ on_board (f.item ∷ []) → on_board (put_back f xs) ≡ on_board ms
same_put g ms f xs h e =
    let p = seek_splits g ms f h in grind (arith, board_put, board-append f.earlier (f.item ∷ f.later), board-append (f.item ∷ []) f.later)

seen_alike : (m n : Pending) → issued_of m ≡ issued_of n → on_board (m ∷ []) ≡ on_board (n ∷ [])
unfolding on_board issued_of
seen_alike m n e = ap (λ (x : Issued). kept_on x.reservation.occupancy [] x) e

-- an instruction that has read reaches another stage after the read
pub stage_follows : (u : FunctionalUnit) (ms : List Pending) (f : Found Pending Stage) (v : UnitValue)
    → seek (stage_at u) ms ≡ Some f → has_read f.answer ≡ true
    → on_board (put_back f (in_phase f.item (Before (Finished v)) ∷ [])) ≡ on_board ms
unfolding issued_of reservation_of in_phase occupancy_of has_read
stage_follows u ms f v h e =
    let p = seek_splits (stage_at u) ms f h in
    let q : occupancy_of f.item.phase ≡ Reserved true =
    ap occupancy_of (stage_found u f.item f.answer p.1) ∙ ap Reserved e in
    grind (arith, same_put, seen_alike)

kept_put : (m : Pending) (l : Option Outstanding) → on_board (kept m l) ≡ left_with (issued_of m) (left_to_return l)
unfolding on_board kept kept_on left_with issued_of reservation_of in_occupancy in_phase occupancy_of left_to_return
kept_put m l = grind arith

pub store_follows : (u : FunctionalUnit) (ms : List Pending) (f : Found Pending Stage) (l : Option Outstanding)
    → seek (stage_at u) ms ≡ Some f → left_to_return l ≡ channel_of (shape_of f.item.instr)
    → on_board (put_back f (kept f.item l)) ≡ replaced (seek (held_in u) (on_board ms)) (on_board ms) left
unfolding left issued_of reservation_of
store_follows u ms f l h e = cc (board_put f (kept f.item l), kept_put f.item l, unit_changed u ms f left h)

pub load_follows : (p : ℕ) (ms : List Pending) (f : Found Pending Reference) (n w : ℕ)
    → seek (entry_at p) ms ≡ Some f → f.answer.access ≡ Load n
    → on_board (put_back f (in_phase f.item (After (Accepted n w)) ∷ [])) ≡ on_board ms
unfolding entry_at issued_of reservation_of in_phase occupancy_of returning
load_follows p ms f n w h e =
    let q = entry_in_found p f.item.phase f.answer (seek_splits (entry_at p) ms f h).1 in
    grind (arith, same_put, seen_alike)

unseen : (m : Pending) → (reservation_of m).occupancy ≡ Left None → [] ≡ on_board (m ∷ [])
unfolding on_board kept_on
unseen m e = sym (ap (λ p. kept_on p [] (issued_of m)) e)

pub stored_follows : (p : ℕ) (ms : List Pending) (f : Found Pending Reference) (w : ℕ)
    → seek (entry_at p) ms ≡ Some f → f.answer.access ≡ Store w → on_board (put_back f []) ≡ on_board ms
unfolding entry_at reservation_of occupancy_of returning on_board
stored_follows p ms f w h e =
    let q = entry_in_found p f.item.phase f.answer (seek_splits (entry_at p) ms f h).1 in
    grind (arith, same_put, unseen)

pub return_follows : (n : ℕ) (ms : List Pending) (f : Found Pending Arrival) → seek (arrival_at n) ms ≡ Some f
    → awaited reservation_of f.earlier (X n) ≡ false
    → on_board (put_back f []) ≡ replaced (seek (returning_by n) (on_board ms)) (on_board ms) gone
unfolding gone on_board replaced put_back found_on_board
return_follows n ms f h k = cc (board_put f [], return_found n ms f h k)

pub issue_follows : (ms : List Pending) (i : Instr) (at number : ℕ) (u : FunctionalUnit)
    → on_board (ms ++ record { instr = i; at = at; number = number; unit = u; phase = Before Unread } ∷ [])
    ≡ on_board ms ++ new_issued i u number ∷ []
unfolding on_board kept_on issued_of reservation_of occupancy_of has_read new_issued
issue_follows ms i at number u = simp board-append
