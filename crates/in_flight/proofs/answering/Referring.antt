-- References that enter the hopper and that banks accept, compared with the list of pending instructions.
use Rattle.std.proofs.lemmas.Bool.Decides.{nat_tests}
use Rattle.std.proofs.Common.{◌≡◌, ◌≢◌, ◌<◌, ◌≤◌, ◌+◌, ℕ, Bool, true, false, cond, List, [], ◌∷◌, ◌++◌, Option, Some}
use Rattle.std.proofs.Common.{None, refl, sym, ap, ◌∙◌, subst, set, length, arith, append-nil}
use Rattle.std.specs.Prelude.{◌&&◌, is_none, is_some, Result, Ok, Err, IfSome, unwrap_or}
use Rattle.std.specs.List.{list_any}
use Rattle.instructions.specs.declared.instr.Reg.{Reg}
use Rattle.instructions.specs.declared.instr.Reg.TheVariants.{X, A}
use Rattle.instructions.specs.declared.instr.Unit.{Unit as FunctionalUnit}
use Rattle.instructions.specs.declared.refusal.Refusal.{Refusal}
use Rattle.instructions.specs.Each.{Each, Pairs}
use Rattle.instructions.specs.Finding.{Found as FoundIn, seek as seek_in, put_back as put_back_of, replaced, Found}
use Rattle.instructions.specs.Finding.{seek, found_here, found_further, put_back}
use Rattle.instructions.specs.RegisterLists.{is_in, overlap}
use Rattle.instructions.specs.Shape.{Shape, Loads, shape_of, results, sets_of, loads_of, has_reference}
use Rattle.instructions.proofs.Lists.{any_right, each_append, each_map, each_of_any, pairs_before, pairs_right}
use Rattle.relocation.specs.declared.area.Access.{Access}
use Rattle.relocation.specs.declared.area.Access.TheVariants.{Load, Store}
use Rattle.hopper.specs.Hopper.{bank_of}
use Rattle.hopper.specs.Queue.{Queue, reference_at, holds_back as keeps_back, accept_answer, accepted}
use Rattle.hopper.specs.Queue.{place_for as free_in, enter_answer}
use Rattle.hopper.specs.declared.entered.Entered.{Entered}
use Rattle.hopper.specs.declared.reference.Reference.{Reference}
use Rattle.scoreboard.specs.Reservations as board
use Rattle.scoreboard.specs.Reservations.{is_reserved, returning_to}
use Rattle.scoreboard.specs.Issued.{channel_of}
use Rattle.scoreboard.specs.Answers.{Standing, held_in, left, with_issued}
use Rattle.in_flight.specs.declared.flight.InFlight.TheInside.{Inside}
use Rattle.in_flight.specs.declared.referring.Relocated.{Relocated}
use Rattle.in_flight.specs.declared.pending.Outstanding.{Outstanding}
use Rattle.in_flight.specs.declared.pending.Outstanding.TheVariants.{Entered as HasEntered, Accepted}
use Rattle.in_flight.specs.declared.pending.Pending.{Pending}
use Rattle.in_flight.specs.declared.pending.Phase.{Phase}
use Rattle.in_flight.specs.declared.pending.Phase.TheVariants.{Before, After}
use Rattle.in_flight.specs.declared.pending.Stage.{Stage}
use Rattle.in_flight.specs.inner.Board.{on_board, IsTied}
use Rattle.in_flight.specs.Pending.{left_to_return, reservation_of, occupancy_of, returning, to_come, has_turn}
use Rattle.in_flight.specs.Pending.{is_entered, entered_in, holds_back, holds_back_in}
use Rattle.in_flight.specs.Tests.{refusal_in, refusal_of, nothing, tests_found, accept_tests}
use Rattle.in_flight.specs.Flight.{left_by, Flight, flight_of, IsRestOf, entering, outstanding_of, with_pending}
use Rattle.in_flight.specs.Lookup.{waiting_in, waiting}
use Rattle.in_flight.specs.inner.OwnSlots.{HasOwnSlots, IsChannel, IsPlaced}
use Rattle.in_flight.specs.inner.Slots.{slot_in, slot_of, AreElsewhere, HasRoom}
use Rattle.in_flight.specs.Lookup.{located, stage_at, entry_at, entry_in, in_place, place_for, enters, in_phase, kept}
use Rattle.in_flight.specs.Apart.{IsApart}
use Rattle.in_flight.proofs.answering.Beside.{any-append, waiting_put, waiting_around, waiting_one}
use Rattle.in_flight.proofs.answering.Beside.{each_put, place_found, arrival_phase}
use Rattle.instructions.proofs.Finding.{seek_splits, seek_around, seek_nobody}
use Rattle.in_flight.proofs.asking.Finding.{stage_found}
use Rattle.in_flight.proofs.answering.Boarding.{store_follows, load_follows, stored_follows}
use Rattle.in_flight.proofs.in_slots.Moving.{arrival_is, entry_is}
use Rattle.in_flight.proofs.asking.Slotting.{loads_channel, proper_there, placed_in}

-- ---- a reference in its place ----

entry_in_is : (p : ℕ) (q : Phase) (e : Reference) → entry_in p q ≡ Some e → q ≡ After (HasEntered p e.address e.access)
unfolding entry_in
entry_in_is p q e h = grind arith

entry_phase : (p : ℕ) (m : Pending) (e : Reference) → entry_at p m ≡ Some e
    → m.phase ≡ After (HasEntered p e.address e.access)
unfolding entry_at
entry_phase p m e h = entry_in_is p m.phase e h

not_in_place : (p : ℕ) (q : Phase) → entry_in p q ≡ None → Each (λ e. reference_at p e ≡ None) (waiting_in q)
unfolding entry_in waiting_in reference_at
not_in_place p q h = grind arith

none_waiting : (p : ℕ) (es : List Pending) → Each (λ m. entry_at p m ≡ None) es
    → Each (λ e. reference_at p e ≡ None) (waiting es)
unfolding waiting entry_at
none_waiting p [] h = tt
none_waiting p (m ∷ es) h = grind (arith, none_waiting p es h.1, each_append, not_in_place)

seek_silent : {K : Type 0} (g : Pending → Option K) (ms : List Pending) → seek g ms ≡ None → Each (λ m. g m ≡ None) ms
unfolding seek found_here found_further
seek_silent g [] h = tt
seek_silent {K} g (m ∷ ms) h = grind (arith, seek_silent g ms)

abbrev pub in_queue : ℕ → Found Pending Reference → FoundIn Entered Reference
in_queue p f = record {
  earlier = waiting f.earlier;
  item = record { place = p; reference = f.answer };
  answer = f.answer;
  later = waiting f.later;
}

stands_there : (p : ℕ) (r : Reference) → reference_at p (record { place = p; reference = r }) ≡ Some r
unfolding reference_at
stands_there p r = grind arith

pub queue_found : (p : ℕ) (ms : List Pending) (f : Found Pending Reference) → seek (entry_at p) ms ≡ Some f
    → seek_in (reference_at p) (waiting ms) ≡ Some (in_queue p f)
unfolding waiting_in
queue_found p ms f h =
    let q = seek_splits (entry_at p) ms f h in
    let e = entry_phase p f.item f.answer q.1 in
    let s = seek_around (reference_at p) (waiting f.earlier) (record { place = p; reference = f.answer })
    f.answer (waiting f.later) (none_waiting p f.earlier q.2) (stands_there p f.answer) in
    grind (arith, waiting_around (entry_at p) ms f h)

pub queue_nobody : (p : ℕ) (ms : List Pending) → seek (entry_at p) ms ≡ None
    → seek_in (reference_at p) (waiting ms) ≡ None
queue_nobody p ms h = seek_nobody (reference_at p) (waiting ms) (none_waiting p ms (seek_silent (entry_at p) ms h))

back_in : (r : Reference) (q : Phase)
    → list_any (keeps_back r) (waiting_in q) ≡ holds_back_in r.address r.access q
unfolding waiting_in keeps_back holds_back_in
back_in r q = grind arith

back_waits : (r : Reference) (es : List Pending)
    → list_any (keeps_back r) (waiting es) ≡ list_any (holds_back r.address r.access) es
unfolding waiting holds_back
back_waits r [] = refl
back_waits r (m ∷ es) = grind (arith, back_waits r es, any-append, back_in)

tests_answer : (x y : Bool) (j k : Refusal) (r : Reference)
    → refusal_of (record { fails = x; refusal = j } ∷ record { fails = y; refusal = k } ∷ [])
    ≡ refusal_in (cond x (Err j) (cond y (Err k) (Ok r)))
unfolding refusal_of
tests_answer x y j k r = grind arith

none_answer : (busy : List Bool) → refusal_of nothing ≡ refusal_in (accept_answer busy None)
unfolding refusal_of nothing accept_answer
none_answer busy = refl

some_answer : (busy : List Bool) (p : ℕ) (f : Found Pending Reference)
    → refusal_of (accept_tests busy f.earlier f.answer) ≡ refusal_in (accept_answer busy (Some (in_queue p f)))
unfolding accept_tests accept_answer
some_answer busy p f = grind (arith, tests_answer, back_waits)

nothing_taken : (busy : List Bool) (r : Reference) → accept_answer busy None ≡ Ok r → ⊥
unfolding accept_answer
nothing_taken busy r h = cc

taken_is : (busy : List Bool) (f : FoundIn Entered Reference) (r : Reference) → accept_answer busy (Some f) ≡ Ok r
    → f.answer ≡ r
unfolding accept_answer
taken_is busy f r h = grind arith

pub accept_answered : (p : ℕ) (ms : List Pending) (queue : Queue) (r : Result Reference Refusal)
    → queue.entered ≡ waiting ms → r ≡ accept_answer queue.busy (seek_in (reference_at p) queue.entered)
    → refusal_of (tests_found (seek (entry_at p) ms) (λ f. accept_tests queue.busy f.earlier f.answer)) ≡ refusal_in r
unfolding tests_found
accept_answered p ms queue r e k = by_found (seek (entry_at p) ms) refl
  where
    by_found : (o : Option (Found Pending Reference)) → seek (entry_at p) ms ≡ o
        → refusal_of (tests_found o (λ f. accept_tests queue.busy f.earlier f.answer)) ≡ refusal_in r
    by_found None h = cc (none_answer queue.busy, queue_nobody p ms h)
    by_found (Some f) h = cc (some_answer queue.busy p f, queue_found p ms f h)

-- the accepted reference waited in the place
pub accept_found : (p : ℕ) (ms : List Pending) (queue : Queue) (a : Result Reference Refusal) (r : Reference)
    → queue.entered ≡ waiting ms → a ≡ accept_answer queue.busy (seek_in (reference_at p) queue.entered) → a ≡ Ok r
    → (f : Found Pending Reference) × (seek (entry_at p) ms ≡ Some f) × (f.answer ≡ r)
accept_found p ms queue a r e k h = by_found (seek (entry_at p) ms) refl
  where
    by_found : (o : Option (Found Pending Reference)) → seek (entry_at p) ms ≡ o → (f : Found Pending Reference)
        × (o ≡ Some f) × (f.answer ≡ r)
    by_found None i = let n = queue_nobody p ms i in absurd (grind (arith, nothing_taken))
    by_found (Some f) i = let n = queue_found p ms f i in (f, refl, grind (arith, taken_is))

-- the place, address and channel of the reference
pub entry_placed : (size p : ℕ) (ms : List Pending) (f : Found Pending Reference) → HasOwnSlots size ms
    → seek (entry_at p) ms ≡ Some f → IsPlaced size f.item.unit (After (HasEntered p f.answer.address f.answer.access))
entry_placed size p ms f own_slots h =
    let q = seek_splits (entry_at p) ms f h in
    placed_in size f.item (After (HasEntered p f.answer.address f.answer.access)) (entry_phase p f.item f.answer q.1)
    (proper_there size f.earlier f.item f.later (subst (HasOwnSlots size) q.0 own_slots))

-- ---- the channel of a load ----

-- two instructions that are both to load the same register aren't apart
one_load : (n : ℕ) (rs ts : List Reg) (e l : Pending) → to_come e ≡ ts ++ X n ∷ [] → to_come l ≡ rs ++ X n ∷ []
    → IsApart e l → ⊥
unfolding overlap is_in
one_load n rs ts e l he hl a = grind (arith, nat_tests, any_right)

coming_in : (n w : ℕ) (y : Pending) → y.phase ≡ After (Accepted n w) → to_come y ≡ X n ∷ []
unfolding to_come board.to_come reservation_of board.to_come_in occupancy_of returning returning_to
coming_in n w y h = ap (λ p. board.to_come_in (shape_of y.instr) (occupancy_of p)) h

coming_to : (n : ℕ) (y : Pending) → n < 8 → slot_of y ≡ 14 + n → to_come y ≡ X n ∷ []
coming_to n y b h =
    let p = arrival_is n y b h in
    coming_in n p.0.word y (arrival_phase n y p.0 p.1)

-- no other load waits in the channel of a load that is still to return
pub channel_free : (n : ℕ) (rs : List Reg) (es : List Pending) (m : Pending) (ls : List Pending)
    → Pairs IsApart (es ++ m ∷ ls) → to_come m ≡ rs ++ X n ∷ [] → n < 8 → slot_of m ≢ 14 + n
    → AreElsewhere (14 + n) (es ++ m ∷ ls)
channel_free n rs es m ls apart h b away =
    each_append (λ y. slot_of y ≢ 14 + n) es (m ∷ ls)
    (each_map (λ e. IsApart e m) (λ y. slot_of y ≢ 14 + n) (λ y a k. one_load n rs [] y m (coming_to n y b k) h a) es
    (pairs_before IsApart es m ls apart)) (
      away,
      each_map (IsApart m) (λ y. slot_of y ≢ 14 + n) (λ y a k. one_load n [] rs m y h (coming_to n y b k) a) ls
          (pairs_right IsApart es (m ∷ ls) apart).0,
    )

referring_comes : (n p a : ℕ) (y : Pending) → y.phase ≡ After (HasEntered p a (Load n)) → to_come y ≡ X n ∷ []
unfolding to_come board.to_come reservation_of board.to_come_in occupancy_of returning returning_to
referring_comes n p a y h = ap (λ q. board.to_come_in (shape_of y.instr) (occupancy_of q)) h

referring_away : (n p a : ℕ) (x : Access) (y : Pending) → p < 4 → y.phase ≡ After (HasEntered p a x)
    → slot_of y ≢ 14 + n
unfolding slot_of slot_in
referring_away n p a x y b h k = grind arith

room_by : (memory : List ℕ) (p : ℕ) (ms : List Pending) (f : Found Pending Reference) (x : Access) → Pairs IsApart ms
    → HasOwnSlots (length memory) ms → seek (entry_at p) ms ≡ Some f → f.answer.access ≡ x
    → HasRoom (left_by memory f.answer.address x) ms
room_by memory p ms f (Store w) apart own_slots h e = tt
room_by memory p ms f (Load n) apart own_slots h e =
    let q = seek_splits (entry_at p) ms f h in
    let placed : IsPlaced (length memory) f.item.unit (After (HasEntered p f.answer.address (Load n))) =
    grind (arith, entry_placed) in
    let here : f.item.phase ≡ After (HasEntered p f.answer.address (Load n)) =
    entry_phase p f.item f.answer q.1 ∙ ap (λ x. After (HasEntered p f.answer.address x)) e in
    let b : n < 8 = (let l : n < 6 = placed.2.1 in omega (arith, l)) in (
      b,
      subst (AreElsewhere (14 + n)) (sym q.0)
          (channel_free n [] f.earlier f.item f.later (subst (Pairs IsApart) q.0 apart)
          (referring_comes n p f.answer.address f.item here) b
          (referring_away n p f.answer.address (Load n) f.item placed.0 here)),
    )

pub room_for_word : (memory : List ℕ) (p : ℕ) (ms : List Pending) (f : Found Pending Reference) (r : Reference)
    (l : Option Outstanding) → Pairs IsApart ms → HasOwnSlots (length memory) ms → seek (entry_at p) ms ≡ Some f
    → f.answer ≡ r → l ≡ left_by memory r.address r.access → HasRoom l ms
room_for_word memory p ms f r l apart own_slots h e el = grind (arith, room_by)

taken_waits : (memory : List ℕ) (a : ℕ) (x : Access) (m : Pending) → waiting (kept m (left_by memory a x)) ≡ []
unfolding kept waiting waiting_in in_phase
taken_waits memory a x m = grind arith

taken_boarded : (memory : List ℕ) (p : ℕ) (ms : List Pending) (f : Found Pending Reference) (x : Access)
    → seek (entry_at p) ms ≡ Some f → f.answer.access ≡ x
    → on_board (put_back f (kept f.item (left_by memory f.answer.address x))) ≡ on_board ms
unfolding kept
taken_boarded memory p ms f x h e = grind (arith, load_follows, stored_follows)

each_kept : (n : ℕ) (m : Pending) (l : Option Outstanding) → m.number ≤ n → Each (λ y. y.number ≤ n) (kept m l)
unfolding kept in_phase
each_kept n m l h = grind arith

queue_taken : (queue : Queue) (ms : List Pending) (p : ℕ) (f : Found Pending Reference) → queue.entered ≡ waiting ms
    → seek (entry_at p) ms ≡ Some f
    → accepted queue (seek_in (reference_at p) queue.entered)
    ≡ record { entered = waiting f.earlier ++ waiting f.later; busy = set queue.busy (bank_of f.answer.address) true }
unfolding accepted put_back_of
queue_taken queue ms p f e h = cc (queue_found p ms f h)

abbrev pub taken_from : ℕ → List ℕ → Reference → List Pending → List Pending
taken_from p memory r ms = replaced (seek (entry_at p) ms) ms (λ m. kept m (left_by memory r.address r.access))

accept_made : (memory : List ℕ) (p : ℕ) (ms ns : List Pending) (f : Found Pending Reference) (r : Reference)
    (l : Option Outstanding) → seek (entry_at p) ms ≡ Some f → f.answer ≡ r
    → l ≡ left_by memory r.address r.access → ns ≡ replaced (seek (entry_at p) ms) ms (λ m. kept m l)
    → ns ≡ put_back f (kept f.item (left_by memory f.answer.address f.answer.access))
unfolding replaced
accept_made memory p ms ns f r l h e el en = cc

pub accept_tied : (memory : List ℕ) (p : ℕ) (ms ns : List Pending) (queue after : Queue) (b : Standing)
    (f : Found Pending Reference) (r : Reference) (l : Option Outstanding) → IsTied ms queue b
    → seek (entry_at p) ms ≡ Some f → f.answer ≡ r → l ≡ left_by memory r.address r.access
    → ns ≡ replaced (seek (entry_at p) ms) ms (λ m. kept m l)
    → after ≡ accepted queue (seek_in (reference_at p) queue.entered) → IsTied ns after b
accept_tied memory p ms ns queue after b f r l tied h e el en eq =
    let made = accept_made memory p ms ns f r l h e el en in
    record {
      boarded = tied.boarded ∙ sym (taken_boarded memory p ms f f.answer.access h refl) ∙ ap on_board (sym made);
      entered = grind (arith, queue_taken, waiting_put, taken_waits);
      counted = subst (Each (λ m. m.number ≤ b.last)) (sym made)
          (each_put (λ m. m.number ≤ b.last) (entry_at p) ms f
          (kept f.item (left_by memory f.answer.address f.answer.access)) h
          (λ k. each_kept b.last f.item (left_by memory f.answer.address f.answer.access) k) tied.counted);
    }

pub accept_flight : (memory : List ℕ) (p : ℕ) (ms ns : List Pending) (queue after : Queue) (b : Standing)
    (f : Found Pending Reference) (r : Reference) (l : Option Outstanding) (now : Flight)
    → flight_of ms queue b ≡ now → IsTied ms queue b → seek (entry_at p) ms ≡ Some f → f.answer ≡ r
    → l ≡ left_by memory r.address r.access → ns ≡ replaced (seek (entry_at p) ms) ms (λ m. kept m l)
    → after ≡ accepted queue (seek_in (reference_at p) queue.entered)
    → flight_of ns after b ≡ record now {
      pending = taken_from p memory r now.pending;
      busy = set now.busy (bank_of r.address) true;
    }
accept_flight memory p ms ns queue after b f r l now ev tied h e el en eq =
    grind (arith, queue_taken queue ms p f tied.entered h)

-- ---- the reference of an instruction that leaves a unit ----

-- the lowest free place of the hopper is the lowest free place in the list
pub later_is : (ms : List Pending) (queue : Queue) (rest : Option Relocated) (l : Option Outstanding)
    → queue.entered ≡ waiting ms → l ≡ outstanding_of (unwrap_or (free_in queue.entered) 0) rest
    → l ≡ outstanding_of (unwrap_or (place_for ms) 0) rest
unfolding place_for
later_is ms queue rest l e el = el ∙ ap (λ es. outstanding_of (unwrap_or (free_in es) 0) rest) e

returns_alike : (place : ℕ) (rest : Option Relocated)
    → left_to_return (outstanding_of place rest) ≡ left_to_return (outstanding_of 0 rest)
unfolding left_to_return outstanding_of entering returning
returns_alike place rest = grind arith

loads_through : (h : Shape) (n : ℕ) → Some n ≡ channel_of h → h ≡ Loads n
unfolding channel_of
loads_through h n e = grind arith

load_comes : (m : Pending) (t : Stage) (n : ℕ) → m.phase ≡ Before t → shape_of m.instr ≡ Loads n
    → to_come m ≡ (A n ∷ []) ++ X n ∷ []
unfolding to_come board.to_come reservation_of board.to_come_in occupancy_of results sets_of loads_of
load_comes m t n h e = ap (λ p. board.to_come_in (shape_of m.instr) (occupancy_of p)) h ∙ ap results e

unit_away : (m : Pending) (t : Stage) (n : ℕ) → m.phase ≡ Before t → slot_of m ≢ 14 + n
unfolding slot_of slot_in
unit_away m t n h k = grind arith

place_away : (p : ℕ) (y : Pending) → p < 4 → in_place p y ≡ false → slot_of y ≢ 10 + p
unfolding in_place
place_away p y b h k = let q = entry_is p y b k in cc

room_entering : (u : FunctionalUnit) (ms : List Pending) (f : Found Pending Stage) (o : Option ℕ) (x : Access)
    → Pairs IsApart ms → seek (stage_at u) ms ≡ Some f
    → left_to_return (entering 0 o x) ≡ channel_of (shape_of f.item.instr)
    → (enters (entering 0 o x) ≡ true → is_none (place_for ms) ≡ false)
    → HasRoom (entering (unwrap_or (place_for ms) 0) o x) ms
unfolding entering left_to_return returning enters
room_entering u ms f (Some a) x apart h returns room = by_place (place_for ms) refl (room refl)
  where
    by_place : (q : Option ℕ) → place_for ms ≡ q → is_none q ≡ false
        → HasRoom (Some (HasEntered (unwrap_or q 0) a x)) ms
    by_place None e k = cc
    by_place (Some p) e k =
        let q = place_found ms p e in
        (q.1, each_of_any (in_place p) (λ y. slot_of y ≢ 10 + p) (λ y k. place_away p y q.1 k) ms q.0)
room_entering u ms f None (Store w) apart h returns room = tt
room_entering u ms f None (Load n) apart h returns room =
    let q = seek_splits (stage_at u) ms f h in
    let t = stage_found u f.item f.answer q.1 in
    let k = loads_through (shape_of f.item.instr) n returns in
    let c : IsChannel n = loads_channel f.item.instr n k in
    let b : n < 8 = (let l : n < 6 = c.1 in omega (arith, l)) in (
      b,
      subst (AreElsewhere (14 + n)) (sym q.0)
          (channel_free n (A n ∷ []) f.earlier f.item f.later (subst (Pairs IsApart) q.0 apart)
          (load_comes f.item f.answer n t k) b (unit_away f.item f.answer n t)),
    )

room_left : (u : FunctionalUnit) (ms : List Pending) (f : Found Pending Stage) (rest : Option Relocated)
    → Pairs IsApart ms → seek (stage_at u) ms ≡ Some f → IsRestOf (shape_of f.item.instr) rest
    → (enters (outstanding_of 0 rest) ≡ true → is_none (place_for ms) ≡ false)
    → HasRoom (outstanding_of (unwrap_or (place_for ms) 0) rest) ms
unfolding outstanding_of
room_left u ms f rest apart h is room = grind (arith, room_entering)

rest_of_found : (u : FunctionalUnit) (ms : List Pending) (f : Found Pending Stage) (rest : Option Relocated)
    → seek (stage_at u) ms ≡ Some f
    → IfSome (located (seek (stage_at u) ms)) (λ s. IsRestOf (shape_of s.pending.instr) rest)
    → IsRestOf (shape_of f.item.instr) rest
unfolding located
rest_of_found u ms f rest h is = subst (λ o. IfSome (located o) (λ s. IsRestOf (shape_of s.pending.instr) rest)) h is

around : (u : FunctionalUnit) (ms : List Pending) (f : Found Pending Stage) → seek (stage_at u) ms ≡ Some f
    → waiting ms ≡ waiting f.earlier ++ waiting f.later
unfolding waiting_in
around u ms f h =
    rw (waiting_around (stage_at u) ms f h, stage_found u f.item f.answer (seek_splits (stage_at u) ms f h).1)

pub room_for_rest : (u : FunctionalUnit) (ms : List Pending) (queue : Queue) (f : Found Pending Stage)
    (rest : Option Relocated) (l : Option Outstanding) → queue.entered ≡ waiting ms → Pairs IsApart ms
    → seek (stage_at u) ms ≡ Some f
    → IfSome (located (seek (stage_at u) ms)) (λ s. IsRestOf (shape_of s.pending.instr) rest)
    → (enters (outstanding_of 0 rest) ≡ true → is_none (place_for ms) ≡ false)
    → l ≡ outstanding_of (unwrap_or (free_in queue.entered) 0) rest → HasRoom l ms
room_for_rest u ms queue f rest l e apart h is room el =
    subst (λ z. HasRoom z ms) (sym (later_is ms queue rest l e el))
    (room_left u ms f rest apart h (rest_of_found u ms f rest h is) room)

-- if a reference enters, the hopper has room for it
pub room_in_queue : (ms : List Pending) (queue : Queue) (rest : Option Relocated) → queue.entered ≡ waiting ms
    → (enters (outstanding_of 0 rest) ≡ true → is_none (place_for ms) ≡ false)
    → enters (outstanding_of 0 rest) ≡ true → is_none (free_in queue.entered) ≡ false
unfolding place_for
room_in_queue ms queue rest e room k = ap (λ es. is_none (free_in es)) e ∙ room k

-- a reference in range enters the hopper
pub enters_in_range : (r : Relocated) → enters (outstanding_of 0 (Some r)) ≡ is_some r.address
unfolding enters outstanding_of entering
enters_in_range r = grind arith

-- without a reference, none enters
pub none_enters : enters (outstanding_of 0 None) ≡ false
unfolding enters outstanding_of
none_enters = refl

-- the hopper after the outstanding reference of an instruction has entered, if there is one
pub queue_with : Queue → Option Outstanding → Queue
queue_with queue None = queue
queue_with queue (Some l) = record queue { entered = queue.entered ++ waiting_in (After l) }

-- the outstanding reference of an instruction has entered the hopper, and the other references are unchanged
pub record HasCome (i j : Inside) (rest : Option Relocated) (l : Option Outstanding) : Type 0 where
  pub left : l ≡ outstanding_of (unwrap_or (free_in i.hopper.entered) 0) rest
  pub slots : j.slots ≡ i.slots
  pub board : j.board ≡ i.board
  pub queue : j.hopper ≡ queue_with i.hopper l

entered_place : (o : Option ℕ) (r : Result ℕ Refusal) (p : ℕ) → r ≡ enter_answer o → r ≡ Ok p → o ≡ Some p
unfolding enter_answer
entered_place o r p e h = grind arith

pub has_entered : (i j : Inside) (rest : Option Relocated) (q : Relocated) (a p : ℕ) (r : Result ℕ Refusal)
    (queue : Queue) (l : Option Outstanding) → rest ≡ Some q → q.address ≡ Some a
    → r ≡ enter_answer (free_in i.hopper.entered) → r ≡ Ok p
    → queue ≡ record i.hopper {
      entered = i.hopper.entered ++ record { place = p; reference = record { address = a; access = q.access } } ∷ [];
    } → l ≡ Some (HasEntered p a q.access) → j ≡ record { slots = i.slots; board = i.board; hopper = queue }
    → HasCome i j rest l
unfolding outstanding_of entering queue_with waiting_in
has_entered i j rest q a p r queue l er ei ea eo eq el ej = grind (arith, entered_place, queue_with)

-- a hopper with room doesn't refuse a reference
pub not_refused : (es : List Entered) (rest : Option Relocated) (q : Relocated) (a : ℕ) (r : Result ℕ Refusal)
    (refusal : Refusal) → rest ≡ Some q → q.address ≡ Some a → r ≡ enter_answer (free_in es) → r ≡ Err refusal → (enters (outstanding_of 0 rest) ≡ true → is_none (free_in es) ≡ false) → ⊥
unfolding enter_answer
not_refused es rest q a r refusal er ei ea eo room = grind (arith, enters_in_range)

pub load_has_come : (i j : Inside) (rest : Option Relocated) (q : Relocated) (n word : ℕ) (l : Option Outstanding)
    → rest ≡ Some q → q.address ≡ None → q.access ≡ Load n → word ≡ 0 → l ≡ Some (Accepted n word) → j ≡ i
    → HasCome i j rest l
unfolding outstanding_of entering queue_with waiting_in
load_has_come i j rest q n word l er ei ex ew el ej = grind (arith, queue_with, append-nil)

pub store_has_gone : (i j : Inside) (rest : Option Relocated) (q : Relocated) (word : ℕ) (l : Option Outstanding)
    → rest ≡ Some q → q.address ≡ None → q.access ≡ Store word → l ≡ None → j ≡ i → HasCome i j rest l
unfolding outstanding_of entering queue_with
store_has_gone i j rest q word l er ei ex el ej = grind arith

pub none_has_come : (i j : Inside) (rest : Option Relocated) (l : Option Outstanding) → rest ≡ None → l ≡ None
    → j ≡ i → HasCome i j rest l
unfolding outstanding_of queue_with
none_has_come i j rest l er el ej = grind arith

-- ---- the references in the order in which they entered ----

not_entered : (l m : Pending) → has_turn m ≡ true → IsApart m l → waiting_in l.phase ≡ []
unfolding is_entered entered_in waiting_in
not_entered l m h a = grind arith

none_entered : (m : Pending) (ls : List Pending) → has_turn m ≡ true → Each (IsApart m) ls → waiting ls ≡ []
unfolding waiting
none_entered m [] h a = refl
none_entered m (l ∷ ls) h a = ap (λ w. w ++ waiting ls) (not_entered l m h a.0) ∙ none_entered m ls h a.1

pub turn_there : (m : Pending) (t : Stage) → m.phase ≡ Before t → has_reference (shape_of m.instr) ≡ true
    → has_turn m ≡ true
unfolding has_turn board.has_turn reservation_of is_reserved occupancy_of
turn_there m t h e = ap (λ p. is_reserved (occupancy_of p) && has_reference (shape_of m.instr)) h ∙ e

queue_entering : (u : FunctionalUnit) (ms : List Pending) (queue : Queue) (f : Found Pending Stage) (place : ℕ)
    (o : Option ℕ) (x : Access) → Pairs IsApart ms → seek (stage_at u) ms ≡ Some f
    → (enters (entering 0 o x) ≡ true → has_reference (shape_of f.item.instr) ≡ true) → queue.entered ≡ waiting ms
    → (queue_with queue (entering place o x)).entered ≡ waiting (put_back f (kept f.item (entering place o x)))
unfolding queue_with entering kept waiting_in in_phase enters waiting
queue_entering u ms queue f place None (Store w) apart h refers e = e ∙ around u ms f h ∙ sym (waiting_put f [])
queue_entering u ms queue f place None (Load n) apart h refers e =
    grind (arith, around, waiting_put, waiting_one, append-nil)
queue_entering u ms queue f place (Some a) x apart h refers e =
    let q = seek_splits (stage_at u) ms f h in
    let none : waiting f.later ≡ [] =
    none_entered f.item f.later
    (turn_there f.item f.answer (stage_found u f.item f.answer q.1) (refers refl))
    (pairs_right IsApart f.earlier (f.item ∷ f.later) (subst (Pairs IsApart) q.0 apart)).0 in
    let r : Entered = record { place = place; reference = record { address = a; access = x } } in
    ap (λ es. es ++ r ∷ []) (e ∙ around u ms f h ∙ ap (λ w. waiting f.earlier ++ w) none
    ∙ append-nil (waiting f.earlier))
    ∙ sym (grind (arith, waiting_put, waiting_one))

queue_left : (u : FunctionalUnit) (ms : List Pending) (queue : Queue) (f : Found Pending Stage) (place : ℕ)
    (rest : Option Relocated) → Pairs IsApart ms → seek (stage_at u) ms ≡ Some f
    → IsRestOf (shape_of f.item.instr) rest → queue.entered ≡ waiting ms
    → (queue_with queue (outstanding_of place rest)).entered
    ≡ waiting (put_back f (kept f.item (outstanding_of place rest)))
unfolding queue_with outstanding_of kept waiting
queue_left u ms queue f place rest apart h is e = grind (arith, around, waiting_put, queue_entering)

queue_busy : (queue : Queue) (l : Option Outstanding) → (queue_with queue l).busy ≡ queue.busy
unfolding queue_with
queue_busy queue l = grind arith

pub leave_tied : (u : FunctionalUnit) (ms ns : List Pending) (queue after : Queue) (b c : Standing)
    (f : Found Pending Stage) (rest : Option Relocated) (l : Option Outstanding) → IsTied ms queue b → Pairs IsApart ms
    → seek (stage_at u) ms ≡ Some f
    → IfSome (located (seek (stage_at u) ms)) (λ s. IsRestOf (shape_of s.pending.instr) rest)
    → l ≡ outstanding_of (unwrap_or (free_in queue.entered) 0) rest → ns
    ≡ replaced (seek (stage_at u) ms) ms (λ m. kept m l)
    → after ≡ queue_with queue l
    → c ≡ with_issued b (replaced (seek (held_in u) b.issued) b.issued left) → IsTied ns after c
unfolding replaced with_issued
leave_tied u ms ns queue after b c f rest l tied apart h is el en eq ec =
    let place = unwrap_or (place_for ms) 0 in
    let where_it_waits = later_is ms queue rest l tied.entered el in
    let of = rest_of_found u ms f rest h is in
    let made : ns ≡ put_back f (kept f.item l) = en ∙ ap (λ o. replaced o ms (λ m. kept m l)) h in
    let returns : left_to_return l ≡ channel_of (shape_of f.item.instr) =
    ap left_to_return where_it_waits ∙ returns_alike place rest ∙ of.returns in
    record {
      boarded = grind (arith, store_follows);
      entered = grind (arith, queue_with, queue_left);
      counted = subst (λ k. Each (λ m. m.number ≤ k) ns) (sym (ap (λ (x : Standing). x.last) ec))
          (subst (Each (λ m. m.number ≤ b.last)) (sym made)
          (each_put (λ m. m.number ≤ b.last) (stage_at u) ms f (kept f.item l) h (λ k. each_kept b.last f.item l k)
          tied.counted));
    }

abbrev pub left_from : FunctionalUnit → Option Relocated → List Pending → List Pending
left_from u rest ms =
    replaced (seek (stage_at u) ms) ms (λ m. kept m (outstanding_of (unwrap_or (place_for ms) 0) rest))

pub leave_flight : (u : FunctionalUnit) (ms ns : List Pending) (queue after : Queue) (b c : Standing)
    (rest : Option Relocated) (l : Option Outstanding) (now : Flight) → flight_of ms queue b ≡ now → IsTied ms queue b
    → l ≡ outstanding_of (unwrap_or (free_in queue.entered) 0) rest → ns
    ≡ replaced (seek (stage_at u) ms) ms (λ m. kept m l)
    → after ≡ queue_with queue l
    → c ≡ with_issued b (replaced (seek (held_in u) b.issued) b.issued left)
    → flight_of ns after c ≡ with_pending now (left_from u rest now.pending)
unfolding with_issued
leave_flight u ms ns queue after b c rest l now ev tied el en eq ec =
    grind (arith, later_is ms queue rest l tied.entered el, queue_busy queue l)

pub leave_nobody : (u : FunctionalUnit) (rest : Option Relocated) (now : Flight) → seek (stage_at u) now.pending ≡ None
    → now ≡ with_pending now (left_from u rest now.pending)
unfolding replaced
leave_nobody u rest now h = grind arith
