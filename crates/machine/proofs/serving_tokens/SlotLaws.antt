-- The reservation in a unit's slot, before and after the unit's events.
use Rattle.std.proofs.Common.{◌≡◌, ℕ, Bool, true, false, cond, ◌&&◌, List, [], ◌∷◌, ◌++◌, Option, Some, None, refl, sym}
use Rattle.std.proofs.Common.{ap, ◌∙◌, subst, eqb, rules, arith}
use Rattle.std.proofs.lemmas.Bool.{eq-eqb, eqb-true}
use Rattle.std.proofs.lemmas.Option.{same_Some}
use Rattle.instructions.specs.declared.instr.Unit.{Unit as FunctionalUnit}
use Rattle.scoreboard.specs.Units.{same_unit}
use Rattle.sequential.specs.Work.{operands}
use Rattle.unit_ops.specs.declared.Operands.{Operands}
use Rattle.unit_ops.specs.declared.UnitValue.{UnitValue}
use Rattle.unit_ops.specs.Values.{value_of}
use Rattle.program_order.specs.declared.event.Event.TheVariants.{Finish}
use Rattle.program_order.specs.declared.event.Note.{Note}
use Rattle.std.specs.Prelude.{◌≢◌, IfSome, MatchBool}
use Rattle.in_flight.specs.Pending.{has_read, is_finished, is_unread}
use Rattle.std.proofs.lemmas.Grind.{common_steps}
use Rattle.instructions.specs.contracts.instr.InstrPartialEq.TheImpl.{eq-value as instr_eq}
use Rattle.instructions.specs.declared.instr.Instr.{Instr}
use Rattle.in_flight.specs.declared.pending.Pending.{Pending}
use Rattle.in_flight.specs.declared.pending.Phase.TheVariants.{Before}
use Rattle.in_flight.specs.declared.pending.Stage.{Stage}
use Rattle.in_flight.specs.declared.pending.Stage.TheVariants.{Unread, Read as HasRead, Finished}
use Rattle.instructions.specs.Each.{Each}
use Rattle.in_flight.specs.declared.slots.Located.{Located}
use Rattle.in_flight.specs.Flight.{Flight, with_pending}
use Rattle.in_flight.specs.Lookup.{located, in_phase, stage_at, stage_in}
use Rattle.instructions.specs.Finding.{replaced, Found, put_back, seek}
use Rattle.machine.specs.Tokens.{Computation, Reading, ServedReservation, Seating, finished_in, read_of, reading_at}
use Rattle.machine.specs.Tokens.{reading_in, slot, stage_under, unread_in}
use Rattle.program_order.specs.Processor.{Processor}
use Rattle.program_order.specs.Events.{after, allowed, tests_of}
use Rattle.program_order.specs.Units.{finish_tests}
use Rattle.in_flight.specs.Tests.{refusal_of, tests_found}
use Rattle.in_flight.proofs.asking.Finding.{no_sought, sought_pending, sought_what}
use Rattle.instructions.proofs.Finding.{seek_around, seek_splits}
use Rattle.machine.proofs.making.Making.{finish_made, flight, with_flight}

-- the note of the reservation with this number, in the seat's unit
abbrev pub note_of : Seating → ℕ → Note
note_of seat number = record { unit = seat.unit; number = number }

-- the note of a token
pub noted : (r s : Seating) (n : ℕ) (t u : ServedReservation) → r ≡ s → record { seat = s; number = n } ≡ t → t ≡ u
    → note_of r n ≡ note_of u.seat u.number
noted r s n t u e h k =
    ap (λ x. note_of x n) e ∙ ap (λ (x : ServedReservation). note_of x.seat x.number) (h ∙ k)

-- no instruction before the found one answers
seek_before : {K : Type 0} (f : Pending → Option K) (ms : List Pending) (x : Found Pending K) → seek f ms ≡ Some x
    → Each (λ e. f e ≡ None) x.earlier
seek_before f ms x h = (seek_splits f ms x h).2

-- a search finds an answering instruction that replaces the found one
put_found : {K : Type 0} (f : Pending → Option K) (ms : List Pending) (x : Found Pending K) (m : Pending) (answer : K)
    → seek f ms ≡ Some x → f m ≡ Some answer
    → seek f (x.earlier ++ m ∷ x.later)
    ≡ Some (record { earlier = x.earlier; item = m; answer = answer; later = x.later })
put_found f ms x m answer h e = seek_around f x.earlier m answer x.later (seek_before f ms x h) e

-- an instruction that holds a unit holds it in each of its stages
still_at : (u : FunctionalUnit) (m : Pending) (t s : Stage) → stage_at u m ≡ Some t
    → stage_at u (in_phase m (Before s)) ≡ Some s
unfolding stage_at stage_in in_phase
still_at u m t s h = by_test (same_unit m.unit u) h
  where
    by_test : (f : Bool) → cond f (stage_in m.phase) None ≡ Some t → cond f (Some s) None ≡ Some s
    by_test true k = refl
    by_test false k = cc

-- the slot of a unit that has read holds the operands
pub slot_read : (u : FunctionalUnit) (pending ms : List Pending) (m : Pending) (os : Operands)
    → located (seek (stage_at u) pending) ≡ Some (record { pending = m; answer = Unread })
    → ms ≡ replaced (seek (stage_at u) pending) pending (λ x. in_phase x (Before (HasRead os)) ∷ [])
    → (seat : Seating) → reading_in seat (seek (stage_at u) ms)
    ≡ Some (record { seat = seat; number = m.number; instr = m.instr; operands = os })
unfolding replaced put_back reading_in reading_at in_phase
slot_read u pending ms m os h e seat =
    ap (λ l. reading_in seat (seek (stage_at u) l)) e ∙ found (seek (stage_at u) pending) refl h
  where
    found : (q : Option (Found Pending Stage)) → seek (stage_at u) pending ≡ q
        → located q ≡ Some (record { pending = m; answer = Unread })
        → reading_in seat (seek (stage_at u) (replaced q pending (λ x. in_phase x (Before (HasRead os)) ∷ [])))
        ≡ Some (record { seat = seat; number = m.number; instr = m.instr; operands = os })
    found None i k = absurd (no_sought (record { pending = m; answer = Unread }) k)
    found (Some f) i k =
        ap (reading_in seat) (put_found (stage_at u) pending f (in_phase f.item (Before (HasRead os))) (HasRead os) i
        (still_at u f.item f.answer (HasRead os) (seek_splits (stage_at u) pending f i).1))
        ∙ ap (λ (x : Pending). Some (record { seat = seat; number = x.number; instr = x.instr; operands = os }))
        (sought_pending f (record { pending = m; answer = Unread }) k)

-- the slot of a waiting instruction waits under its number
pub slot_unread : (u : FunctionalUnit) (pending : List Pending) (m : Pending)
    → located (seek (stage_at u) pending) ≡ Some (record { pending = m; answer = Unread })
    → unread_in m.number (seek (stage_at u) pending) ≡ true
unfolding unread_in is_unread
slot_unread u pending m h = found (seek (stage_at u) pending) h
  where
    found : (q : Option (Found Pending Stage)) → located q ≡ Some (record { pending = m; answer = Unread })
        → unread_in m.number q ≡ true
    found None k = absurd (no_sought (record { pending = m; answer = Unread }) k)
    found (Some f) k =
        ap (λ (x : Pending). is_unread f.answer && eqb x.number m.number)
        (sought_pending f (record { pending = m; answer = Unread }) k)
        ∙ ap (λ t. is_unread t && eqb m.number m.number) (sought_what f (record { pending = m; answer = Unread }) k)
        ∙ eq-eqb m.number m.number refl

-- a slot waits under one number only
pub one_number : (m n : ℕ) (o : Option (Found Pending Stage)) → unread_in m o ≡ true → unread_in n o ≡ true → m ≡ n
unfolding unread_in
one_number m n None h k = cc
one_number m n (Some f) h k = by_test (is_unread f.answer) h k
  where
    by_test : (b : Bool) → (b && eqb f.item.number m) ≡ true → (b && eqb f.item.number n) ≡ true → m ≡ n
    by_test true i j = sym (eqb-true f.item.number m i) ∙ eqb-true f.item.number n j
    by_test false i j = cc

-- a token whose number waits is loaded with its own number
pub loaded_as : (w v : Processor) (t : ServedReservation) (k : Note) (m : Pending) (os : Operands)
    (pending : List Pending)
    → k ≡ note_of t.seat t.number → pending ≡ w.pending
    → unread_in k.number (seek (stage_at k.unit) pending) ≡ true
    → unread_in m.number (slot w k.unit) ≡ true
    → ((seat : Seating) → reading_in seat (slot v k.unit)
    ≡ Some (record { seat = seat; number = m.number; instr = m.instr; operands = os }))
    → reading_in t.seat (slot v t.seat.unit)
    ≡ Some (record { seat = t.seat; number = t.number; instr = m.instr; operands = os })
loaded_as w v t k m os pending ek em et h i =
    ap (λ (x : Note). reading_in t.seat (slot v x.unit)) (sym ek)
    ∙ i t.seat
    ∙ ap (λ n. Some (record { seat = t.seat; number = n; instr = m.instr; operands = os }))
    (one_number m.number k.number (slot w k.unit) h
    (ap (λ l. unread_in k.number (seek (stage_at k.unit) l)) (sym em) ∙ et)
    ∙ ap (λ (x : Note). x.number) ek)

-- whether it is the value computed from the operands
abbrev pub IsValueAt : UnitValue → Instr → Stage → Type 0
IsValueAt value instr Unread = ⊥
IsValueAt value instr (HasRead operands) = value ≡ value_of instr operands
IsValueAt value instr (Finished old) = ⊥

-- whether it is the value computed from the operands of the reservation in the slot
abbrev pub IsValueIn : UnitValue → Option (Found Pending Stage) → Type 0
IsValueIn value None = ⊥
IsValueIn value (Some f) = IsValueAt value f.item.instr f.answer

-- the value computed from the operands is the slot's next value
pub value_in : (o : Option (Found Pending Stage)) (seat : Seating) (r : Reading) (v : UnitValue)
    → reading_in seat o ≡ Some r → v ≡ value_of r.instr r.operands → IsValueIn v o
unfolding reading_in reading_at
value_in None seat r v h e = cc
value_in (Some f) seat r v h e = at_stage f.answer h
  where
    at_stage : (t : Stage) → reading_at seat f.item.number f.item.instr t ≡ Some r → IsValueAt v f.item.instr t
    at_stage Unread k = cc
    at_stage (HasRead os) k = e ∙ ap (λ (x : Reading). value_of x.instr x.operands) (sym (same_Some _ r k))
    at_stage (Finished w) k = cc

-- a slot with a value to come has read its operands
pub has_read_in : (v : UnitValue) (o : Option (Found Pending Stage)) → IsValueIn v o
    → IfSome (located o) (λ s. has_read s.answer ≡ true)
unfolding located has_read
has_read_in v None h = absurd h
has_read_in v (Some f) h = at_stage f.answer refl h
  where
    at_stage : (t : Stage) → f.answer ≡ t → IsValueAt v f.item.instr t
        → IfSome (located (Some f)) (λ s. has_read s.answer ≡ true)
    at_stage Unread e k = absurd k
    at_stage (HasRead os) e k = ap has_read e ∙ read_is os
      where
        read_is : (os : Operands) → has_read (HasRead os) ≡ true
        read_is os = refl
    at_stage (Finished x) e k = absurd k

-- the machine after a value was put into its slot
pub value_put : (w : Processor) (u : FunctionalUnit) (v : UnitValue) (g : Flight) → IsValueIn v (slot w u)
    → g ≡ with_pending (flight w)
    (replaced (seek (stage_at u) w.pending) w.pending (λ m. in_phase m (Before (Finished v)) ∷ []))
    → (with_flight w g ≡ after w (Finish u)) × (allowed w (Finish u) ≡ None)
unfolding allowed tests_of tests_found finish_tests refusal_of located
value_put w u v g i e = found (slot w u) refl i
  where
    found : (q : Option (Found Pending Stage)) → slot w u ≡ q → IsValueIn v q → (with_flight w g ≡ after w (Finish u))
        × (allowed w (Finish u) ≡ None)
    found None k h = absurd h
    found (Some f) k h = at_stage f.answer refl h
      where
        finishes : (os : Operands) → f.answer ≡ HasRead os → allowed w (Finish u) ≡ None
        finishes os et = ap (λ x. refusal_of (tests_found x (λ y. finish_tests y.answer))) k
            ∙ ap (λ t. refusal_of (finish_tests t)) et

        sought_as : (os : Operands) → f.answer ≡ HasRead os
            → located (seek (stage_at u) w.pending) ≡ Some (record { pending = f.item; answer = HasRead os })
        sought_as os et = ap located k ∙ ap (λ t. Some (record { pending = f.item; answer = t })) et

        at_stage : (t : Stage) → f.answer ≡ t → IsValueAt v f.item.instr t → (with_flight w g ≡ after w (Finish u))
            × (allowed w (Finish u) ≡ None)
        at_stage Unread et q = absurd q
        at_stage (HasRead os) et q = (finish_made w u f.item os v g (sought_as os et) q e, finishes os et)
        at_stage (Finished x) et q = absurd q

-- ---- the answers of a store ----

-- ---- what a token was computed from ----

-- instructions that compare as equal are the same, and the other way round
pub same_instr : (i j : Instr) → instr_eq.it i j ≡ true → i ≡ j
same_instr i j = grind (arith, common_steps)

pub instr_same : (i j : Instr) → i ≡ j → instr_eq.it i j ≡ true
instr_same i j = grind (arith, common_steps)

pub is_same : (c : Computation) (number : ℕ) (instr : Instr) (operands : Operands) (b : Bool) → c.number ≡ number
    → c.operands ≡ operands → (b ≡ true → c.instr ≡ instr) → (c.instr ≡ instr → b ≡ true)
    → MatchBool b (read_of c ≡ record { seat = c.seat; number = number; instr = instr; operands = operands })
    (read_of c ≢ record { seat = c.seat; number = number; instr = instr; operands = operands })
is_same c number instr operands true en eo h k =
    ap (λ n. record { seat = c.seat; number = n; instr = c.instr; operands = c.operands }) en
    ∙ ap (λ (i : Instr). record { seat = c.seat; number = number; instr = i; operands = c.operands }) (h refl)
    ∙ ap (λ (x : Operands). record { seat = c.seat; number = number; instr = instr; operands = x }) eo
is_same c number instr operands false en eo h k = λ e. search (rules, k (ap (λ (r : Reading). r.instr) e))

-- ---- what the instruction that was located says of its slot ----

-- whether there is such a stage
abbrev pub is_at : (Stage → Bool) → Option Stage → Bool
is_at is_such None = false
is_at is_such (Some t) = is_such t

-- a stage that counts only under its number
at_number : (is_such : Stage → Bool) (t : Stage) (b : Bool) → (is_such t && b) ≡ is_at is_such (cond b (Some t) None)
at_number is_such t true = by_stage (is_such t)
  where
    by_stage : (p : Bool) → (p && true) ≡ p
    by_stage true = refl
    by_stage false = refl
at_number is_such t false = by_stage (is_such t)
  where
    by_stage : (p : Bool) → (p && false) ≡ false
    by_stage true = refl
    by_stage false = refl

-- a reservation waits under its number if it is located and unread
pub unread_by : (n : ℕ) (o : Option (Found Pending Stage))
    → unread_in n o ≡ is_at is_unread (stage_under n (located o))
unfolding unread_in stage_under located
unread_by n None = refl
unread_by n (Some f) = at_number is_unread f.answer (eqb f.item.number n)

-- the reservation that was located waits under its number
pub unread_now : (n : ℕ) (o : Option (Found Pending Stage)) (r : Option Stage) (t : Stage)
    → r ≡ stage_under n (located o) → r ≡ Some t → t ≡ Unread → unread_in n o ≡ true
unfolding is_unread
unread_now n o r t e h k = unread_by n o ∙ ap (is_at is_unread) (sym e ∙ h ∙ ap Some k)

-- a reservation has its value under its number if it is located and finished
pub finished_by : (n : ℕ) (o : Option (Found Pending Stage))
    → finished_in n o ≡ is_at is_finished (stage_under n (located o))
unfolding finished_in stage_under located
finished_by n None = refl
finished_by n (Some f) = at_number is_finished f.answer (eqb f.item.number n)

-- the reservation that was located has its value under its number
pub finished_now : (n : ℕ) (o : Option (Found Pending Stage)) (r : Option Stage) (t : Stage) (v : UnitValue)
    → r ≡ stage_under n (located o) → r ≡ Some t → t ≡ Finished v → finished_in n o ≡ true
unfolding is_finished
finished_now n o r t v e h k = finished_by n o ∙ ap (is_at is_finished) (sym e ∙ h ∙ ap Some k)

reads_as : (seat : Seating) (o : Option (Found Pending Stage)) (s : Located Stage) → located o ≡ Some s
    → reading_in seat o ≡ reading_at seat s.pending.number s.pending.instr s.answer
unfolding reading_in
reads_as seat None s h = absurd (no_sought s h)
reads_as seat (Some f) s h =
    ap (λ (m : Pending). reading_at seat m.number m.instr f.answer) (sought_pending f s h)
    ∙ ap (reading_at seat s.pending.number s.pending.instr) (sought_what f s h)

-- a token belongs to the slot if it carries the operands of the slot
pub reads_same : (b : Bool) (t : Computation) (o : Option (Found Pending Stage)) (m : Pending) (os : Operands)
    → located o ≡ Some (record { pending = m; answer = HasRead os })
    → MatchBool b (read_of t ≡ record { seat = t.seat; number = m.number; instr = m.instr; operands = os })
    (read_of t ≢ record { seat = t.seat; number = m.number; instr = m.instr; operands = os })
    → MatchBool b (reading_in t.seat o ≡ Some (read_of t)) (reading_in t.seat o ≢ Some (read_of t))
unfolding reading_at
reads_same true t o m os h e = reads_as t.seat o (record { pending = m; answer = HasRead os }) h ∙ ap Some (sym e)
reads_same false t o m os h e =
    λ k. e (same_Some _ _ (sym k ∙ reads_as t.seat o (record { pending = m; answer = HasRead os }) h))

-- the value computed from the operands is the slot's next value
pub value_of_sought : (o : Option (Found Pending Stage)) (m : Pending) (os : Operands) (v : UnitValue)
    → located o ≡ Some (record { pending = m; answer = HasRead os }) → v ≡ value_of m.instr os → IsValueIn v o
value_of_sought None m os v h e = absurd (no_sought (record { pending = m; answer = HasRead os }) h)
value_of_sought (Some f) m os v h e =
    subst (λ t. IsValueAt v f.item.instr t) (sym (sought_what f (record { pending = m; answer = HasRead os }) h))
    (e ∙ ap (λ (x : Pending). value_of x.instr os)
    (sym (sought_pending f (record { pending = m; answer = HasRead os }) h)))
