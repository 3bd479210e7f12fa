-- After each event every pending instruction has a slot of its own, so sixteen slots are enough.
use Rattle.std.proofs.Common.{◌≡◌, ◌≢◌, ◌<◌, ℕ, false, List, [], ◌∷◌, ◌++◌, refl, sym, ap, ◌∙◌, subst, eqb, get_or}
use Rattle.std.proofs.Common.{arith, Bool}
use Rattle.std.specs.List.{list_any}
use Rattle.instructions.specs.declared.instr.Unit.{Unit as FunctionalUnit}
use Rattle.instructions.specs.RegisterLists.{is_in, overlap}
use Rattle.instructions.specs.Shape.{Shape, shape_of, Loads}
use Rattle.scoreboard.specs.Reservations as board
use Rattle.scoreboard.specs.Reservations.{returning_to}
use Rattle.scoreboard.specs.Units.{unit_number, same_unit}
use Rattle.in_flight.specs.declared.pending.Outstanding.TheVariants.{Entered, Accepted}
use Rattle.in_flight.specs.declared.pending.Phase.{Phase}
use Rattle.in_flight.specs.declared.pending.Phase.TheVariants.{Before, After}
use Rattle.in_flight.specs.declared.pending.Pending.{Pending}
use Rattle.instructions.specs.Each.{Each, Pairs}
use Rattle.in_flight.specs.Pending.{occupancy_of, returning, reservation_of, to_come}
use Rattle.in_flight.specs.inner.OwnSlots.{unit_slot, clash_in, clash, IsPlaced, IsProper, HasOwnSlots, IsChannel}
use Rattle.in_flight.specs.Apart.{IsApart}
use Rattle.instructions.proofs.Lists.{each_left, each_right, each_append, each_map, each_both, pairs_without}
use Rattle.instructions.proofs.Lists.{each_of_any, pairs_before, pairs_right, pairs_insert}
use Rattle.in_flight.proofs.asking.Phases.{to_come_in, slot_in, slot_of}
use Rattle.std.proofs.lemmas.Bool.Decides.{nat_tests}
use Rattle.instructions.specs.declared.instr.Instr.{Instr}
use Rattle.relocation.specs.declared.area.Access.{Access}
use Rattle.scoreboard.specs.Reservations as board
use Rattle.in_flight.specs.declared.pending.Outstanding.{Outstanding}
use Rattle.in_flight.specs.declared.pending.Stage.{Stage}
use Rattle.in_flight.specs.Lookup.{entry_at, entry_in, in_place, in_phase}

-- ---- numbers of slots ----

-- the number of the unit with a slot
abbrev number_at : ℕ → ℕ
number_at slot = get_or (0 ∷ 1 ∷ 2 ∷ 4 ∷ 7 ∷ 8 ∷ 9 ∷ []) slot 0

number_of_slot : (u : FunctionalUnit) → unit_slot u < 7 → number_at (unit_slot u) ≡ unit_number u
unfolding unit_slot
number_of_slot u h = grind arith

one_number : (u v : FunctionalUnit) → unit_slot u < 7 → unit_slot v < 7 → unit_slot u ≡ unit_slot v
    → unit_number u ≡ unit_number v
one_number u v h k e = sym (number_of_slot u h) ∙ ap number_at e ∙ number_of_slot v k

-- different units have different slots
pub other_slot : (u v : FunctionalUnit) → unit_slot u < 7 → unit_slot v < 7 → same_unit u v ≡ false
    → eqb (unit_slot u) (unit_slot v) ≡ false
unfolding same_unit
other_slot u v h k e = grind (arith, nat_tests, one_number)

channels_differ : (h k : Shape) (m n v w : ℕ)
    → overlap (to_come_in k (After (Accepted n w))) (to_come_in h (After (Accepted m v))) ≡ false → m ≢ n
unfolding to_come_in board.to_come_in occupancy_of returning returning_to overlap is_in
channels_differ h k m n v w e i = grind arith

slots_differ : (size : ℕ) (h k : Shape) (u v : FunctionalUnit) (p q : Phase) → IsPlaced size u p → IsPlaced size v q
    → clash_in u p v q ≡ false → overlap (to_come_in k q) (to_come_in h p) ≡ false → slot_in u p ≢ slot_in v q
unfolding slot_in clash_in
slots_differ size h k u v p q a b c d = grind (arith, channels_differ)

pub coming : (m n : Pending) → overlap (to_come n) (to_come m) ≡ false
    → overlap (to_come_in (shape_of n.instr) n.phase) (to_come_in (shape_of m.instr) m.phase) ≡ false
unfolding to_come board.to_come reservation_of to_come_in
coming m n e = e

two_slots : (size : ℕ) (m n : Pending) → IsProper size m → IsProper size n → clash m n ≡ false → IsApart m n
    → slot_of m ≢ slot_of n
unfolding slot_of clash
two_slots size m n a b c d = search (slots_differ, coming)

pub all_slots : (size : ℕ) (ms : List Pending) → Each (IsProper size) ms → Pairs (λ m n. clash m n ≡ false) ms
    → Pairs IsApart ms → Pairs (λ m n. slot_of m ≢ slot_of n) ms
all_slots size [] a b c = tt
all_slots size (m ∷ ms) a b c = (
  each_both (λ n. IsProper size n × (clash m n ≡ false)) (IsApart m) (λ n. slot_of m ≢ slot_of n)
      (λ n x y. two_slots size m n a.0 x.0 x.1 y) ms
      (grind (arith, each_both)) c.0,
  all_slots size ms a.1 b.1 c.1,
)

-- ---- an instruction taken out, or another put for it ----

pub slotted_without : (size : ℕ) (es : List Pending) (m : Pending) (ls : List Pending) → HasOwnSlots size (es ++ m ∷ ls)
    → HasOwnSlots size (es ++ ls)
slotted_without size es m ls s = grind (arith, pairs_without, each_append, each_left, each_right)

pub slotted_with : (size : ℕ) (es : List Pending) (m n : Pending) (ls : List Pending) → HasOwnSlots size (es ++ m ∷ ls)
    → IsProper size n → Each (λ x. clash x n ≡ false) es → Each (λ x. clash n x ≡ false) ls
    → HasOwnSlots size (es ++ n ∷ ls)
slotted_with size es m n ls s p before after =
    let rest = slotted_without size es m ls s in
    grind (arith, pairs_insert, each_append, each_left, each_right)

pub proper_there : (size : ℕ) (es : List Pending) (m : Pending) (ls : List Pending) → HasOwnSlots size (es ++ m ∷ ls)
    → IsProper size m
proper_there size es m ls s = (each_right (IsProper size) es (m ∷ ls) s.proper).0

pub placed_in : (size : ℕ) (m : Pending) (p : Phase) → m.phase ≡ p → IsProper size m → IsPlaced size m.unit p
placed_in size m p e h = subst (IsPlaced size m.unit) e h.placed

stage_right : (u v : FunctionalUnit) (p : Phase) (t s : Stage) → clash_in u p v (Before t) ≡ clash_in u p v (Before s)
unfolding clash_in
stage_right u v p t s = grind arith

stage_left : (u v : FunctionalUnit) (p : Phase) (t s : Stage) → clash_in u (Before t) v p ≡ clash_in u (Before s) v p
unfolding clash_in
stage_left u v p t s = grind arith

clash_right : (x m : Pending) (t s : Stage) → m.phase ≡ Before t → clash x (in_phase m (Before s)) ≡ clash x m
unfolding clash in_phase
clash_right x m t s e = stage_right x.unit m.unit x.phase s t ∙ ap (clash_in x.unit x.phase m.unit) (sym e)

clash_left : (x m : Pending) (t s : Stage) → m.phase ≡ Before t → clash (in_phase m (Before s)) x ≡ clash m x
unfolding clash in_phase
clash_left x m t s e = stage_left m.unit x.unit x.phase s t ∙ ap (λ p. clash_in m.unit p x.unit x.phase) (sym e)

proper_stage : (size : ℕ) (m : Pending) (t s : Stage) → m.phase ≡ Before t → IsProper size m
    → IsProper size (in_phase m (Before s))
unfolding in_phase
proper_stage size m t s e p = record { of_kind = p.of_kind; placed = placed_in size m (Before t) e p }

pub slotted_stage : (size : ℕ) (es : List Pending) (m : Pending) (ls : List Pending) (t s : Stage) → m.phase ≡ Before t
    → HasOwnSlots size (es ++ m ∷ ls) → HasOwnSlots size (es ++ in_phase m (Before s) ∷ ls)
slotted_stage size es m ls t s e h =
    slotted_with size es m (in_phase m (Before s)) ls h (proper_stage size m t s e (proper_there size es m ls h))
    (each_map (λ x. clash x m ≡ false) (λ x. clash x (in_phase m (Before s)) ≡ false)
    (λ x k. clash_right x m t s e ∙ k) es (pairs_before (λ a b. clash a b ≡ false) es m ls h.apart))
    (each_map (λ x. clash m x ≡ false) (λ x. clash (in_phase m (Before s)) x ≡ false) (λ x k. clash_left x m t s e ∙ k)
    ls (pairs_right (λ a b. clash a b ≡ false) es (m ∷ ls) h.apart).0)

-- whether another instruction has taken the place
unfoldable pub taken_by : Outstanding → Pending → Bool
taken_by (Entered p a access) m = in_place p m
taken_by (Accepted n w) m = false

after_right : (u v : FunctionalUnit) (q : Phase) (l : Outstanding) (m : Pending) → m.phase ≡ q → taken_by l m ≡ false
    → clash_in u q v (After l) ≡ false
unfolding clash_in taken_by in_place entry_at entry_in
after_right u v q l m e h = grind arith

after_left : (u v : FunctionalUnit) (q : Phase) (l : Outstanding) (m : Pending) → m.phase ≡ q → taken_by l m ≡ false
    → clash_in v (After l) u q ≡ false
unfolding clash_in taken_by in_place entry_at entry_in
after_left u v q l m e h = grind arith

proper_after : (size : ℕ) (m : Pending) (l : Outstanding) → IsProper size m → IsPlaced size m.unit (After l)
    → IsProper size (in_phase m (After l))
unfolding in_phase
proper_after size m l p k = record { of_kind = p.of_kind; placed = k }

clash_after_right : (x m : Pending) (l : Outstanding) → taken_by l x ≡ false → clash x (in_phase m (After l)) ≡ false
unfolding clash in_phase
clash_after_right x m l h = after_right x.unit m.unit x.phase l x refl h

clash_after_left : (x m : Pending) (l : Outstanding) → taken_by l x ≡ false → clash (in_phase m (After l)) x ≡ false
unfolding clash in_phase
clash_after_left x m l h = after_left x.unit m.unit x.phase l x refl h

pub slotted_after : (size : ℕ) (es : List Pending) (m : Pending) (ls : List Pending) (l : Outstanding)
    → IsPlaced size m.unit (After l) → Each (λ x. taken_by l x ≡ false) (es ++ m ∷ ls) → HasOwnSlots size (es ++ m ∷ ls)
    → HasOwnSlots size (es ++ in_phase m (After l) ∷ ls)
slotted_after size es m ls l p free h =
    slotted_with size es m (in_phase m (After l)) ls h (proper_after size m l (proper_there size es m ls h) p)
    (grind (arith, each_map, clash_after_right, each_left))
    (grind (arith, each_map, clash_after_left, each_right))

each_false : (ms : List Pending) → Each (λ x. false ≡ false) ms
each_false [] = tt
each_false (m ∷ ms) = (refl, each_false ms)

pub accepted_free : (n w : ℕ) (ms : List Pending) → Each (λ x. taken_by (Accepted n w) x ≡ false) ms
unfolding taken_by
accepted_free n w ms = each_false ms

pub entered_free : (p a : ℕ) (access : Access) (ms : List Pending) → list_any (in_place p) ms ≡ false
    → Each (λ x. taken_by (Entered p a access) x ≡ false) ms
unfolding taken_by
entered_free p a access ms h = each_of_any (in_place p) (λ x. in_place p x ≡ false) (λ x k. k) ms h

pub loads_channel : (i : Instr) (n : ℕ) → shape_of i ≡ Loads n → IsChannel n
unfolding shape_of
loads_channel i n e = grind arith
