-- At most forty events remain: for seven units, three of which make references, four places and five channels.
use Rattle.std.proofs.Common.{◌≡◌, ◌≢◌, ◌<◌, ◌≤◌, ◌+◌, ◌*◌, ℕ, Bool, true, false, cond, List, [], ◌∷◌, Some}
use Rattle.std.proofs.Common.{length, refl, sym, ap, ◌∙◌, eqb, arith}
use Rattle.std.specs.Prelude.{◌&&◌}
use Rattle.std.proofs.lemmas.Bool.{or_parts}
use Rattle.std.specs.List.{list_any}
use Rattle.instructions.specs.declared.instr.Addends.{Addends}
use Rattle.instructions.specs.declared.instr.Instr.{Instr}
use Rattle.instructions.specs.declared.instr.Instr.TheVariants.{Increment}
use Rattle.instructions.specs.declared.instr.Reg.{Reg}
use Rattle.instructions.specs.declared.instr.Reg.TheVariants.{X, A, B}
use Rattle.instructions.specs.declared.instr.Target.TheVariants.{A as TargetA}
use Rattle.instructions.specs.declared.instr.Unit.{Unit as FunctionalUnit}
use Rattle.instructions.specs.declared.instr.UnitKind.TheVariants.{Branch as BranchKind, Increment as IncrementKind}
use Rattle.instructions.specs.RegisterLists.{is_in, overlap}
use Rattle.instructions.specs.Shape.{Shape, Sets, Loads, Stores, Jumps, Links, shape_of, sets_of, loads_of, results}
use Rattle.instructions.specs.Shape.{has_reference}
use Rattle.instructions.specs.Operands.{uses}
use Rattle.relocation.specs.declared.area.Access.TheVariants.{Load as LoadInto, Store as StoreWord}
use Rattle.scoreboard.specs.Reservations as board
use Rattle.scoreboard.specs.Reservations.{is_reserved}
use Rattle.scoreboard.specs.Units.{same_unit, units_of, may_take}
use Rattle.in_flight.specs.declared.pending.Outstanding.TheVariants.{Entered, Accepted}
use Rattle.in_flight.specs.declared.pending.Pending.{Pending}
use Rattle.in_flight.specs.declared.pending.Phase.{Phase}
use Rattle.in_flight.specs.declared.pending.Phase.TheVariants.{Before, After}
use Rattle.in_flight.specs.declared.pending.Stage.{Stage}
use Rattle.instructions.specs.Each.{Each, Pairs}
use Rattle.in_flight.specs.Pending.{occupancy_of, reservation_of, entered_in, is_entered, has_turn}
use Rattle.in_flight.specs.inner.OwnSlots.{unit_slot, IsChannel, IsPlaced, IsProper, HasOwnSlots}
use Rattle.in_flight.specs.Apart.{IsApart}
use Rattle.program_order.specs.Drain.{reference_cost, stage_cost, outstanding_cost, phase_cost, cost, work_left}
use Rattle.in_flight.proofs.asking.Phases.{to_come_in, before_and, slot_in, slot_of}
use Rattle.program_order.proofs.Opened.{results_to_come}
use Rattle.program_order.proofs.draining.Pigeons.{listed_bound}
use Rattle.in_flight.proofs.asking.Slotting.{all_slots, coming, loads_channel}

-- ---- those that meet a test ----

unfoldable picked : {K : Type 0} → (K → Bool) → List K → List K
picked f [] = []
picked f (x ∷ xs) = cond (f x) (x ∷ picked f xs) (picked f xs)

picked_each : {K : Type 0} (f : K → Bool) (P Q : K → Type 0) (xs : List K) → ((x : K) → f x ≡ true → P x → Q x)
    → Each P xs → Each Q (picked f xs)
unfolding picked
picked_each f P Q [] step h = tt
picked_each f P Q (x ∷ xs) step h = grind (arith, picked_each f P Q xs step h.1)

picked_pairs : {K : Type 0} (f : K → Bool) (R S : K → K → Type 0) (xs : List K)
    → ((x y : K) → f x ≡ true → f y ≡ true → R x y → S x y) → Pairs R xs → Pairs S (picked f xs)
unfolding picked
picked_pairs f R S [] step h = tt
picked_pairs f R S (x ∷ xs) step h = by_test (f x) refl (picked_pairs f R S xs step h.1)
  where
    by_test : (b : Bool) → f x ≡ b → Pairs S (picked f xs) → Pairs S (cond b (x ∷ picked f xs) (picked f xs))
    by_test true e r = (picked_each f (R x) (S x) xs (λ y k i. step x y e k i) h.0, r)
    by_test false e r = r

unfoldable one_if : Bool → ℕ
one_if true = 1
one_if false = 0

unfoldable count_of : (Pending → Bool) → List Pending → ℕ
count_of f [] = 0
count_of f (m ∷ ms) = one_if (f m) + count_of f ms

count_picked : (f : Pending → Bool) (ms : List Pending) → count_of f ms ≡ length (picked f ms)
unfolding count_of picked one_if
count_picked f [] = refl
count_picked f (m ∷ ms) = grind (arith, count_picked f ms)

-- there are no more instructions with a property than numbers that they can have
count_bound : (f : Pending → Bool) (key : Pending → ℕ) (ns : List ℕ) (R : Pending → Pending → Type 0)
    (P : Pending → Type 0) (ms : List Pending) → ((a b : Pending) → f a ≡ true → f b ≡ true → R a b → key a ≢ key b)
    → ((m : Pending) → f m ≡ true → P m → list_any (eqb (key m)) ns ≡ true) → Pairs R ms → Each P ms
    → count_of f ms ≤ length ns
count_bound f key ns R P ms apart listed h k =
    let e = count_picked f ms in
    let l = listed_bound key ns (picked f ms) (picked_pairs f R (λ a b. key a ≢ key b) ms apart h)
    (picked_each f P (λ m. list_any (eqb (key m)) ns ≡ true) ms listed k) in
    omega (arith, e, l)

-- ---- units, references, places and loads ----

unfoldable before_in : Phase → Bool
before_in (Before t) = true
before_in (After l) = false

-- whether the instruction holds a unit
unfoldable in_unit : Pending → Bool
in_unit m = before_in m.phase

unfoldable load_in : Shape → Phase → Bool
load_in (Loads n) (Before t) = true
load_in (Sets rs) (Before t) = false
load_in (Stores n) (Before t) = false
load_in Jumps (Before t) = false
load_in Links (Before t) = false
load_in h (After (Entered place a (LoadInto n))) = true
load_in h (After (Entered place a (StoreWord word))) = false
load_in h (After (Accepted n word)) = true

-- whether the instruction has a load still to return
unfoldable has_load : Pending → Bool
has_load m = load_in (shape_of m.instr) m.phase

unfoldable channel_in : Shape → Phase → ℕ
channel_in (Loads n) (Before t) = n
channel_in (Sets rs) (Before t) = 0
channel_in (Stores n) (Before t) = 0
channel_in Jumps (Before t) = 0
channel_in Links (Before t) = 0
channel_in h (After (Entered place a (LoadInto n))) = n
channel_in h (After (Entered place a (StoreWord word))) = 0
channel_in h (After (Accepted n word)) = n

-- the register of its load
unfoldable channel_of : Pending → ℕ
channel_of m = channel_in (shape_of m.instr) m.phase

stage_bound : (t : Stage) → stage_cost t ≤ 3
unfolding stage_cost
stage_bound t = grind arith

-- the cost of a phase, and the counts that limit it
unfoldable costs : Unit {0}
unfolding phase_cost reference_cost outstanding_cost one_if
costs = tt

phase_bound : (h : Shape) (p : Phase)
    → phase_cost h p ≤ 3 * one_if (before_in p) + 2 * (one_if (before_and (has_reference h) p) + one_if (entered_in p))
    + one_if (load_in h p)
unfolding costs before_in before_and occupancy_of is_reserved has_reference entered_in load_in
phase_bound h p = grind (arith, stage_bound)

pending_bound : (m : Pending) → cost m ≤ 3 * one_if (in_unit m) + 2 * (one_if (has_turn m) + one_if (is_entered m))
    + one_if (has_load m)
unfolding cost in_unit has_turn board.has_turn reservation_of before_and is_entered has_load
pending_bound m = phase_bound (shape_of m.instr) m.phase

work_bound : (ms : List Pending)
    → work_left ms ≤ 3 * count_of in_unit ms + 2 * (count_of has_turn ms + count_of is_entered ms)
    + count_of has_load ms
unfolding work_left count_of
work_bound [] = omega arith
work_bound (m ∷ ms) = let k = pending_bound m in let r = work_bound ms in omega (arith, k, r)

-- ---- seven units ----

below_seven : (n : ℕ) → n < 7 → list_any (eqb n) (0 ∷ 1 ∷ 2 ∷ 3 ∷ 4 ∷ 5 ∷ 6 ∷ []) ≡ true
below_seven n h = grind arith

unit_listed : (size : ℕ) (u : FunctionalUnit) (p : Phase) → before_in p ≡ true → IsPlaced size u p
    → list_any (eqb (slot_in u p)) (0 ∷ 1 ∷ 2 ∷ 3 ∷ 4 ∷ 5 ∷ 6 ∷ []) ≡ true
unfolding before_in slot_in
unit_listed size u (Before t) e h = below_seven (unit_slot u) h
unit_listed size u (After l) e h = cc

units_bound : (size : ℕ) (ms : List Pending) → Pairs (λ a b. slot_of a ≢ slot_of b) ms → Each (IsProper size) ms
    → count_of in_unit ms ≤ 7
unfolding in_unit slot_of
units_bound size ms h k =
    count_bound in_unit slot_of (0 ∷ 1 ∷ 2 ∷ 3 ∷ 4 ∷ 5 ∷ 6 ∷ []) _ (IsProper size) ms (λ a b x y d. d)
    (λ m e p. unit_listed size m.unit m.phase e p.placed) h k

-- ---- three units that make references ----

reference_slot : (u : FunctionalUnit) → may_take (Some BranchKind) u ≡ true
    → list_any (eqb (unit_slot u)) (0 ∷ 5 ∷ 6 ∷ []) ≡ true
unfolding may_take units_of same_unit unit_slot
reference_slot u h = grind arith

increment_slot : (u : FunctionalUnit) → may_take (Some IncrementKind) u ≡ true
    → list_any (eqb (unit_slot u)) (0 ∷ 5 ∷ 6 ∷ []) ≡ true
unfolding may_take units_of same_unit unit_slot
increment_slot u h = grind arith

increment_unit : (i : ℕ) (a : Addends) → (uses (Increment TargetA i a)).unit ≡ Some IncrementKind
increment_unit i a = grind arith

-- only RJ and the increment instructions make a reference
instr_slot : (i : Instr) (u : FunctionalUnit) → has_reference (shape_of i) ≡ true → may_take (uses i).unit u ≡ true
    → list_any (eqb (unit_slot u)) (0 ∷ 5 ∷ 6 ∷ []) ≡ true
unfolding shape_of has_reference
instr_slot i u e h = grind (arith, reference_slot, increment_slot, increment_unit)

turn_slot : (i : Instr) (u : FunctionalUnit) (p : Phase)
    → (is_reserved (occupancy_of p) && has_reference (shape_of i)) ≡ true → may_take (uses i).unit u ≡ true
    → list_any (eqb (slot_in u p)) (0 ∷ 5 ∷ 6 ∷ []) ≡ true
unfolding occupancy_of is_reserved slot_in
turn_slot i u (Before t) e h = instr_slot i u e h
turn_slot i u (After l) e h = cc

turns_bound : (size : ℕ) (ms : List Pending) → Pairs (λ a b. slot_of a ≢ slot_of b) ms → Each (IsProper size) ms
    → count_of has_turn ms ≤ 3
unfolding has_turn board.has_turn reservation_of slot_of
turns_bound size ms h k =
    count_bound has_turn slot_of (0 ∷ 5 ∷ 6 ∷ []) _ (IsProper size) ms (λ a b x y d. d)
    (λ m e p. turn_slot m.instr m.unit m.phase e p.of_kind) h k

-- ---- four places ----

entered_slot : (size : ℕ) (u : FunctionalUnit) (p : Phase) → entered_in p ≡ true → IsPlaced size u p
    → list_any (eqb (slot_in u p)) (7 ∷ 8 ∷ 9 ∷ 10 ∷ []) ≡ true
unfolding entered_in slot_in
entered_slot size u p e h = grind arith

entered_bound : (size : ℕ) (ms : List Pending) → Pairs (λ a b. slot_of a ≢ slot_of b) ms → Each (IsProper size) ms
    → count_of is_entered ms ≤ 4
unfolding is_entered slot_of
entered_bound size ms h k =
    count_bound is_entered slot_of (7 ∷ 8 ∷ 9 ∷ 10 ∷ []) _ (IsProper size) ms (λ a b x y d. d)
    (λ m e p. entered_slot size m.unit m.phase e p.placed) h k

-- ---- five channels ----

channel_listed : (n : ℕ) → IsChannel n → list_any (eqb n) (1 ∷ 2 ∷ 3 ∷ 4 ∷ 5 ∷ []) ≡ true
channel_listed n h = grind arith

load_channel : (size : ℕ) (u : FunctionalUnit) (h : Shape) (p : Phase) → ((n : ℕ) → h ≡ Loads n → IsChannel n)
    → load_in h p ≡ true → IsPlaced size u p → IsChannel (channel_in h p)
unfolding load_in channel_in
load_channel size u h p f e k = grind arith

-- the register of a load is a result still to come
load_comes : (h : Shape) (p : Phase) → load_in h p ≡ true → is_in (to_come_in h p) (X (channel_in h p)) ≡ true
unfolding load_in channel_in results_to_come is_in results sets_of loads_of
load_comes h p e = grind arith

in_one : (n : ℕ) (rs ts : List Reg) → is_in rs (X n) ≡ true → overlap rs ts ≡ false → is_in ts (X n) ≡ false
unfolding is_in overlap
in_one n [] ts i h = cc
in_one n (X m ∷ rs) ts i h = grind (arith, in_one n rs ts)
in_one n (A m ∷ rs) ts i h = in_one n rs ts i (or_parts (is_in ts (A m)) (overlap rs ts) h).1
in_one n (B m ∷ rs) ts i h = in_one n rs ts i (or_parts (is_in ts (B m)) (overlap rs ts) h).1

not_both : (b : Bool) → b ≡ true → b ≡ false → ⊥
not_both true e k = cc
not_both false e k = cc

loads_differ : (h k : Shape) (p q : Phase) → load_in h p ≡ true → load_in k q ≡ true
    → overlap (to_come_in k q) (to_come_in h p) ≡ false → channel_in h p ≢ channel_in k q
loads_differ h k p q a b o e =
    not_both _ (ap (λ n. is_in (to_come_in h p) (X n)) (sym e) ∙ load_comes h p a)
    (in_one (channel_in k q) (to_come_in k q) (to_come_in h p) (load_comes k q b) o)

loads_bound : (size : ℕ) (ms : List Pending) → Pairs IsApart ms → Each (IsProper size) ms → count_of has_load ms ≤ 5
unfolding has_load channel_of
loads_bound size ms h k =
    count_bound has_load channel_of (1 ∷ 2 ∷ 3 ∷ 4 ∷ 5 ∷ []) IsApart (IsProper size) ms
    (λ a b x y d. loads_differ (shape_of a.instr) (shape_of b.instr) a.phase b.phase x y (coming a b d.disjoint))
    (λ m e p. channel_listed (channel_of m)
    (load_channel size m.unit (shape_of m.instr) m.phase (λ n i. loads_channel m.instr n i) e p.placed))
    h k

-- ---- all of it ----

pub forty : (size : ℕ) (ms : List Pending) → HasOwnSlots size ms → Pairs IsApart ms → work_left ms ≤ 40
forty size ms s apart = grind (arith, all_slots, units_bound, turns_bound, entered_bound, loads_bound, work_bound)
