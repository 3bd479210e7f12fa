-- The contents of the slots in the order of their numbers: the found reservation, the earlier ones, and the effect of a
-- change.
use Rattle.std.proofs.Common.{◌≡◌, ◌≢◌, ◌<◌, ◌≤◌, ◌+◌, ℕ, zero, suc, Bool, true, false, cond, List, [], ◌∷◌, ◌++◌}
use Rattle.std.proofs.Common.{Option, Some, None, refl, sym, ap, ◌∙◌, subst, ltb, get_or, set, length, arith}
use Rattle.std.specs.Prelude.{is_some, ◌&&◌, ◌||◌, find, Result, Ok, Err}
use Rattle.std.specs.List.{list_any}
use Rattle.std.proofs.lemmas.List.{get_or_append_left}
use Rattle.std.proofs.lemmas.List.Folds.{list_any-append}
use Rattle.std.proofs.lemmas.Bool.{and_right}
use Rattle.instructions.specs.declared.instr.Reg.{Reg}
use Rattle.instructions.specs.declared.instr.Reg.TheVariants.{X}
use Rattle.instructions.specs.declared.instr.Unit.{Unit as FunctionalUnit}
use Rattle.instructions.specs.declared.refusal.Refusal.{Refusal}
use Rattle.instructions.specs.declared.refusal.Refusal.TheVariants.{OperandAwaited, ResultHeld}
use Rattle.instructions.specs.declared.instr.Instr.{Instr}
use Rattle.instructions.specs.Finding.{seek, replaced}
use Rattle.instructions.specs.Shape.{shape_of, sets_of}
use Rattle.instructions.specs.Operands.{sources_of}
use Rattle.scoreboard.specs.Reservations.{holds, reads, reads_in, reads_it, is_reserved}
use Rattle.scoreboard.specs.Units.{unit_number}
use Rattle.scoreboard.specs.Conflicts.{awaited, to_be_read, first_such}
use Rattle.instructions.specs.RegisterLists.{is_in}
use Rattle.scoreboard.specs.declared.issued.Issued.{Issued}
use Rattle.scoreboard.specs.declared.writer.Writer.{Writer}
use Rattle.scoreboard.specs.declared.writers.Writers.{Writers}
use Rattle.scoreboard.specs.Answers.{held_in, returning_by, unless, read_answer, store_answer, return_answer}
use Rattle.instructions.specs.Each.{Each, Pairs}
use Rattle.scoreboard.specs.inner.Fields.{slot_reads, first_produced}
use Rattle.scoreboard.specs.Issued.{reservation_of, number_of, writer_before}
use Rattle.instructions.specs.Order.{sort_by, somes, IsInSlots}
use Rattle.scoreboard.specs.inner.View.{in_slots, IsOther, slot_in, slot_of, AreProducers, IsRight}
use Rattle.instructions.proofs.Lists.{each_map, or_false, any_same}
use Rattle.instructions.proofs.Sorted.{any_sort, any_earlier, any_somes, IsIncreasing, sort_increasing, sort_each}
use Rattle.instructions.proofs.Slots.{taken_with, in_slots_others, in_slots_nobody, in_slots_here, before_slot}
use Rattle.instructions.proofs.Slots.{after_slot, each_before, found_there, found_nobody}
use Rattle.instructions.proofs.Finding.{replaced_around, replaced_nobody}
use Rattle.scoreboard.proofs.in_slots.Writing.{some_any, earlier_some}
use Rattle.scoreboard.proofs.in_slots.InSlots.{get_back, own_keys, stands_holds, stands_not, stands_held}
use Rattle.scoreboard.proofs.in_slots.InSlots.{stands_not_held, stands_returns, stands_not_returning, unit_below}

-- ---- the one in a slot, in order ----

-- the list with the found reservation replaced
pub changed : (f : Issued → Option Instr) (g : Issued → List Issued) (os : List (Option Issued)) (i : ℕ) (x : Issued)
    → get_or os i None ≡ Some x → Pairs IsOther (somes os) → f x ≡ Some x.reservation.instr
    → Each (λ y. f y ≡ None) (somes (set os i None))
    → replaced (seek f (sort_by number_of (somes os))) (sort_by number_of (somes os)) g ≡ before_slot number_of os i x
    ++ (g x ++ after_slot number_of os i x)
changed f g os i x h p e k =
    ap (λ l. replaced (seek f l) l g) (taken_with number_of os i x h (own_keys (somes os) p))
    ∙ replaced_around f g (before_slot number_of os i x) x x.reservation.instr (after_slot number_of os i x)
    (each_before number_of (λ y. f y ≡ None) os i x k) e

pub nobody_changed : (f : Issued → Option Instr) (g : Issued → List Issued) (os : List (Option Issued))
    → Each (λ y. f y ≡ None) (somes os)
    → replaced (seek f (sort_by number_of (somes os))) (sort_by number_of (somes os)) g ≡ sort_by number_of (somes os)
nobody_changed f g os k =
    replaced_nobody f g (sort_by number_of (somes os)) (sort_each number_of (λ y. f y ≡ None) (somes os) k)

-- a test of the earlier reservations is a test of the slots with a lower number
pub earlier_any : (f : Issued → Bool) (os : List (Option Issued)) (i : ℕ) (x : Issued) → get_or os i None ≡ Some x
    → Pairs IsOther (somes os) → list_any (λ y. ltb (number_of y) (number_of x) && f y) (somes os)
    ≡ list_any f (before_slot number_of os i x)
earlier_any f os i x h p =
    let t : Issued → Bool = λ y. ltb (number_of y) (number_of x) && f y in
    let order = taken_with number_of os i x h (own_keys (somes os) p) in
    sym (any_sort number_of t (somes os))
    ∙ ap (list_any t) order
    ∙ any_earlier number_of f (before_slot number_of os i x) x (after_slot number_of os i x)
    (subst (IsIncreasing number_of) order (sort_increasing number_of (somes os) (own_keys (somes os) p)))

-- ---- the slots of units and channels ----

pub no_slot : (o : Option Issued) → ((x : Issued) → o ≡ Some x → ⊥) → o ≡ None
no_slot None h = refl
no_slot (Some x) h = absurd (h x refl)

pub list_read : {K : Type 0} (xs : List (List K)) (i : ℕ) (x : List K) → i < length xs → x ≡ get_or xs i x
    → x ≡ get_or xs i []
list_read [] i x h e = absurd (omega arith)
list_read (y ∷ xs) zero x h e = e
list_read (y ∷ xs) (suc i) x h e = list_read xs i x (omega arith) e

pub unit_slot : (units channels : List (Option Issued)) (u : FunctionalUnit) (i : ℕ) (o : Option Issued)
    → length units ≡ 10 → i ≡ unit_number u → get_or units i None ≡ o → get_or (units ++ channels) i None ≡ o
unit_slot units channels u i o l e h = grind (arith, unit_below, get_or_append_left)

pub channel_slot : (units channels : List (Option Issued)) (n : ℕ) (o : Option Issued) → length units ≡ 10
    → get_or channels n None ≡ o → get_or (units ++ channels) (10 + n) None ≡ o
channel_slot units channels n o l h = get_back units channels n (10 + n) None (omega (arith, l)) ∙ h

-- no other reservation holds the unit
pub others_free : (u : FunctionalUnit) (os : List (Option Issued)) (i : ℕ) → i ≡ unit_number u → IsInSlots slot_of 0 os
    → Each (λ y. held_in u y ≡ None) (somes (set os i None))
others_free u os i e s = grind (arith, each_map, stands_not_held, in_slots_others)

pub nobody_holds : (u : FunctionalUnit) (os : List (Option Issued)) (i : ℕ) → i ≡ unit_number u
    → get_or os i None ≡ None → IsInSlots slot_of 0 os → Each (λ y. holds u y.reservation ≡ false) (somes os)
nobody_holds u os i e h s = each_map (λ y. slot_of y ≢ i) (λ y. holds u y.reservation ≡ false)
    (λ y k. stands_not u y (λ q. k (q ∙ sym e))) (somes os) (in_slots_nobody slot_of os i h s)

pub nobody_held : (u : FunctionalUnit) (os : List (Option Issued)) (i : ℕ) → i ≡ unit_number u
    → get_or os i None ≡ None → IsInSlots slot_of 0 os → Each (λ y. held_in u y ≡ None) (somes os)
nobody_held u os i e h s = each_map (λ y. slot_of y ≢ i) (λ y. held_in u y ≡ None)
    (λ y k. stands_not_held u y (λ q. k (q ∙ sym e))) (somes os) (in_slots_nobody slot_of os i h s)

pub here_holds : (u : FunctionalUnit) (os : List (Option Issued)) (i : ℕ) (x : Issued) → i ≡ unit_number u
    → get_or os i None ≡ Some x → IsInSlots slot_of 0 os → holds u x.reservation ≡ true
here_holds u os i x e h s = let q = in_slots_here slot_of os 0 i x h s in stands_holds u x (q ∙ omega (arith, e))

pub here_held : (u : FunctionalUnit) (os : List (Option Issued)) (i : ℕ) (x : Issued) → i ≡ unit_number u
    → get_or os i None ≡ Some x → IsInSlots slot_of 0 os → held_in u x ≡ Some x.reservation.instr
here_held u os i x e h s = let q = in_slots_here slot_of os 0 i x h s in stands_held u x (q ∙ omega (arith, e))

pub others_not_returning : (n : ℕ) (os : List (Option Issued)) → IsInSlots slot_of 0 os
    → Each (λ y. returning_by n y ≡ None) (somes (set os (10 + n) None))
others_not_returning n os s = grind (arith, each_map, stands_not_returning, in_slots_others)

pub nobody_returns : (n : ℕ) (os : List (Option Issued)) → get_or os (10 + n) None ≡ None → IsInSlots slot_of 0 os
    → Each (λ y. returning_by n y ≡ None) (somes os)
nobody_returns n os h s = each_map (λ y. slot_of y ≢ 10 + n) (λ y. returning_by n y ≡ None)
    (λ y k. stands_not_returning n y k) (somes os) (in_slots_nobody slot_of os (10 + n) h s)

pub here_returns : (n : ℕ) (os : List (Option Issued)) (x : Issued) → n < 8 → get_or os (10 + n) None ≡ Some x
    → IsInSlots slot_of 0 os → returning_by n x ≡ Some x.reservation.instr
here_returns n os x b h s = let q = in_slots_here slot_of os 0 (10 + n) x h s in stands_returns n x b (q ∙ omega arith)

-- ---- answers by the first register ----

unfoldable pub from_found : Option Reg → (Reg → Refusal) → Result (Unit {0}) Refusal
from_found None k = Ok tt
from_found (Some r) k = Err (k r)

pub any_find : (test : Reg → Bool) (rs : List Reg) → list_any test rs ≡ is_some (find test rs)
any_find test [] = refl
any_find test (r ∷ rs) = grind (arith, any_find test rs)

pub unless_found : (test : Reg → Bool) (rs : List Reg) (k : Reg → Refusal)
    → from_found (find test rs) k ≡ unless (list_any test rs) (k (first_such test rs))
unfolding from_found
unless_found test rs k = grind (arith, any_find)

pub find_same : (f g : Reg → Bool) → ((r : Reg) → f r ≡ g r) → (rs : List Reg) → find f rs ≡ find g rs
find_same f g h [] = refl
find_same f g h (r ∷ rs) =
    ap (λ b. cond b (Some r) (find f rs)) (h r) ∙ ap (λ o. cond (g r) (Some r) o) (find_same f g h rs)

pub produced_found : (f : Reg → Option Writer) (rs : List Reg) (ps : List (Option Writer)) → AreProducers f rs ps
    → first_produced rs ps ≡ find (λ r. is_some (f r)) rs
unfolding first_produced
produced_found f [] ps h = refl
produced_found f (r ∷ rs) [] h = absurd h
produced_found f (r ∷ rs) (None ∷ ps) h =
    produced_found f rs ps h.1 ∙ ap (λ o. cond (is_some o) (Some r) (find (λ s. is_some (f s)) rs)) h.0
produced_found f (r ∷ rs) (Some w ∷ ps) h = ap (λ o. cond (is_some o) (Some r) (find (λ s. is_some (f s)) rs)) h.0

-- ---- Second order ----

-- a source has a producer exactly if it is a result still to come of an earlier reservation
pub awaited_earlier : (r : Reg) (os : List (Option Issued)) (i : ℕ) (x : Issued) → get_or os i None ≡ Some x
    → Pairs IsOther (somes os) → is_some (writer_before x.number (somes os) r)
    ≡ awaited reservation_of (before_slot number_of os i x) r
unfolding writer_before awaited number_of reservation_of
awaited_earlier r os i x h p = grind (arith, some_any, any_same, earlier_some, earlier_any)

pub read_answered : (units channels : List (Option Issued)) (producers : List (List (Option Writer))) (ws : Writers)
    (last : ℕ) (u : FunctionalUnit) (i : ℕ) (x : Issued) (rs : List Reg) (ps : List (Option Writer)) (o : Option Reg)
    → IsRight units channels producers ws last → i ≡ unit_number u → get_or units i None ≡ Some x
    → rs ≡ sources_of x.reservation.instr → ps ≡ get_or producers i [] → o ≡ first_produced rs ps
    → from_found o OperandAwaited ≡ read_answer (seek (held_in u) (sort_by number_of (in_slots units channels)))
unfolding in_slots read_answer
read_answered units channels producers ws last u i x rs ps o right e h er ep eo =
    let os : List (Option Issued) = units ++ channels in
    let here = unit_slot units channels u i (Some x) right.all_units e h in
    let f : Reg → Option Writer = writer_before x.number (somes os) in
    let made : AreProducers f (sources_of x.reservation.instr) (get_or producers i []) = right.produced i x h in
    ap (λ q. from_found q OperandAwaited)
    (eo ∙ ap (λ l. first_produced l ps) er ∙ ap (first_produced (sources_of x.reservation.instr)) ep
    ∙ produced_found f (sources_of x.reservation.instr) (get_or producers i []) made
    ∙ find_same (λ r. is_some (f r)) (awaited reservation_of (before_slot number_of os i x))
    (λ r. awaited_earlier r os i x here right.apart) (sources_of x.reservation.instr))
    ∙ unless_found (awaited reservation_of (before_slot number_of os i x)) (sources_of x.reservation.instr)
    OperandAwaited
    ∙ ap read_answer (sym (found_there number_of (held_in u) os i x x.reservation.instr here (own_keys (somes os)
    right.apart)
    (here_held u os i x e here right.stands) (others_free u os i e right.stands)))

pub nobody_answers : (units channels : List (Option Issued)) (producers : List (List (Option Writer))) (ws : Writers)
    (last : ℕ) (u : FunctionalUnit) (i : ℕ) → IsRight units channels producers ws last → i ≡ unit_number u
    → get_or units i None ≡ None → seek (held_in u) (sort_by number_of (in_slots units channels)) ≡ None
unfolding in_slots
nobody_answers units channels producers ws last u i right e h =
    found_nobody number_of (held_in u) (units ++ channels)
    (nobody_held u (units ++ channels) i e (unit_slot units channels u i None right.all_units e h) right.stands)

-- ---- Third order, and the turn ----

in_slots_back : (xs ys : List (Option Issued)) (k l : ℕ) → l ≡ k + length xs → IsInSlots slot_of k (xs ++ ys)
    → IsInSlots slot_of l ys
in_slots_back [] ys k l e s = let q : k ≡ l = omega (arith, e) in subst (λ m. IsInSlots slot_of m ys) q s
in_slots_back (None ∷ xs) ys k l e s = in_slots_back xs ys (suc k) l (omega (arith, e)) s
in_slots_back (Some x ∷ xs) ys k l e s = in_slots_back xs ys (suc k) l (omega (arith, e)) s.1

left_from : (os : List (Option Issued)) (k : ℕ) → 10 ≤ k → IsInSlots slot_of k os
    → Each (λ y. is_reserved y.reservation.occupancy ≡ false) (somes os)
unfolding somes slot_in slot_of is_reserved
left_from [] k h s = tt
left_from (None ∷ os) k h s = left_from os (suc k) (omega arith) s
left_from (Some x ∷ os) k h s = grind (arith, left_from os (suc k) (omega arith) s.1)

somes-append : (xs ys : List (Option Issued)) → somes (xs ++ ys) ≡ somes xs ++ somes ys
unfolding somes
somes-append [] ys = refl
somes-append (None ∷ xs) ys = somes-append xs ys
somes-append (Some x ∷ xs) ys = ap (λ l. x ∷ l) (somes-append xs ys)

pub none_any : (t : Issued → Bool) (ys : List Issued) → Each (λ y. t y ≡ false) ys → list_any t ys ≡ false
none_any t [] h = refl
none_any t (y ∷ ys) h = ap (λ b. b || list_any t ys) h.0 ∙ none_any t ys h.1

-- a test that is false for reservations in channels is a test of the units
pub units_any : (t : Issued → Bool) (g : Option Issued → Bool) → g None ≡ false → ((x : Issued) → g (Some x) ≡ t x)
    → ((y : Issued) → is_reserved y.reservation.occupancy ≡ false → t y ≡ false)
    → (units channels : List (Option Issued))
    → length units ≡ 10 → IsInSlots slot_of 0 (units ++ channels)
    → list_any g units ≡ list_any t (somes (units ++ channels))
units_any t g none some silent units channels l s =
    grind (arith, any_somes, or_false, none_any, each_map, left_from, in_slots_back, somes-append, list_any-append)

no_reads : (r : Reg) (y : Issued) → is_reserved y.reservation.occupancy ≡ false → reads_it r y.reservation ≡ false
unfolding reads_it reads is_reserved reads_in is_in
no_reads r y h = grind arith

-- an earlier reservation has yet to read a register exactly if a unit with a lower number has
pub read_earlier : (r : Reg) (units channels : List (Option Issued)) (i : ℕ) (x : Issued) → length units ≡ 10
    → IsInSlots slot_of 0 (units ++ channels) → get_or (units ++ channels) i None ≡ Some x
    → Pairs IsOther (somes (units ++ channels))
    → list_any (slot_reads x.number r) units ≡ to_be_read reservation_of (before_slot number_of (units ++ channels) i
    x) r
unfolding to_be_read number_of reservation_of slot_reads
read_earlier r units channels i x l s h p = grind (arith, units_any, no_reads, earlier_any, and_right)

pub store_answered : (units channels : List (Option Issued)) (producers : List (List (Option Writer))) (ws : Writers)
    (last : ℕ) (u : FunctionalUnit) (i : ℕ) (x : Issued) (rs : List Reg) (o : Option Reg)
    → IsRight units channels producers ws last → i ≡ unit_number u → get_or units i None ≡ Some x
    → rs ≡ sets_of (shape_of x.reservation.instr) → o ≡ find (λ r. list_any (slot_reads x.number r) units) rs
    → from_found o ResultHeld ≡ store_answer (seek (held_in u) (sort_by number_of (in_slots units channels)))
unfolding in_slots store_answer
store_answered units channels producers ws last u i x rs o right e h er eo =
    let os : List (Option Issued) = units ++ channels in
    let here = unit_slot units channels u i (Some x) right.all_units e h in
    let test : Reg → Bool = to_be_read reservation_of (before_slot number_of os i x) in
    ap (λ q. from_found q ResultHeld)
    (eo ∙ ap (find (λ r. list_any (slot_reads x.number r) units)) er
    ∙ find_same (λ r. list_any (slot_reads x.number r) units) test
    (λ r. read_earlier r units channels i x right.all_units right.stands here right.apart)
    (sets_of (shape_of x.reservation.instr)))
    ∙ unless_found test (sets_of (shape_of x.reservation.instr)) ResultHeld
    ∙ ap store_answer (sym (found_there number_of (held_in u) os i x x.reservation.instr here (own_keys (somes os)
    right.apart)
    (here_held u os i x e here right.stands) (others_free u os i e right.stands)))

pub return_answered : (units channels : List (Option Issued)) (producers : List (List (Option Writer))) (ws : Writers)
    (last n : ℕ) (x : Issued) (b : Bool) → IsRight units channels producers ws last → n < 8
    → get_or channels n None ≡ Some x → b ≡ list_any (slot_reads x.number (X n)) units
    → unless b (ResultHeld (X n)) ≡ return_answer n (seek (returning_by n)
    (sort_by number_of (in_slots units channels)))
unfolding in_slots return_answer
return_answered units channels producers ws last n x b right below_8 h eb =
    let os : List (Option Issued) = units ++ channels in
    let here = channel_slot units channels n (Some x) right.all_units h in
    ap (λ q. unless q (ResultHeld (X n)))
    (eb ∙ read_earlier (X n) units channels (10 + n) x right.all_units right.stands here right.apart)
    ∙ ap (return_answer n) (sym (found_there number_of (returning_by n) os (10 + n) x x.reservation.instr here
    (own_keys (somes os) right.apart) (here_returns n os x below_8 here right.stands)
    (others_not_returning n os right.stands)))

pub nobody_returning : (units channels : List (Option Issued)) (producers : List (List (Option Writer))) (ws : Writers)
    (last n : ℕ) → IsRight units channels producers ws last → get_or channels n None ≡ None
    → seek (returning_by n) (sort_by number_of (in_slots units channels)) ≡ None
unfolding in_slots
nobody_returning units channels producers ws last n right h =
    found_nobody number_of (returning_by n) (units ++ channels)
    (nobody_returns n (units ++ channels) (channel_slot units channels n None right.all_units h) right.stands)
