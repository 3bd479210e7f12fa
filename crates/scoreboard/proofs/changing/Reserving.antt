-- Reserving a unit: the writer of each register, and the board's list.
use Rattle.std.proofs.Common.{◌≡◌, ◌<◌, ◌≤◌, ℕ, zero, suc, Bool, true, false, cond, List, [], ◌∷◌, ◌++◌, Option, Some}
use Rattle.std.proofs.Common.{None, refl, sym, ap, ◌∙◌, subst, eqb, get_or, set, length, arith}
use Rattle.std.specs.Prelude.{if◌then◌else◌, is_some, ◌&&◌, ◌||◌, IfSome, find, Result, Ok, Err, option_to_list}
use Rattle.std.specs.List.{list_any}
use Rattle.std.proofs.lemmas.Bool.{eq-eqb, eqb-true, eqb-false, le-ltb, lt-ltb, or_parts}
use Rattle.std.proofs.lemmas.List.{length-set, length-append, set-append_left, get_or_append_left, get_or-set_same}
use Rattle.std.proofs.lemmas.List.{get_or-set_other}
use Rattle.std.proofs.lemmas.List.Folds.{list_any-append}
use Rattle.instructions.specs.declared.instr.Instr.{Instr}
use Rattle.instructions.specs.declared.instr.Reg.{Reg}
use Rattle.instructions.specs.declared.instr.Reg.TheVariants.{X, A, B}
use Rattle.instructions.specs.declared.instr.Unit.{Unit as FunctionalUnit}
use Rattle.instructions.specs.declared.instr.Unit.TheVariants.{Increment1, Increment2, Branch as BranchUnit}
use Rattle.instructions.specs.declared.instr.Unit.TheVariants.{Boolean as BooleanUnit, Shift as ShiftUnit}
use Rattle.instructions.specs.declared.instr.Unit.TheVariants.{LongAdd as LongAddUnit, Divide as DivideUnit}
use Rattle.instructions.specs.declared.instr.UnitKind.{UnitKind}
use Rattle.instructions.specs.declared.instr.UnitKind.TheVariants.{Branch, Boolean, Shift, LongAdd, Divide, Increment}
use Rattle.instructions.specs.declared.refusal.Refusal.{Refusal}
use Rattle.instructions.specs.declared.refusal.Refusal.TheVariants.{UnitBusy, ResultReserved}
use Rattle.instructions.specs.RegisterLists.{is_in}
use Rattle.instructions.specs.Shape.{shape_of, sets_of, results}
use Rattle.instructions.specs.Operands.{uses, sources_of, reg_eq}
use Rattle.scoreboard.specs.Conflicts.{first_such, awaited, is_held, first_free, free_unit, unit_for}
use Rattle.scoreboard.specs.Reservations.{comes, to_come, to_come_in, holds}
use Rattle.scoreboard.specs.Units.{unit_number, same_unit, units_of, may_take, first_unit}
use Rattle.scoreboard.specs.declared.issued.Issued.{Issued}
use Rattle.scoreboard.specs.declared.writer.Writer.{Writer}
use Rattle.scoreboard.specs.declared.writer.Writer.TheVariants.{OfUnit, OfChannel}
use Rattle.scoreboard.specs.declared.writers.Writers.{Writers}
use Rattle.scoreboard.specs.Answers.{Standing, new_issued, reserve_answer, reserved}
use Rattle.instructions.specs.Each.{Each, Pairs}
use Rattle.scoreboard.specs.inner.Fields.{slot_at, first_produced}
use Rattle.scoreboard.specs.Issued.{reservation_of, number_of, channel_of, written_by_channel, written_in, written_by}
use Rattle.scoreboard.specs.Issued.{or_else, first_some, if_earlier, writer_of, writer_before}
use Rattle.instructions.specs.Order.{sort_by, somes, IsInSlots}
use Rattle.scoreboard.specs.inner.View.{standing_of, in_slots, slot_in, slot_of, IsOther, IsOfKind, AreProducers}
use Rattle.scoreboard.specs.inner.View.{IsRight}
use Rattle.scoreboard.specs.Writers.{IsRegister, writer_at, set_writer, set_each}
use Rattle.instructions.proofs.Lists.{each_map, any_same}
use Rattle.instructions.proofs.Slots.{slot_any, within, in_slots_fill, sort_new}
use Rattle.instructions.proofs.Sorted.{any_sort, before_place, after_place, somes-at}
use Rattle.scoreboard.proofs.in_slots.Registers.{AreSized, reg_eq_same, set_gives, set_sized, each_sized, each_gives}
use Rattle.scoreboard.proofs.in_slots.Writing.{some_any, some_written, all_earlier}
use Rattle.scoreboard.proofs.in_slots.InSlots.{pairs_put, each_here, each_put, writer_put, unit_below}
use Rattle.scoreboard.proofs.in_slots.Small.{index_of, index_is, index_below}
use Rattle.scoreboard.proofs.in_slots.Standing.{none_any, unit_slot, nobody_holds, here_holds, produced_found, any_find}
use Rattle.scoreboard.proofs.changing.Right.{right_again, producers_same}

-- ---- the registers' writers ----

-- the writers after an issue: the unit for the registers that its store event writes, and the load's channel for its X
-- register
unfoldable pub writers_with : Writers → FunctionalUnit → List Reg → Option ℕ → Writers
writers_with ws unit rs None = set_each ws rs (Some (OfUnit unit))
writers_with ws unit rs (Some n) = set_each (set_writer ws (X n) (Some (OfChannel n))) rs (Some (OfUnit unit))

with_sized : (ws : Writers) (u : FunctionalUnit) (rs : List Reg) (c : Option ℕ) → AreSized ws
    → AreSized (writers_with ws u rs c)
unfolding writers_with
with_sized ws u rs None l = each_sized rs ws (Some (OfUnit u)) l
with_sized ws u rs (Some n) l = search (arith, each_sized, set_sized)

with_gives : (ws : Writers) (u : FunctionalUnit) (rs : List Reg) (c : Option ℕ) (r : Reg) → AreSized ws
    → Each IsRegister rs → IfSome c (λ n. n < 8)
    → writer_at (writers_with ws u rs c) r
    ≡ or_else (cond (is_in rs r) (Some (OfUnit u)) (written_by_channel r c)) (writer_at ws r)
unfolding writers_with or_else written_by_channel
with_gives ws u rs None r l v b = grind (arith, each_gives)
with_gives ws u rs (Some n) r l v b = grind (arith, each_gives, set_sized, set_gives)

-- ---- First order ----

-- a register has a writer exactly if it is a result still to come
pub awaited_field : (units channels : List (Option Issued)) (producers : List (List (Option Writer))) (ws : Writers)
    (last : ℕ) → IsRight units channels producers ws last → (r : Reg) → IsRegister r
    → is_some (writer_at ws r) ≡ awaited reservation_of (sort_by number_of (in_slots units channels)) r
unfolding in_slots awaited reservation_of writer_of
awaited_field units channels producers ws last right r v = grind (arith, some_any, any_same, some_written, any_sort)

find_valid : (f g : Reg → Bool) → ((r : Reg) → IsRegister r → f r ≡ g r) → (rs : List Reg) → Each IsRegister rs
    → find f rs ≡ find g rs
find_valid f g h [] v = refl
find_valid f g h (r ∷ rs) v =
    ap (λ b. cond b (Some r) (find f rs)) (h r v.0) ∙ ap (λ o. cond (g r) (Some r) o) (find_valid f g h rs v.1)

-- the first of the results that is still to come
pub first_awaited : (units channels : List (Option Issued)) (producers : List (List (Option Writer))) (ws : Writers)
    (last : ℕ) (rs : List Reg) (ps : List (Option Writer)) (o : Option Reg) → IsRight units channels producers ws last
    → AreProducers (writer_at ws) rs ps → Each IsRegister rs → o ≡ first_produced rs ps
    → o ≡ find (awaited reservation_of (sort_by number_of (in_slots units channels))) rs
first_awaited units channels producers ws last rs ps o right h v e =
    e ∙ produced_found (writer_at ws) rs ps h
    ∙ find_valid (λ r. is_some (writer_at ws r)) (awaited reservation_of (sort_by number_of (in_slots units channels)))
    (λ r k. awaited_field units channels producers ws last right r k) rs v

-- if no register is found, each fails the test
found_none : (test : Reg → Bool) (rs : List Reg) → find test rs ≡ None → (r : Reg) → is_in rs r ≡ true → test r ≡ false
unfolding is_in
found_none test [] h r k = cc
found_none test (s ∷ rs) h r k = by_tests (λ i j. found_none test rs i r j) (test s) refl h (reg_eq r s) refl k
  where
    by_tests : (find test rs ≡ None → is_in rs r ≡ true → test r ≡ false) → (t : Bool) → test s ≡ t
        → cond t (Some s) (find test rs) ≡ None → (q : Bool) → reg_eq r s ≡ q → (q || is_in rs r) ≡ true
        → test r ≡ false
    by_tests rest true e i q f j = cc
    by_tests rest false e i true f j = ap test (reg_eq_same r s f) ∙ e
    by_tests rest false e i false f j = rest i j

new_comes : (r : Reg) (i : Instr) (u : FunctionalUnit) (n : ℕ)
    → comes r (new_issued i u n).reservation ≡ is_in (results (shape_of i)) r
unfolding comes to_come to_come_in new_issued
new_comes r i u n = refl

-- none of the new results is still to come
pub fresh : (units channels : List (Option Issued)) (i : Instr) (u : FunctionalUnit) (n : ℕ)
    → find (awaited reservation_of (sort_by number_of (in_slots units channels))) (results (shape_of i)) ≡ None
    → (r : Reg)
    → comes r (new_issued i u n).reservation ≡ true → list_any (λ z. comes r z.reservation) (somes (units ++ channels))
    ≡ false
unfolding in_slots awaited reservation_of
fresh units channels i u n h r k = grind (arith, any_sort, found_none, new_comes)

-- ---- the unit ----

or_true : (b : Bool) → (b || true) ≡ true
or_true true = refl
or_true false = refl

any_here : (t : Issued → Bool) (os : List (Option Issued)) (i : ℕ) (x : Issued) → get_or os i None ≡ Some x
    → t x ≡ true → list_any t (somes os) ≡ true
any_here t os i x h e =
    ap (list_any t) (somes-at os i x h)
    ∙ list_any-append t (before_place os i) (x ∷ after_place os i)
    ∙ ap (λ b. list_any t (before_place os i) || (b || list_any t (after_place os i))) e
    ∙ or_true (list_any t (before_place os i))

-- the unit's slot is taken
abbrev pub is_taken : List (Option Issued) → FunctionalUnit → Bool
is_taken units unit = is_some (slot_at units unit)

-- the first unit of a kind whose slot isn't taken
unfoldable pub free_for : (FunctionalUnit → Bool) → Option UnitKind → Option FunctionalUnit
free_for taken None = None
free_for taken (Some kind) = first_free taken (units_of kind)

-- a unit is held exactly if its slot is filled
pub held_taken : (units channels : List (Option Issued)) (producers : List (List (Option Writer))) (ws : Writers)
    (last : ℕ) → IsRight units channels producers ws last → (u : FunctionalUnit)
    → is_taken units u ≡ is_held reservation_of (sort_by number_of (in_slots units channels)) u
unfolding in_slots is_held reservation_of
held_taken units channels producers ws last right u = by_slot (get_or units (unit_number u) None) refl
    ∙ sym (any_sort number_of (λ y. holds u y.reservation) (somes (units ++ channels)))
  where
    by_slot : (o : Option Issued) → get_or units (unit_number u) None ≡ o
        → is_some o ≡ list_any (λ y. holds u y.reservation) (somes (units ++ channels))
    by_slot None e = sym (none_any (λ y. holds u y.reservation) (somes (units ++ channels))
        (nobody_holds u (units ++ channels) (unit_number u) refl
        (unit_slot units channels u (unit_number u) None right.all_units refl e) right.stands))
    by_slot (Some x) e =
        let here = unit_slot units channels u (unit_number u) (Some x) right.all_units refl e in
        sym (any_here (λ y. holds u y.reservation) (units ++ channels) (unit_number u) x here
        (here_holds u (units ++ channels) (unit_number u) x refl here right.stands))

pub first_free_same : (f g : FunctionalUnit → Bool) → ((u : FunctionalUnit) → f u ≡ g u) → (us : List FunctionalUnit)
    → first_free f us ≡ first_free g us
unfolding first_free
first_free_same f g h [] = refl
first_free_same f g h (u ∷ us) =
    ap (λ b. cond b (first_free f us) (Some u)) (h u) ∙ ap (λ o. cond (g u) o (Some u)) (first_free_same f g h us)

pub free_same : (units channels : List (Option Issued)) (producers : List (List (Option Writer))) (ws : Writers)
    (last : ℕ) → IsRight units channels producers ws last → (k : Option UnitKind)
    → free_for (is_taken units) k ≡ unit_for reservation_of (sort_by number_of (in_slots units channels)) k
unfolding free_for unit_for free_unit
free_same units channels producers ws last right None = refl
free_same units channels producers ws last right (Some k) = search (arith, first_free_same, held_taken)

first_is_free : (f : FunctionalUnit → Bool) (us : List FunctionalUnit) (u : FunctionalUnit) → first_free f us ≡ Some u
    → f u ≡ false
unfolding first_free
first_is_free f [] u h = cc
first_is_free f (v ∷ us) u h = grind (arith, first_is_free f us u)

none_there : {K : Type 0} (o : Option K) → is_some o ≡ false → o ≡ None
none_there None h = refl
none_there (Some x) h = cc

-- the first free unit is one of the list
first_is_one : (f : FunctionalUnit → Bool) (us : List FunctionalUnit) (u : FunctionalUnit) → first_free f us ≡ Some u
    → list_any (same_unit u) us ≡ true
unfolding first_free same_unit
first_is_one f [] u h = cc
first_is_one f (v ∷ us) u h = by_test (first_is_one f us u) (f v) h
  where
    by_test : (first_free f us ≡ Some u → list_any (same_unit u) us ≡ true) → (b : Bool)
        → cond b (first_free f us) (Some v) ≡ Some u → (same_unit u v || list_any (same_unit u) us) ≡ true
    by_test rest true k = ap (λ b. same_unit u v || b) (rest k) ∙ or_true (same_unit u v)
    by_test rest false k =
        let q : v ≡ u = cc in
        ap (λ w. same_unit u w || list_any (same_unit u) us) q
        ∙ ap (λ b. b || list_any (same_unit u) us) (eq-eqb (unit_number u) (unit_number u) refl)

free_kind : (units : List (Option Issued)) (k : Option UnitKind) (u : FunctionalUnit)
    → free_for (is_taken units) k ≡ Some u → may_take k u ≡ true
unfolding free_for may_take
free_kind units None u h = cc
free_kind units (Some k) u h = first_is_one (is_taken units) (units_of k) u h

-- the unit of a kind that is tried: Increment 2 only if Increment 1 is taken
unfoldable pub tried : (FunctionalUnit → Bool) → UnitKind → FunctionalUnit
tried taken Branch = BranchUnit
tried taken Boolean = BooleanUnit
tried taken Shift = ShiftUnit
tried taken LongAdd = LongAddUnit
tried taken Divide = DivideUnit
tried taken Increment = if taken Increment1 then Increment2 else Increment1

-- the unit that is tried is the first free unit of its kind, unless it is taken
tried_first : (taken : FunctionalUnit → Bool) (kind : UnitKind)
    → first_free taken (units_of kind) ≡ (if taken (tried taken kind) then None else Some (tried taken kind))
unfolding first_free units_of tried
tried_first taken Branch = refl
tried_first taken Boolean = refl
tried_first taken Shift = refl
tried_first taken LongAdd = refl
tried_first taken Divide = refl
tried_first taken Increment = by_test (taken Increment1) refl
  where
    by_test : (b : Bool) → taken Increment1 ≡ b
        → (if taken Increment1 then (if taken Increment2 then None else Some Increment2) else Some Increment1)
        ≡ (if taken (if taken Increment1 then Increment2 else Increment1) then None
        else Some (if taken Increment1 then Increment2 else Increment1))
    by_test true e = simp e
    by_test false e = simp e

-- Increment 1 is taken, by the code's look at its slot
pub first_taken : (units : List (Option Issued)) (o : Option Issued) (b : Bool) → length units ≡ 10
    → b ≡ is_some (get_or units 8 o) → is_taken units Increment1 ≡ b
first_taken units o b l e = ap is_some (slot_any units 8 o (omega arith)) ∙ sym e

-- the first free unit of the kind is the unit that is tried, if the code finds that unit's slot empty
tried_for : (units : List (Option Issued)) (k q : Option UnitKind) (kind : UnitKind) (u : FunctionalUnit)
    (o : Option Issued) (b taken : Bool) → length units ≡ 10 → q ≡ k → q ≡ Some kind
    → u ≡ tried (is_taken units) kind → b ≡ is_some (get_or units (index_of u) o) → b ≡ taken
    → free_for (is_taken units) k ≡ (if taken then None else Some u)
unfolding free_for
tried_for units k q kind u o b taken l ek eq eu eb et =
    let slot : is_taken units u ≡ b =
    ap (λ n. is_some (get_or units n None)) (sym (index_is u))
    ∙ ap is_some (slot_any units (index_of u) o (omega (arith, index_below u))) ∙ sym eb in
    ap (free_for (is_taken units)) (sym ek ∙ eq) ∙ tried_first (is_taken units) kind
    ∙ ap (λ v. if is_taken units v then None else Some v) (sym eu)
    ∙ ap (λ c. if c then None else Some u) (slot ∙ et)

pub free_slot : (units : List (Option Issued)) (k : Option UnitKind) (u : FunctionalUnit)
    → free_for (is_taken units) k ≡ Some u → get_or units (unit_number u) None ≡ None
unfolding free_for
free_slot units None u h = cc
free_slot units (Some k) u h =
    none_there (get_or units (unit_number u) None) (first_is_free (is_taken units) (units_of k) u h)

-- ---- the answers ----

pub busy_answer : (s : Standing) (i : Instr) (o : Option FunctionalUnit) → o ≡ None
    → Err (UnitBusy (first_unit (uses i).unit)) ≡ reserve_answer s i o
unfolding reserve_answer
busy_answer s i o e = ap (reserve_answer s i) (sym e)

pub taken_answer : (s : Standing) (i : Instr) (o : Option FunctionalUnit) (u : FunctionalUnit) (q : Option Reg)
    (r : Reg) → o ≡ Some u → q ≡ find (awaited reservation_of s.issued) (results (shape_of i)) → q ≡ Some r
    → Err (ResultReserved r) ≡ reserve_answer s i o
unfolding reserve_answer
taken_answer s i o u q r e f g = grind (arith, any_find)

pub reserved_answer : (s : Standing) (i : Instr) (o : Option FunctionalUnit) (u : FunctionalUnit) (n : ℕ) → o ≡ Some u
    → find (awaited reservation_of s.issued) (results (shape_of i)) ≡ None → n ≡ suc s.last
    → Ok (u, n) ≡ reserve_answer s i o
unfolding reserve_answer
reserved_answer s i o u n e t k = grind (arith, any_find)

same_reservation : (p q : FunctionalUnit × ℕ) (r : Result (FunctionalUnit × ℕ) Refusal) → r ≡ Ok p → r ≡ Ok q → p ≡ q
same_reservation p q r h k = cc

-- an allowed reservation takes the free unit of the kind and the next number, and no other instruction is still to
-- write its results
pub reservable : (s : Standing) (i : Instr) (o : Option FunctionalUnit) (u : FunctionalUnit) (n : ℕ)
    → reserve_answer s i o ≡ Ok (u, n)
    → (o ≡ Some u) × (n ≡ suc s.last) × (find (awaited reservation_of s.issued) (results (shape_of i)) ≡ None)
unfolding reserve_answer
reservable s i None u n h = cc
reservable s i (Some v) u n h =
    by_test (list_any (awaited reservation_of s.issued) (results (shape_of i))) refl h
  where
    answer : Bool → Result (FunctionalUnit × ℕ) Refusal
    answer b = cond b (Err (ResultReserved (first_such (awaited reservation_of s.issued) (results (shape_of i)))))
        (Ok (v, suc s.last))

    by_test : (b : Bool) → list_any (awaited reservation_of s.issued) (results (shape_of i)) ≡ b
        → answer b ≡ Ok (u, n) → (Some v ≡ Some u) × (n ≡ suc s.last)
        × (find (awaited reservation_of s.issued) (results (shape_of i)) ≡ None)
    by_test true t k = cc
    by_test false t k =
        let q = same_reservation (v, suc s.last) (u, n) (Ok (v, suc s.last)) refl k in (
          ap (λ x. Some x.0) q,
          ap (λ x. x.1) (sym q),
          none_there _ (sym (any_find (awaited reservation_of s.issued) (results (shape_of i))) ∙ t),
        )

-- ---- what holds then ----

front_slot : (units channels : List (Option Issued)) (j : ℕ) (z : Issued) → get_or units j None ≡ Some z
    → get_or (units ++ channels) j None ≡ Some z
front_slot units channels j z h = get_or_append_left units channels None j (within units j z h) ∙ h

fresh_others : (last : ℕ) (y : Issued) (ys : List Issued) → y.number ≡ suc last → Each (λ x. x.number ≤ last) ys
    → ((r : Reg) → comes r y.reservation ≡ true → list_any (λ z. comes r z.reservation) ys ≡ false)
    → Each (IsOther y) ys
unfolding number_of
fresh_others last y [] e n h = tt
fresh_others last y (z ∷ ys) e n h = (
  one z n.0 (λ r k. (or_parts (comes r z.reservation) (list_any (λ w. comes r w.reservation) ys) (h r k)).0),
  fresh_others last y ys e n.1 (λ r k. (or_parts (comes r z.reservation) (list_any (λ w. comes r w.reservation) ys) (h
      r k)).1),
)
  where
    one : (z : Issued) → z.number ≤ last → ((r : Reg) → comes r y.reservation ≡ true → comes r z.reservation ≡ false)
        → IsOther y z
    one z l k =
        record {
          number = λ q. omega (arith, l, q, e);
          results = λ r. by_test (comes r y.reservation) (comes r
              z.reservation) (k r);
        }
      where
        by_test : (a b : Bool) → (a ≡ true → b ≡ false) → (a && b) ≡ false
        by_test true b f = f refl
        by_test false b f = refl

not_earlier : (n : ℕ) (r : Reg) (y : Issued) → n ≤ y.number → if_earlier n (written_by r) y ≡ None
unfolding if_earlier
not_earlier n r y h = ap (λ b. cond b (written_by r y) None) (le-ltb y.number n h)

is_earlier : (n : ℕ) (r : Reg) (y : Issued) → y.number < n → if_earlier n (written_by r) y ≡ written_by r y
unfolding if_earlier
is_earlier n r y h = ap (λ b. cond b (written_by r y) None) (lt-ltb y.number n h)

producers_valid : (f g : Reg → Option Writer) → ((r : Reg) → IsRegister r → g r ≡ f r)
    → (rs : List Reg) (ps : List (Option Writer)) → Each IsRegister rs → AreProducers f rs ps → AreProducers g rs ps
producers_valid f g h [] ps v k = tt
producers_valid f g h (r ∷ rs) [] v k = absurd k
producers_valid f g h (r ∷ rs) (p ∷ ps) v k = (k.0 ∙ sym (h r v.0), producers_valid f g h rs ps v.1 k.1)

new_written : (r : Reg) (i : Instr) (u : FunctionalUnit) (n : ℕ)
    → written_by r (new_issued i u n)
    ≡ cond (is_in (sets_of (shape_of i)) r) (Some (OfUnit u)) (written_by_channel r (channel_of (shape_of i)))
unfolding written_by written_in new_issued
new_written r i u n = refl

new_slot : (i : Instr) (u : FunctionalUnit) (n : ℕ) → slot_of (new_issued i u n) ≡ unit_number u
unfolding slot_of slot_in new_issued
new_slot i u n = refl

new_number : (i : Instr) (u : FunctionalUnit) (n : ℕ) → (new_issued i u n).number ≡ n
unfolding new_issued
new_number i u n = refl

new_sources : (i : Instr) (u : FunctionalUnit) (n : ℕ) → sources_of (new_issued i u n).reservation.instr ≡ sources_of i
unfolding new_issued
new_sources i u n = refl

new_kind : (i : Instr) (u : FunctionalUnit) (n : ℕ) → may_take (uses i).unit u ≡ true → IsOfKind (new_issued i u n)
unfolding new_issued
new_kind i u n h = h

pub reserved_right : (units channels : List (Option Issued)) (producers : List (List (Option Writer))) (ws : Writers)
    (last : ℕ) (u : FunctionalUnit) (k : ℕ) (i : Instr) (ps : List (Option Writer))
    → IsRight units channels producers ws last → k ≡ unit_number u → get_or units k None ≡ None
    → AreProducers (writer_at ws) (sources_of i) ps → Each IsRegister (sources_of i)
    → Each IsRegister (sets_of (shape_of i)) → IfSome (channel_of (shape_of i)) (λ n. n < 8)
    → ((r : Reg) → comes r (new_issued i u (suc last)).reservation ≡ true
    → list_any (λ z. comes r z.reservation) (somes (units ++ channels)) ≡ false) → may_take (uses i).unit u ≡ true
    → IsRight (set units k (Some (new_issued i u (suc last)))) channels (set producers k ps)
    (writers_with ws u (sets_of (shape_of i)) (channel_of (shape_of i))) (suc last)
unfolding in_slots writer_before or_else
reserved_right units channels producers ws last u k i ps right e h made sources sets channel new kind =
    right_again (set units k (Some y)) channels (set os k (Some y)) (set producers k ps)
    (writers_with ws u (sets_of (shape_of i)) (channel_of (shape_of i))) (suc last)
    (set-append_left units channels k (Some y) inside) (length-set units k (Some y) ∙ right.all_units)
    right.all_channels (length-set producers k ps ∙ right.all_producers)
    (with_sized ws u (sets_of (shape_of i)) (channel_of (shape_of i)) right.all_writers)
    (in_slots_fill slot_of os 0 k y (new_slot i u (suc last) ∙ omega (arith, e)) right.stands)
    (pairs_put os k y empty room others right.apart)
    (each_put (λ z. z.number ≤ suc last) os k y empty room (omega (arith, number)) below_next)
    (each_put IsOfKind os k y empty room (new_kind i u (suc last) kind) right.kinds)
    (λ r v. with_gives ws u (sets_of (shape_of i)) (channel_of (shape_of i)) r right.all_writers sets channel
    ∙ ap (λ o. or_else o (writer_at ws r))
    (sym (new_written r i u (suc last)) ∙ sym (is_earlier (suc (suc last)) r y (omega (arith, number))))
    ∙ ap (or_else (if_earlier (suc (suc last)) (written_by r) y))
    (right.written r v ∙ sym (all_earlier (suc last) r (somes os) below_next))
    ∙ sym (writer_put (suc (suc last)) r os k y empty room others))
    (λ j z q. by_place j z q (eqb j k) refl)
  where
    os : List (Option Issued)
    os = units ++ channels

    y : Issued
    y = new_issued i u (suc last)

    number : y.number ≡ suc last
    number = new_number i u (suc last)

    inside : k < length units
    inside = let b = unit_below u in omega (arith, b, e, right.all_units)

    empty : get_or os k None ≡ None
    empty = unit_slot units channels u k None right.all_units e h

    room : k < length os
    room = let q = length-append units channels in omega (arith, q, inside)

    others : Each (IsOther y) (somes os)
    others = fresh_others last y (somes os) number right.counted new

    below_next : Each (λ z. z.number ≤ suc last) (somes os)
    below_next =
        each_map (λ z. z.number ≤ last) (λ z. z.number ≤ suc last) (λ z q. omega (arith, q)) (somes os) right.counted

    same : (n : ℕ) (r : Reg) → n ≤ suc last
        → writer_before n (somes (set os k (Some y))) r ≡ writer_before n (somes os) r
    same n r l = writer_put n r os k y empty room others
        ∙ ap (λ o. or_else o (writer_before n (somes os) r)) (not_earlier n r y (omega (arith, l, number)))

    by_place : (j : ℕ) (z : Issued) → get_or (set units k (Some y)) j None ≡ Some z → (b : Bool) → eqb j k ≡ b
        → AreProducers (writer_before z.number (somes (set os k (Some y)))) (sources_of z.reservation.instr)
        (get_or (set producers k ps) j [])
    by_place j z q true b =
        let p : j ≡ k = eqb-true j k b in
        let t : Some y ≡ Some z = sym (get_or-set_same units k (Some y) None inside)
        ∙ ap (λ m. get_or (set units k (Some y)) m None) (sym p) ∙ q in
        let yz : y ≡ z = cc in
        let own : get_or (set producers k ps) j [] ≡ ps = ap (λ m. get_or (set producers k ps) m []) p
        ∙ get_or-set_same producers k ps [] (omega (arith, inside, right.all_units, right.all_producers)) in
        subst (λ (v : Issued). AreProducers (writer_before v.number (somes (set os k (Some y))))
        (sources_of v.reservation.instr) (get_or (set producers k ps) j [])) yz
        (subst (λ rs. AreProducers (writer_before y.number (somes (set os k (Some y)))) rs
        (get_or (set producers k ps) j [])) (sym (new_sources i u (suc last)))
        (subst (λ l. AreProducers (writer_before y.number (somes (set os k (Some y)))) (sources_of i) l) (sym own)
        (subst (λ n. AreProducers (writer_before n (somes (set os k (Some y)))) (sources_of i) ps) (sym number)
        (producers_valid (writer_at ws) (writer_before (suc last) (somes (set os k (Some y))))
        (λ r v. same (suc last) r (omega arith) ∙ all_earlier last r (somes os) right.counted
        ∙ sym (right.written r v)) (sources_of i) ps sources made))))
    by_place j z q false b =
        let t : get_or units j None ≡ Some z = sym (get_or-set_other units k j (Some y) None (eqb-false j k b)) ∙ q in
        let n : z.number ≤ last =
        each_here (λ w. w.number ≤ last) os j z (front_slot units channels j z t) right.counted in
        subst (λ l. AreProducers (writer_before z.number (somes (set os k (Some y)))) (sources_of z.reservation.instr)
        l)
        (sym (get_or-set_other producers k j ps [] (eqb-false j k b)))
        (producers_same (writer_before z.number (somes os)) (writer_before z.number (somes (set os k (Some y))))
        (λ r. same z.number r (omega (arith, n))) (sources_of z.reservation.instr) (get_or producers j [])
        (right.produced j z t))

-- ---- what the board stands for then ----

pub reserved_view : (units channels : List (Option Issued)) (producers : List (List (Option Writer))) (ws : Writers)
    (last : ℕ) (u : FunctionalUnit) (k : ℕ) (i : Instr) → IsRight units channels producers ws last → k ≡ unit_number u
    → get_or units k None ≡ None
    → standing_of (set units k (Some (new_issued i u (suc last)))) channels (suc last)
    ≡ reserved (standing_of units channels last) i (Ok (u, suc last))
unfolding in_slots reserved number_of
reserved_view units channels producers ws last u k i right e h =
    let os : List (Option Issued) = units ++ channels in
    let y : Issued = new_issued i u (suc last) in
    let b = unit_below u in
    let q = length-append units channels in
    let number = new_number i u (suc last) in
    ap (λ l. record { issued = l; last = suc last })
    (ap (λ m. sort_by number_of (somes m))
    (sym (set-append_left units channels k (Some y) (omega (arith, b, e, right.all_units))))
    ∙ sort_new number_of os k y (unit_slot units channels u k None right.all_units e h)
    (omega (arith, b, e, right.all_units, q))
    (each_map (λ z. z.number ≤ last) (λ z. z.number < y.number) (λ z p. omega (arith, p, number)) (somes os)
    right.counted))

-- ---- a new board ----

abbrev pub AreNone : {K : Type 0} → List (Option K) → Type 0
AreNone os = Each (λ o. o ≡ None) os

none_at : {K : Type 0} (os : List (Option K)) (j : ℕ) → AreNone os → get_or os j None ≡ None
none_at [] j h = refl
none_at (o ∷ os) zero h = h.0
none_at (o ∷ os) (suc j) h = none_at os j h.1

none_join : {K : Type 0} (xs ys : List (Option K)) → AreNone xs → AreNone ys → AreNone (xs ++ ys)
none_join [] ys h k = k
none_join (x ∷ xs) ys h k = (h.0, none_join xs ys h.1 k)

no_somes : {K : Type 0} (os : List (Option K)) → AreNone os → somes os ≡ []
unfolding somes
no_somes [] h = refl
no_somes (None ∷ os) h = no_somes os h.1
no_somes (Some x ∷ os) h = absurd (let q : Some x ≡ None = h.0 in cc)

none_in_slots : (os : List (Option Issued)) (k : ℕ) → AreNone os → IsInSlots slot_of k os
none_in_slots [] k h = tt
none_in_slots (None ∷ os) k h = none_in_slots os (suc k) h.1
none_in_slots (Some x ∷ os) k h = absurd (let q : Some x ≡ None = h.0 in cc)

writer_none : (ws : Writers) (r : Reg) → AreNone ws.x → AreNone ws.a → AreNone ws.b → writer_at ws r ≡ None
unfolding writer_at
writer_none ws (X n) h k l = none_at ws.x n h
writer_none ws (A n) h k l = none_at ws.a n k
writer_none ws (B n) h k l = none_at ws.b n l

-- a refused reservation changes nothing
pub none_right : (units channels : List (Option Issued)) (producers : List (List (Option Writer))) (ws : Writers)
    → AreNone units → AreNone channels → AreNone ws.x → AreNone ws.a → AreNone ws.b → length units ≡ 10
    → length channels ≡ 8 → length producers ≡ 10 → AreSized ws → IsRight units channels producers ws 0
unfolding writer_before first_some
none_right units channels producers ws hu hc hx ha hb lu lc lp lw =
    let none = no_somes (units ++ channels) (none_join units channels hu hc) in
    right_again units channels (units ++ channels) producers ws 0 refl lu lc lp lw
    (none_in_slots (units ++ channels) 0 (none_join units channels hu hc))
    (subst (Pairs IsOther) (sym none) tt)
    (subst (Each (λ x. x.number ≤ 0)) (sym none) tt)
    (subst (Each IsOfKind) (sym none) tt)
    (λ r v. writer_none ws r hx ha hb ∙ ap (λ l. writer_before (suc 0) l r) (sym none))
    (λ j z h. absurd (let q : None ≡ Some z = sym (none_at units j hu) ∙ h in cc))

pub none_view : (units channels : List (Option Issued)) → AreNone units → AreNone channels
    → standing_of units channels 0 ≡ record { issued = []; last = 0 }
unfolding in_slots sort_by
none_view units channels hu hc = simp (no_somes, none_join)

-- ---- the two clauses of a refusal ----

pub refused_after : (s : Standing) (i : Instr) (k : Refusal) → s ≡ reserved s i (Err k)
unfolding reserved
refused_after s i k = refl

-- ---- in the words of the code ----

pub first_found : (units channels : List (Option Issued)) (producers : List (List (Option Writer))) (ws : Writers)
    (last : ℕ) (i : Instr) (rs ss : List Reg) (ps : List (Option Writer)) (q : Option Reg)
    → IsRight units channels producers ws last → AreProducers (writer_at ws) rs ps → Each IsRegister rs
    → rs ≡ results (shape_of i) → ss ≡ results (shape_of i) → q ≡ first_produced ss ps
    → q ≡ find (awaited reservation_of (sort_by number_of (in_slots units channels))) (results (shape_of i))
first_found units channels producers ws last i rs ss ps q right h v er es eq =
    let e : rs ≡ ss = er ∙ sym es in
    first_awaited units channels producers ws last ss ps q right (subst (λ l. AreProducers (writer_at ws) l ps) e h)
    (subst (Each IsRegister) e v) eq
    ∙ ap (find (awaited reservation_of (sort_by number_of (in_slots units channels)))) es

pub unit_found : (units channels : List (Option Issued)) (producers : List (List (Option Writer))) (ws : Writers)
    (last : ℕ) (k q : Option UnitKind) (kind : UnitKind) (u : FunctionalUnit) (o : Option Issued) (b taken : Bool)
    → IsRight units channels producers ws last → q ≡ k → q ≡ Some kind → u ≡ tried (is_taken units) kind
    → b ≡ is_some (get_or units (index_of u) o) → b ≡ taken
    → unit_for reservation_of (standing_of units channels last).issued k ≡ (if taken then None else Some u)
unit_found units channels producers ws last k q kind u o b taken right ek eq eu eb et =
    sym (free_same units channels producers ws last right k)
    ∙ tried_for units k q kind u o b taken right.all_units ek eq eu eb et

pub slot_found : (units : List (Option Issued)) (k : Option UnitKind) (o : Option FunctionalUnit) (u : FunctionalUnit)
    (i : ℕ) → o ≡ free_for (is_taken units) k → o ≡ Some u → i ≡ unit_number u → get_or units i None ≡ None
slot_found units k o u i e h q = ap (λ m. get_or units m None) q ∙ free_slot units k u (sym e ∙ h)

pub kind_found : (units : List (Option Issued)) (k : Option UnitKind) (o : Option FunctionalUnit) (u : FunctionalUnit)
    → o ≡ free_for (is_taken units) k → o ≡ Some u → may_take k u ≡ true
kind_found units k o u e h = free_kind units k u (sym e ∙ h)

pub new_right : (units channels : List (Option Issued)) (producers : List (List (Option Writer))) (ws ws' : Writers)
    (last n : ℕ) (u : FunctionalUnit) (k : ℕ) (i : Instr) (rs : List Reg) (ps : List (Option Writer)) (y : Issued)
    → IsRight units channels producers ws last → n ≡ suc last → k ≡ unit_number u → get_or units k None ≡ None
    → rs ≡ sources_of i → AreProducers (writer_at ws) rs ps → Each IsRegister rs
    → Each IsRegister (sets_of (shape_of i)) → IfSome (channel_of (shape_of i)) (λ m. m < 8)
    → find (awaited reservation_of (sort_by number_of (in_slots units channels))) (results (shape_of i)) ≡ None
    → may_take (uses i).unit u ≡ true → y ≡ new_issued i u n
    → ws' ≡ writers_with ws u (sets_of (shape_of i)) (channel_of (shape_of i))
    → IsRight (set units k (Some y)) channels (set producers k ps) ws' n
new_right units channels producers ws ws' last n u k i rs ps y right en e h er made sources sets channel none kind ey
    ew =
    subst (λ v. IsRight (set units k (Some y)) channels (set producers k ps) v n) (sym ew)
    (subst (λ v. IsRight (set units k (Some v)) channels (set producers k ps)
    (writers_with ws u (sets_of (shape_of i)) (channel_of (shape_of i))) n) (sym ey)
    (subst (λ m. IsRight (set units k (Some (new_issued i u m))) channels (set producers k ps)
    (writers_with ws u (sets_of (shape_of i)) (channel_of (shape_of i))) m) (sym en)
    (reserved_right units channels producers ws last u k i ps right e h
    (subst (λ l. AreProducers (writer_at ws) l ps) er made) (subst (Each IsRegister) er sources) sets channel
    (fresh units channels i u (suc last) none) kind)))

pub new_view : (units channels : List (Option Issued)) (producers : List (List (Option Writer))) (ws : Writers)
    (last n : ℕ) (u : FunctionalUnit) (k : ℕ) (i : Instr) (y : Issued) → IsRight units channels producers ws last
    → n ≡ suc last → k ≡ unit_number u → get_or units k None ≡ None → y ≡ new_issued i u n
    → standing_of (set units k (Some y)) channels n ≡ reserved (standing_of units channels last) i (Ok (u, n))
new_view units channels producers ws last n u k i y right en e h ey = grind (arith, reserved_view)

-- the writers after a load's channel was entered
abbrev pub with_channel : Writers → Option ℕ → Writers
with_channel ws None = ws
with_channel ws (Some n) = set_writer ws (X n) (Some (OfChannel n))

-- the writers after an issue, entered one by one
pub writers_entered : (ws middle after : Writers) (u : FunctionalUnit) (i : Instr) (r : Option Reg)
    → sets_of (shape_of i) ≡ option_to_list r → middle ≡ with_channel ws (channel_of (shape_of i))
    → after ≡ set_each middle (option_to_list r) (Some (OfUnit u))
    → after ≡ writers_with ws u (sets_of (shape_of i)) (channel_of (shape_of i))
unfolding writers_with
writers_entered ws middle after u i r es em ea = grind arith
