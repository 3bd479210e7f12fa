-- The units for branches, references and stores: a test of all instructions is a test of these units' slots.
use Rattle.std.proofs.Common.{eqb, ◌≡◌, ◌≢◌, ℕ, zero, suc, Bool, true, false, List, [], ◌∷◌, ◌++◌, Option, Some, None}
use Rattle.std.proofs.Common.{refl, sym, ap, ◌∙◌, ltb, length, get_or, set, arith}
use Rattle.std.specs.Prelude.{not, ◌&&◌, ◌||◌, is_some}
use Rattle.std.specs.List.{list_any}
use Rattle.std.proofs.lemmas.Bool.{eq-eqb, eqb-true, eqb-false, and_right}
use Rattle.std.proofs.lemmas.List.{get_or-set_other}
use Rattle.instructions.specs.declared.instr.Addends.{Addends}
use Rattle.instructions.specs.declared.instr.Addends.TheVariants.{Address, Registers}
use Rattle.instructions.specs.declared.instr.Addition.{Addition}
use Rattle.instructions.specs.declared.instr.Addition.TheVariants.{Sum, Difference}
use Rattle.instructions.specs.declared.instr.Base.TheVariants.{A as BaseA, B as BaseB, X as BaseX}
use Rattle.instructions.specs.declared.instr.BTest.{BTest}
use Rattle.instructions.specs.declared.instr.BTest.TheVariants.{Equal, NotEqual, GreaterOrEqual, Less}
use Rattle.instructions.specs.declared.instr.Direction.{Direction}
use Rattle.instructions.specs.declared.instr.Direction.TheVariants.{Left as ToLeft, Right as ToRight}
use Rattle.instructions.specs.declared.instr.Instr.{Instr}
use Rattle.instructions.specs.declared.instr.Instr.TheVariants.{Stop, Pass, ReturnJump, Jump, BranchX, BranchB, Copy}
use Rattle.instructions.specs.declared.instr.Instr.TheVariants.{Invert, Logical, ShiftBy, ShiftNominal}
use Rattle.instructions.specs.declared.instr.Instr.TheVariants.{LongAdd as LongSum, Mask, CountOnes, Increment}
use Rattle.instructions.specs.declared.instr.Logic.{Logic}
use Rattle.instructions.specs.declared.instr.Logic.TheVariants.{And, Or, Xor, AndNot, OrNot, XorNot}
use Rattle.instructions.specs.declared.instr.Pair.TheVariants.{XPlusB, APlusB, AMinusB, BPlusB, BMinusB}
use Rattle.instructions.specs.declared.instr.Target.{Target}
use Rattle.instructions.specs.declared.instr.Target.TheVariants.{A as TargetA, B as TargetB, X as TargetX}
use Rattle.instructions.specs.declared.instr.Unit.{Unit as FunctionalUnit}
use Rattle.instructions.specs.declared.instr.Unit.TheVariants.{Branch, Boolean, Shift, Add, LongAdd, Multiply1}
use Rattle.instructions.specs.declared.instr.Unit.TheVariants.{Multiply2, Divide, Increment1, Increment2}
use Rattle.instructions.specs.declared.instr.UnitKind.{UnitKind}
use Rattle.instructions.specs.declared.instr.UnitKind.TheVariants.{Branch as BranchKind, Boolean as BooleanKind}
use Rattle.instructions.specs.declared.instr.UnitKind.TheVariants.{Shift as ShiftKind, LongAdd as LongAddKind}
use Rattle.instructions.specs.declared.instr.UnitKind.TheVariants.{Divide as DivideKind, Increment as IncrementKind}
use Rattle.instructions.specs.declared.instr.XTest.{XTest}
use Rattle.instructions.specs.declared.instr.XTest.TheVariants.{Zero, NonZero, Positive, Negative, InRange, OutOfRange}
use Rattle.instructions.specs.declared.instr.XTest.TheVariants.{Definite, Indefinite}
use Rattle.instructions.specs.declared.refusal.Refusal.TheVariants.{OutOfTurn}
use Rattle.instructions.specs.declared.shape.MemoryUse.{MemoryUse}
use Rattle.instructions.specs.Each.{Each}
use Rattle.instructions.specs.Finding.{seek}
use Rattle.instructions.specs.Order.{sort_by, somes, IsInSlots}
use Rattle.instructions.specs.Shape.{Shape, shape_of, is_branch_shape, memory_of, has_reference, has_store}
use Rattle.instructions.specs.Operands.{uses}
use Rattle.instructions.proofs.Lists.{each_map, each_both, or_false, any_same}
use Rattle.instructions.proofs.MemoryUses.{reference_used}
use Rattle.instructions.proofs.Slots.{in_slots_others, in_slots_empty, found_there}
use Rattle.instructions.proofs.Sorted.{any_sort}
use Rattle.scoreboard.specs.declared.issued.Issued.{Issued}
use Rattle.scoreboard.specs.declared.writer.Writer.{Writer}
use Rattle.scoreboard.specs.declared.writers.Writers.{Writers}
use Rattle.scoreboard.specs.Answers.{held_in, unless, turn_answer}
use Rattle.scoreboard.specs.Conflicts.{is_held}
use Rattle.scoreboard.specs.inner.Fields.{slot_is, slot_has_turn, slot_at, in_increment}
use Rattle.scoreboard.specs.Issued.{reservation_of, number_of}
use Rattle.scoreboard.specs.Reservations.{holds, is_branch, has_turn, has_store_turn, is_reserved}
use Rattle.scoreboard.specs.Units.{unit_number, same_unit, units_of, may_take}
use Rattle.scoreboard.specs.inner.View.{in_slots, slot_in, slot_of, IsOfKind, IsRight}
use Rattle.scoreboard.proofs.changing.Reserving.{is_taken, held_taken}
use Rattle.scoreboard.proofs.in_slots.InSlots.{own_keys}
use Rattle.scoreboard.proofs.in_slots.Standing.{units_any, none_any, unit_slot, earlier_any, here_held, others_free}

-- ---- the kind of unit that an instruction takes, by its name ----

-- every conditional branch on an X register takes Branch
branch_x_unit : (test : XTest) (j K : ℕ) → (uses (BranchX test j K)).unit ≡ Some BranchKind
branch_x_unit Zero j K = refl
branch_x_unit NonZero j K = refl
branch_x_unit Positive j K = refl
branch_x_unit Negative j K = refl
branch_x_unit InRange j K = refl
branch_x_unit OutOfRange j K = refl
branch_x_unit Definite j K = refl
branch_x_unit Indefinite j K = refl

branch_b_unit : (test : BTest) (i j K : ℕ) → (uses (BranchB test i j K)).unit ≡ Some BranchKind
branch_b_unit Equal i j K = refl
branch_b_unit NotEqual i j K = refl
branch_b_unit GreaterOrEqual i j K = refl
branch_b_unit Less i j K = refl

logical_unit : (op : Logic) (i j k : ℕ) → (uses (Logical op i j k)).unit ≡ Some BooleanKind
logical_unit And i j k = refl
logical_unit Or i j k = refl
logical_unit Xor i j k = refl
logical_unit AndNot i j k = refl
logical_unit OrNot i j k = refl
logical_unit XorNot i j k = refl

shift_by_unit : (direction : Direction) (i jk : ℕ) → (uses (ShiftBy direction i jk)).unit ≡ Some ShiftKind
shift_by_unit ToLeft i jk = refl
shift_by_unit ToRight i jk = refl

shift_nominal_unit : (direction : Direction) (i j k : ℕ) → (uses (ShiftNominal direction i j k)).unit ≡ Some ShiftKind
shift_nominal_unit ToLeft i j k = refl
shift_nominal_unit ToRight i j k = refl

long_unit : (op : Addition) (i j k : ℕ) → (uses (LongSum op i j k)).unit ≡ Some LongAddKind
long_unit Sum i j k = refl
long_unit Difference i j k = refl

increment_unit : (target : Target) (i : ℕ) (a : Addends) → (uses (Increment target i a)).unit ≡ Some IncrementKind
increment_unit TargetA i (Address BaseA j K) = refl
increment_unit TargetA i (Address BaseB j K) = refl
increment_unit TargetA i (Address BaseX j K) = refl
increment_unit TargetA i (Registers XPlusB j k) = refl
increment_unit TargetA i (Registers APlusB j k) = refl
increment_unit TargetA i (Registers AMinusB j k) = refl
increment_unit TargetA i (Registers BPlusB j k) = refl
increment_unit TargetA i (Registers BMinusB j k) = refl
increment_unit TargetB i (Address BaseA j K) = refl
increment_unit TargetB i (Address BaseB j K) = refl
increment_unit TargetB i (Address BaseX j K) = refl
increment_unit TargetB i (Registers XPlusB j k) = refl
increment_unit TargetB i (Registers APlusB j k) = refl
increment_unit TargetB i (Registers AMinusB j k) = refl
increment_unit TargetB i (Registers BPlusB j k) = refl
increment_unit TargetB i (Registers BMinusB j k) = refl
increment_unit TargetX i (Address BaseA j K) = refl
increment_unit TargetX i (Address BaseB j K) = refl
increment_unit TargetX i (Address BaseX j K) = refl
increment_unit TargetX i (Registers XPlusB j k) = refl
increment_unit TargetX i (Registers APlusB j k) = refl
increment_unit TargetX i (Registers AMinusB j k) = refl
increment_unit TargetX i (Registers BPlusB j k) = refl
increment_unit TargetX i (Registers BMinusB j k) = refl

-- ---- the slots of a kind ----

branch_slot : (u : FunctionalUnit) → may_take (Some BranchKind) u ≡ true → unit_number u ≡ unit_number Branch
unfolding may_take units_of same_unit
branch_slot Branch h = refl
branch_slot Boolean h = cc
branch_slot Shift h = cc
branch_slot Add h = cc
branch_slot LongAdd h = cc
branch_slot Multiply1 h = cc
branch_slot Multiply2 h = cc
branch_slot Divide h = cc
branch_slot Increment1 h = cc
branch_slot Increment2 h = cc

increment_slot : (u : FunctionalUnit) → may_take (Some IncrementKind) u ≡ true → unit_number u ≢ unit_number Increment1
    → unit_number u ≢ unit_number Increment2 → ⊥
unfolding may_take units_of same_unit
increment_slot Branch h a b = cc
increment_slot Boolean h a b = cc
increment_slot Shift h a b = cc
increment_slot Add h a b = cc
increment_slot LongAdd h a b = cc
increment_slot Multiply1 h a b = cc
increment_slot Multiply2 h a b = cc
increment_slot Divide h a b = cc
increment_slot Increment1 h a b = a refl
increment_slot Increment2 h a b = b refl

branch_alone : (u : FunctionalUnit) → may_take (Some BranchKind) u ≡ true → same_unit u Branch ≡ true
unfolding same_unit
branch_alone u h = eq-eqb (unit_number u) (unit_number Branch) (branch_slot u h)

not_branch : (k : UnitKind) (u : FunctionalUnit) → may_take (Some k) u ≡ true
    → list_any (same_unit Branch) (units_of k) ≡ false → same_unit u Branch ≡ false
unfolding may_take same_unit
not_branch k Branch h f = absurd (let q : true ≡ false = sym h ∙ f in cc)
not_branch k Boolean h f = refl
not_branch k Shift h f = refl
not_branch k Add h f = refl
not_branch k LongAdd h f = refl
not_branch k Multiply1 h f = refl
not_branch k Multiply2 h f = refl
not_branch k Divide h f = refl
not_branch k Increment1 h f = refl
not_branch k Increment2 h f = refl

-- ---- what an instruction is, and which unit it is issued to ----

of_kind : (o : Option UnitKind) (k : UnitKind) (u : FunctionalUnit) → o ≡ Some k → may_take o u ≡ true
    → may_take (Some k) u ≡ true
of_kind o k u e h = sym (ap (λ p. may_take p u) e) ∙ h

-- an instruction in Branch is a branch, and no other instruction is
branch_there : (i : Instr) (u : FunctionalUnit) → may_take (uses i).unit u ≡ true
    → same_unit u Branch ≡ is_branch_shape (shape_of i)
unfolding may_take units_of same_unit shape_of is_branch_shape
branch_there Stop u h = cc
branch_there Pass u h = cc
branch_there (ReturnJump K) u h = branch_alone u h
branch_there (Jump i K) u h = branch_alone u h
branch_there (BranchX t j K) u h =
    branch_alone u (of_kind (uses (BranchX t j K)).unit BranchKind u (branch_x_unit t j K) h)
branch_there (BranchB t i j K) u h =
    branch_alone u (of_kind (uses (BranchB t i j K)).unit BranchKind u (branch_b_unit t i j K) h)
branch_there (Copy i j) u h = not_branch BooleanKind u h refl
branch_there (Invert i k) u h = not_branch BooleanKind u h refl
branch_there (Logical o i j k) u h =
    not_branch BooleanKind u (of_kind (uses (Logical o i j k)).unit BooleanKind u (logical_unit o i j k) h) refl
branch_there (ShiftBy d i jk) u h =
    not_branch ShiftKind u (of_kind (uses (ShiftBy d i jk)).unit ShiftKind u (shift_by_unit d i jk) h) refl
branch_there (ShiftNominal d i j k) u h =
    not_branch ShiftKind u (of_kind (uses (ShiftNominal d i j k)).unit ShiftKind u (shift_nominal_unit d i j k) h) refl
branch_there (LongSum o i j k) u h =
    not_branch LongAddKind u (of_kind (uses (LongSum o i j k)).unit LongAddKind u (long_unit o i j k) h) refl
branch_there (Mask i jk) u h = not_branch ShiftKind u h refl
branch_there (CountOnes i k) u h = not_branch DivideKind u h refl
branch_there (Increment t i a) u h = grind arith

-- outside Branch and the Increment units no instruction makes a reference
no_reference : (i : Instr) (u : FunctionalUnit) → may_take (uses i).unit u ≡ true → unit_number u ≢ unit_number Branch
    → unit_number u ≢ unit_number Increment1 → unit_number u ≢ unit_number Increment2
    → has_reference (shape_of i) ≡ false
unfolding shape_of has_reference
no_reference Stop u h a b c = refl
no_reference Pass u h a b c = refl
no_reference (ReturnJump K) u h a b c = absurd (a (branch_slot u h))
no_reference (Jump i K) u h a b c = refl
no_reference (BranchX t j K) u h a b c = refl
no_reference (BranchB t i j K) u h a b c = refl
no_reference (Copy i j) u h a b c = refl
no_reference (Invert i k) u h a b c = refl
no_reference (Logical o i j k) u h a b c = refl
no_reference (ShiftBy d i jk) u h a b c = refl
no_reference (ShiftNominal d i j k) u h a b c = refl
no_reference (LongSum o i j k) u h a b c = refl
no_reference (Mask i jk) u h a b c = refl
no_reference (CountOnes i k) u h a b c = refl
no_reference (Increment TargetA i a) u h z b c = grind (arith, increment_slot, of_kind, increment_unit)
no_reference (Increment TargetB i a) u h z b c = refl
no_reference (Increment TargetX i a) u h z b c = refl

-- outside the Increment units only RJ stores
no_store : (i : Instr) (u : FunctionalUnit) → may_take (uses i).unit u ≡ true → unit_number u ≢ unit_number Increment1
    → unit_number u ≢ unit_number Increment2 → (has_store (shape_of i) && not (is_branch_shape (shape_of i))) ≡ false
unfolding shape_of has_store is_branch_shape
no_store Stop u h b c = refl
no_store Pass u h b c = refl
no_store (ReturnJump K) u h b c = refl
no_store (Jump i K) u h b c = refl
no_store (BranchX t j K) u h b c = refl
no_store (BranchB t i j K) u h b c = refl
no_store (Copy i j) u h b c = refl
no_store (Invert i k) u h b c = refl
no_store (Logical o i j k) u h b c = refl
no_store (ShiftBy d i jk) u h b c = refl
no_store (ShiftNominal d i j k) u h b c = refl
no_store (LongSum o i j k) u h b c = refl
no_store (Mask i jk) u h b c = refl
no_store (CountOnes i k) u h b c = refl
no_store (Increment TargetA i a) u h b c = grind (arith, increment_slot, of_kind, increment_unit)
no_store (Increment TargetB i a) u h b c = refl
no_store (Increment TargetX i a) u h b c = refl

-- ---- one that was issued ----

and_swap : (a b : Bool) → (a && b) ≡ (b && a)
and_swap true true = refl
and_swap true false = refl
and_swap false true = refl
and_swap false false = refl

branch_holds : (y : Issued) → IsOfKind y → holds Branch y.reservation ≡ is_branch y.reservation
unfolding holds is_branch
branch_holds y h = grind (arith, branch_there, and_swap)

turn_silent : (y : Issued) → IsOfKind y → slot_of y ≢ unit_number Branch → slot_of y ≢ unit_number Increment1
    → slot_of y ≢ unit_number Increment2 → has_turn y.reservation ≡ false
unfolding has_turn slot_of slot_in is_reserved
turn_silent y h = grind (arith, no_reference)

store_silent : (y : Issued) → IsOfKind y → slot_of y ≢ unit_number Increment1 → slot_of y ≢ unit_number Increment2
    → has_store_turn y.reservation ≡ false
unfolding has_store_turn slot_of slot_in is_reserved
store_silent y h = grind (arith, no_store)

-- ---- a test of all is a test of some slots ----

-- a test over one slot and the others
any_out : (t : Issued → Bool) (g : Option Issued → Bool) → g None ≡ false → ((x : Issued) → g (Some x) ≡ t x)
    → (os : List (Option Issued)) (i : ℕ)
    → list_any t (somes os) ≡ (g (get_or os i None) || list_any t (somes (set os i None)))
unfolding somes
any_out t g none some [] i = sym (ap (λ b. b || false) none)
any_out t g none some (None ∷ os) zero = sym (ap (λ b. b || list_any t (somes os)) none)
any_out t g none some (Some x ∷ os) zero = sym (ap (λ b. b || list_any t (somes os)) (some x))
any_out t g none some (None ∷ os) (suc i) = any_out t g none some os i
any_out t g none some (Some x ∷ os) (suc i) = grind (arith, any_out t g none some os i)

each_out : (P : Issued → Type 0) (os : List (Option Issued)) (i : ℕ) → Each P (somes os)
    → Each P (somes (set os i None))
unfolding somes
each_out P [] i p = p
each_out P (None ∷ os) zero p = p
each_out P (Some x ∷ os) zero p = p.1
each_out P (None ∷ os) (suc i) p = each_out P os i p
each_out P (Some x ∷ os) (suc i) p = (p.0, each_out P os i p.1)

emptied : (os : List (Option Issued)) (i : ℕ) → get_or (set os i None) i None ≡ None
emptied [] i = refl
emptied (o ∷ os) zero = refl
emptied (o ∷ os) (suc i) = emptied os i

-- emptying that slot doesn't change a test of the others
others_kept : (g : Option Issued → Bool) → g None ≡ false → (os : List (Option Issued)) (i : ℕ) (slots : List ℕ)
    → (g (get_or os i None) || list_any (λ j. g (get_or (set os i None) j None)) slots)
    ≡ (g (get_or os i None) || list_any (λ j. g (get_or os j None)) slots)
others_kept g none os i slots = by_test (g (get_or os i None)) refl
  where
    same_at : g (get_or os i None) ≡ false → (j : ℕ) (b : Bool) → eqb j i ≡ b
        → g (get_or (set os i None) j None) ≡ g (get_or os j None)
    same_at e j true q =
        ap (λ k. g (get_or (set os i None) k None)) (eqb-true j i q) ∙ ap g (emptied os i) ∙ none ∙ sym e
        ∙ ap (λ k. g (get_or os k None)) (sym (eqb-true j i q))
    same_at e j false q = ap g (get_or-set_other os i j None None (eqb-false j i q))

    by_test : (b : Bool) → g (get_or os i None) ≡ b
        → (b || list_any (λ j. g (get_or (set os i None) j None)) slots)
        ≡ (b || list_any (λ j. g (get_or os j None)) slots)
    by_test true e = refl
    by_test false e = any_same (λ j. g (get_or (set os i None) j None)) (λ j. g (get_or os j None))
        (λ j. same_at e j (eqb j i) refl) slots

-- a test that fails outside some slots
slots_any : (t : Issued → Bool) (g : Option Issued → Bool) → g None ≡ false → ((x : Issued) → g (Some x) ≡ t x)
    → (slots : List ℕ) (P : Issued → Type 0) (os : List (Option Issued)) → IsInSlots slot_of 0 os → Each P (somes os)
    → ((y : Issued) → P y → Each (λ i. slot_of y ≢ i) slots → t y ≡ false)
    → list_any t (somes os) ≡ list_any (λ i. g (get_or os i None)) slots
slots_any t g none some [] P os s p silent =
    none_any t (somes os) (each_map P (λ y. t y ≡ false) (λ y k. silent y k tt) (somes os) p)
slots_any t g none some (i ∷ slots) P os s p silent =
    any_out t g none some os i
    ∙ ap (λ b. g (get_or os i None) || b)
    (slots_any t g none some slots (λ y. (slot_of y ≢ i) × P y) (set os i None) (in_slots_empty slot_of os 0 i s)
    (each_both (λ y. slot_of y ≢ i) P (λ y. (slot_of y ≢ i) × P y) (λ y a b. (a, b)) (somes (set os i None))
    (in_slots_others slot_of os 0 i i (omega arith) s) (each_out P os i p))
    (λ y k l. silent y k.1 (k.0, l)))
    ∙ others_kept g none os i slots

-- ---- in the words of the code ----

slot_same : (units channels : List (Option Issued)) (u : FunctionalUnit) → length units ≡ 10
    → get_or (units ++ channels) (unit_number u) None ≡ slot_at units u
slot_same units channels u l = unit_slot units channels u (unit_number u) (slot_at units u) l refl refl

-- a test that fails outside the Increment units
in_increments : (t : Issued → Bool) (g : Option Issued → Bool) → g None ≡ false → ((x : Issued) → g (Some x) ≡ t x)
    → (units channels : List (Option Issued)) → length units ≡ 10
    → (list_any (λ i. g (get_or (units ++ channels) i None)) (unit_number Increment1 ∷ unit_number Increment2 ∷ []))
    ≡ in_increment g units
in_increments t g none some units channels l = simp (or_false, slot_same)

each_of_same : (f g : Issued → Bool) (P : Issued → Type 0) → ((y : Issued) → P y → f y ≡ g y) → (ys : List Issued)
    → Each P ys → list_any f ys ≡ list_any g ys
each_of_same f g P h [] p = refl
each_of_same f g P h (y ∷ ys) p =
    ap (λ b. b || list_any f ys) (h y p.0) ∙ ap (λ b. g y || b) (each_of_same f g P h ys p.1)

-- a branch is pending exactly if Branch is held
pub branch_found : (units channels : List (Option Issued)) (producers : List (List (Option Writer))) (ws : Writers)
    (last : ℕ) → IsRight units channels producers ws last
    → is_taken units Branch ≡ list_any (λ y. is_branch y.reservation) (sort_by number_of (in_slots units channels))
unfolding in_slots is_held reservation_of
branch_found units channels producers ws last right =
    held_taken units channels producers ws last right Branch
    ∙ any_sort number_of (λ y. holds Branch y.reservation) (somes (units ++ channels))
    ∙ each_of_same (λ y. holds Branch y.reservation) (λ y. is_branch y.reservation) IsOfKind branch_holds (somes (units
    ++ channels))
    right.kinds
    ∙ sym (any_sort number_of (λ y. is_branch y.reservation) (somes (units ++ channels)))

-- a pending SA6 or SA7 is in an Increment unit
pub store_found : (units channels : List (Option Issued)) (producers : List (List (Option Writer))) (ws : Writers)
    (last : ℕ) → IsRight units channels producers ws last
    → in_increment (slot_is has_store_turn) units
    ≡ list_any (λ y. has_store_turn y.reservation) (sort_by number_of (in_slots units channels))
unfolding in_slots slot_is
store_found units channels producers ws last right =
    let t : Issued → Bool = λ y. has_store_turn y.reservation in
    sym (any_sort number_of t (somes (units ++ channels))
    ∙ slots_any t (slot_is has_store_turn) refl (λ y. refl) (unit_number Increment1 ∷ unit_number Increment2 ∷ [])
    IsOfKind (units ++ channels) right.stands right.kinds (λ y k l. store_silent y k l.0 l.1.0)
    ∙ in_increments t (slot_is has_store_turn) refl (λ y. refl) units channels right.all_units)

-- an instruction with a reference to make is in Branch or in an Increment unit
pub reference_found : (units channels : List (Option Issued)) (producers : List (List (Option Writer))) (ws : Writers)
    (last : ℕ) → IsRight units channels producers ws last
    → (slot_is has_turn (slot_at units Branch) || in_increment (slot_is has_turn) units)
    ≡ list_any (λ y. has_turn y.reservation) (sort_by number_of (in_slots units channels))
unfolding in_slots slot_is
reference_found units channels producers ws last right =
    let t : Issued → Bool = λ y. has_turn y.reservation in
    sym (any_sort number_of t (somes (units ++ channels))
    ∙ slots_any t (slot_is has_turn) refl (λ y. refl)
    (unit_number Branch ∷ unit_number Increment1 ∷ unit_number Increment2 ∷ []) IsOfKind
    (units ++ channels) right.stands
    right.kinds (λ y k l. turn_silent y k l.0 l.1.0 l.1.1.0)
    ∙ ap (λ o. slot_is has_turn o || list_any (λ i. slot_is has_turn (get_or (units ++ channels) i None))
    (unit_number Increment1 ∷ unit_number Increment2 ∷ [])) (slot_same units channels Branch right.all_units)
    ∙ ap (λ b. slot_is has_turn (slot_at units Branch) || b)
    (in_increments t (slot_is has_turn) refl (λ y. refl) units channels right.all_units))

-- an earlier instruction has a reference to make exactly if some reservation with a lower number has
turn_found : (n : ℕ) (units channels : List (Option Issued)) → length units ≡ 10
    → IsInSlots slot_of 0 (units ++ channels)
    → list_any (slot_has_turn n) units
    ≡ list_any (λ y. ltb y.number n && has_turn y.reservation) (somes (units ++ channels))
unfolding slot_has_turn has_turn
turn_found n units channels l s = grind (arith, units_any, and_right)

-- an instruction makes a reference exactly if it uses memory
pub used_refers : (s : Shape) (o : Option MemoryUse) (b c : Bool) → o ≡ memory_of s → is_some o ≡ not b → b ≡ c
    → has_reference s ≡ not c
used_refers s o b c e n k = sym (reference_used s) ∙ ap is_some (sym e) ∙ n ∙ ap not k

pub turn_answered : (units channels : List (Option Issued)) (producers : List (List (Option Writer))) (ws : Writers)
    (last : ℕ) (u : FunctionalUnit) (i : ℕ) (x : Issued) (b : Bool) → IsRight units channels producers ws last
    → i ≡ unit_number u → get_or units i None ≡ Some x
    → b ≡ (has_reference (shape_of x.reservation.instr)
    && list_any (slot_has_turn x.number) units)
    → unless b OutOfTurn ≡ turn_answer (seek (held_in u) (sort_by number_of (in_slots units channels)))
unfolding in_slots turn_answer number_of reservation_of
turn_answered units channels producers ws last u i x b right e h eb =
    let os : List (Option Issued) = units ++ channels in
    let here = unit_slot units channels u i (Some x) right.all_units e h in
    ap (λ q. unless q OutOfTurn) (eb ∙ ap (λ q. has_reference (shape_of x.reservation.instr) && q)
    (turn_found x.number units channels right.all_units right.stands
    ∙ earlier_any (λ y. has_turn y.reservation) os i x here right.apart))
    ∙ ap turn_answer (sym (found_there number_of (held_in u) os i x x.reservation.instr here (own_keys (somes os)
    right.apart)
    (here_held u os i x e here right.stands) (others_free u os i e right.stands)))
