-- The fields of a candidate are in their ranges.
use Rattle.std.proofs.Common.{ℕ, ◌-◌, ◌*◌, ◌+◌, ◌%◌, ◌^◌, ◌<◌, ◌==◌, Bool, true, false, if◌then◌else◌, List, [], ◌∷◌}
use Rattle.std.proofs.Common.{drop, slice_index, arith}
use Rattle.instructions.specs.declared.instr.Instr.{Instr}
use Rattle.instructions.specs.declared.instr.Instr.TheVariants.{Stop, Pass, ReturnJump, Copy, Invert, Logical, ShiftBy}
use Rattle.instructions.specs.declared.instr.Instr.TheVariants.{ShiftNominal, LongAdd, CountOnes}
use Rattle.instructions.specs.declared.instr.Addends.{Addends}
use Rattle.instructions.specs.declared.instr.XTest.TheVariants.{Zero, NonZero, Positive, Negative, InRange, OutOfRange}
use Rattle.instructions.specs.declared.instr.XTest.TheVariants.{Definite, Indefinite}
use Rattle.instructions.specs.declared.instr.XTest.{XTest}
use Rattle.instructions.specs.declared.instr.BTest.TheVariants.{Equal, NotEqual, GreaterOrEqual, Less}
use Rattle.instructions.specs.declared.instr.BTest.{BTest}
use Rattle.instructions.specs.declared.instr.Logic.{Logic}
use Rattle.instructions.specs.declared.instr.Logic.TheVariants.{And, Or, Xor, AndNot, OrNot, XorNot}
use Rattle.instructions.specs.declared.instr.Addition.{Addition}
use Rattle.instructions.specs.declared.instr.Addition.TheVariants.{Sum, Difference}
use Rattle.instructions.specs.declared.instr.Pair.{Pair}
use Rattle.instructions.specs.declared.instr.Pair.TheVariants.{XPlusB, APlusB, AMinusB, BPlusB, BMinusB}
use Rattle.instructions.specs.declared.instr.Base.{Base}
use Rattle.instructions.specs.declared.instr.Base.TheVariants.{A as BaseA, B as BaseB, X as BaseX}
use Rattle.instructions.specs.declared.instr.Addends.TheVariants.{Address, Registers}
use Rattle.instructions.specs.declared.instr.Direction.{Direction}
use Rattle.instructions.specs.declared.instr.Direction.TheVariants.{Left, Right}
use Rattle.instructions.specs.declared.instr.Target.{Target}
use Rattle.instructions.specs.declared.instr.Target.TheVariants.{A as TargetA, B as TargetB, X as TargetX}
use Rattle.instruction_table.specs.Candidate.{digit_of, number_after, number_of, jump_in, branch_x_in, branch_b_in}
use Rattle.instruction_table.specs.Candidate.{shift_in, boolean_in, mask_in, addends_in, increment_in, after_i, after_l}
use Rattle.instruction_table.specs.Candidate.{after_n, after_p, after_s, candidate_in}
use Rattle.instruction_table.specs.Table.{IsInstr, IsAddends}

-- `IsInstr` and `IsAddends`, kept folded so that a test between two instructions can be derived from them
unfoldable HasFields : Instr → Type 0
HasFields instr = IsInstr instr

unfoldable HasAddends : Addends → Type 0
HasAddends addends = IsAddends addends

number_after_small : (n : ℕ) (xs : List ℕ) → n < 2 ^ 18 → number_after n xs < 2 ^ 18
number_after_small n [] small = small
number_after_small n (x ∷ xs) small = number_after_small ((n * 8 + (x - 48) % 8) % 2 ^ 18) xs (omega arith)

module _ (t : List ℕ) where
  digit : (n : ℕ) → digit_of t n < 8
  digit n = omega arith

  address : (n : ℕ) → number_of t n < 2 ^ 18
  unfolding number_of
  address n = number_after_small 0 (drop n t) (omega arith)

  count : (n : ℕ) → number_of t n % 64 < 64
  count n = omega arith

  either : (b : Bool) (x y : Instr) → HasFields x → HasFields y → HasFields (if b then x else y)
  either true x y p q = p
  either false x y p q = q

  either_addends : (b : Bool) (x y : Addends) → HasAddends x → HasAddends y → HasAddends (if b then x else y)
  either_addends true x y p q = p
  either_addends false x y p q = q

  branch_x : (test : XTest) → HasFields (branch_x_in t test)
  unfolding HasFields
  branch_x test = (digit 4, address 6)

  branch_b : (test : BTest) → HasFields (branch_b_in t test)
  unfolding HasFields
  branch_b test = (digit 4, digit 7, address 9)

  shift_by : (direction : Direction) → HasFields (ShiftBy direction (digit_of t 2) (number_of t 4 % 64))
  unfolding HasFields
  shift_by direction = (digit 2, count 4)

  shift_nominal : (direction : Direction)
      → HasFields (ShiftNominal direction (digit_of t 2) (digit_of t 5) (digit_of t 8))
  unfolding HasFields
  shift_nominal direction = (digit 2, digit 5, digit 8)

  shift : (direction : Direction) → HasFields (shift_in t direction)
  shift direction = either _ _ _ (shift_nominal direction) (shift_by direction)

  logical : (op : Logic) (j k : ℕ) → HasFields (Logical op (digit_of t 2) (digit_of t j) (digit_of t k))
  unfolding HasFields
  logical op j k = (digit 2, digit j, digit k)

  copy : HasFields (Copy (digit_of t 2) (digit_of t 5))
  unfolding HasFields
  copy = (digit 2, digit 5)

  invert : HasFields (Invert (digit_of t 2) (digit_of t 6))
  unfolding HasFields
  invert = (digit 2, digit 6)

  boolean : HasFields (boolean_in t)
  boolean =
      either _ _ _
      (either _ _ _ (logical And 5 8) (either _ _ _ (logical Or 5 8) (either _ _ _ (logical Xor 5 8) copy)))
      (either _ _ _ (logical AndNot 9 6) (either _ _ _ (logical OrNot 9 6) (either _ _ _ (logical XorNot 9 6) invert)))

  long_add : (op : Addition) → HasFields (LongAdd op (digit_of t 2) (digit_of t 5) (digit_of t 8))
  unfolding HasFields
  long_add op = (digit 2, digit 5, digit 8)

  registers : (pair : Pair) → HasAddends (Registers pair (digit_of t 5) (digit_of t 8))
  unfolding HasAddends
  registers pair = (digit 5, digit 8)

  base_address : (base : Base) → HasAddends (Address base (digit_of t 5) (number_of t 7))
  unfolding HasAddends
  base_address base = (digit 5, address 7)

  addends : HasAddends (addends_in t)
  addends =
      let plus = slice_index t 6 == 43 in
      let a = either_addends plus _ _ (registers APlusB) (registers AMinusB) in
      let b = either_addends plus _ _ (registers BPlusB) (registers BMinusB) in
      let pair = either_addends (slice_index t 4 == 88) _ _ (registers XPlusB)
      (either_addends (slice_index t 4 == 65) _ _ a b) in
      let address = either_addends (slice_index t 4 == 65) _ _ (base_address BaseA)
      (either_addends (slice_index t 4 == 66) _ _ (base_address BaseB) (base_address BaseX)) in
      either_addends (slice_index t 7 == 66) _ _ pair address

  increment : (target : Target) → HasFields (increment_in t target)
  unfolding HasFields HasAddends
  increment target = (digit 2, addends)

  stop : HasFields Stop
  unfolding HasFields
  stop = tt

  pass : HasFields Pass
  unfolding HasFields
  pass = tt

  return_jump : HasFields (ReturnJump (number_of t 3))
  unfolding HasFields
  return_jump = address 3

  jump : HasFields (jump_in t)
  unfolding HasFields
  jump = (digit 4, address 6)

  mask : HasFields (mask_in t)
  unfolding HasFields
  mask = (digit 2, count 4)

  count_ones : HasFields (CountOnes (digit_of t 2) (digit_of t 5))
  unfolding HasFields
  count_ones = (digit 2, digit 5)

  in_i : HasFields (after_i t)
  in_i = either _ _ _ (branch_x Indefinite)
      (either _ _ _ (branch_x InRange) (either _ _ _ (long_add Sum) (long_add Difference)))

  in_l : HasFields (after_l t)
  in_l = either _ _ _ (branch_b Less) (shift Left)

  in_n : HasFields (after_n t)
  in_n = either _ _ _ (branch_b NotEqual) (either _ _ _ (branch_x Negative) (either _ _ _ pass (branch_x NonZero)))

  in_p : HasFields (after_p t)
  in_p = either _ _ _ (branch_x Positive) stop

  in_s : HasFields (after_s t)
  in_s = either _ _ _ (increment TargetA) (either _ _ _ (increment TargetB) (increment TargetX))

  from_n : HasFields (if slice_index t 0 == 78 then after_n t
      else (if slice_index t 0 == 79 then branch_x_in t OutOfRange
      else (if slice_index t 0 == 80 then after_p t
      else (if slice_index t 0 == 82 then ReturnJump (number_of t 3)
      else (if slice_index t 0 == 83 then after_s t else branch_x_in t Zero)))))
  from_n = either _ _ _ in_n (either _ _ _ (branch_x OutOfRange)
      (either _ _ _ in_p (either _ _ _ return_jump (either _ _ _ in_s (branch_x Zero)))))

  fields : HasFields (candidate_in t)
  unfolding candidate_in
  fields =
      either _ _ _ (shift Right) (either _ _ _ boolean
      (either _ _ _ count_ones (either _ _ _ (branch_x Definite)
      (either _ _ _ (branch_b Equal)
      (either _ _ _ (branch_b GreaterOrEqual)
      (either _ _ _ in_i (either _ _ _ jump (either _ _ _ in_l (either _ _ _ mask from_n)))))))))

  pub candidate_fields : IsInstr (candidate_in t)
  unfolding HasFields
  candidate_fields = fields
