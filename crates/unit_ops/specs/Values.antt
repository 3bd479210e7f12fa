-- The value of each instruction, from its operands.
-- Source: 60100000, the descriptions of the instructions; ours: EQ and NE compare bits, GE and LT order them as two's
-- complement numbers, a nominal right shift by more than 63 gives +0, and P + 1 and K + 1 of RJ wrap from 777777 to 0.
use Rattle.std.specs.Prelude.{ℕ, ◌+◌, ◌/◌, ◌%◌, ◌^◌, Bool, not, ◌||◌, ◌==◌, nat_lt, nat_le, if◌then◌else◌, Option, Some}
use Rattle.std.specs.Prelude.{None, bit_and, bit_or, bit_xor, count_ones}
use Rattle.word60.specs.Words.{all_ones, bit, sum, difference, complement, rotate_left, shift_right, mask, low18}
use Rattle.word60.specs.Words.{extend}
use Rattle.instructions.specs.declared.instr.XTest.{XTest}
use Rattle.instructions.specs.declared.instr.XTest.TheVariants.{Zero, NonZero, Positive, Negative, InRange, OutOfRange}
use Rattle.instructions.specs.declared.instr.XTest.TheVariants.{Definite, Indefinite}
use Rattle.instructions.specs.declared.instr.BTest.{BTest}
use Rattle.instructions.specs.declared.instr.BTest.TheVariants.{Equal, NotEqual, GreaterOrEqual, Less}
use Rattle.instructions.specs.declared.instr.Logic.{Logic}
use Rattle.instructions.specs.declared.instr.Logic.TheVariants.{And, Or, Xor, AndNot, OrNot, XorNot}
use Rattle.instructions.specs.declared.instr.Direction.{Direction}
use Rattle.instructions.specs.declared.instr.Direction.TheVariants.{Left, Right}
use Rattle.instructions.specs.declared.instr.Addition.{Addition}
use Rattle.instructions.specs.declared.instr.Addition.TheVariants.{Sum, Difference}
use Rattle.instructions.specs.declared.instr.Target.{Target}
use Rattle.instructions.specs.declared.instr.Target.TheVariants.{A as TargetA, B as TargetB, X as TargetX}
use Rattle.instructions.specs.declared.instr.Pair.{Pair}
use Rattle.instructions.specs.declared.instr.Pair.TheVariants.{XPlusB, APlusB, AMinusB, BPlusB, BMinusB}
use Rattle.instructions.specs.declared.instr.Addends.{Addends}
use Rattle.instructions.specs.declared.instr.Addends.TheVariants.{Address, Registers}
use Rattle.instructions.specs.declared.instr.Instr.{Instr}
use Rattle.instructions.specs.declared.instr.Instr.TheVariants.{Stop, Pass, ReturnJump, Jump as JumpTo, BranchX}
use Rattle.instructions.specs.declared.instr.Instr.TheVariants.{BranchB, Copy, Invert, Logical, ShiftBy, ShiftNominal}
use Rattle.instructions.specs.declared.instr.Instr.TheVariants.{LongAdd, Mask, CountOnes, Increment}
use Rattle.unit_ops.specs.declared.Operands.{Operands}
use Rattle.unit_ops.specs.declared.UnitValue.{UnitValue}
use Rattle.unit_ops.specs.declared.UnitValue.TheVariants.{Word, Index, Load, Store, Jump, Link}

-- the upper twelve bits
abbrev pub upper : ℕ → ℕ
upper x = x / 2 ^ 48

-- out of range: the upper twelve bits are 3777 or 4000 (octal)
abbrev pub is_out_of_range : ℕ → Bool
is_out_of_range x = (upper x == 0o3777) || (upper x == 0o4000)

-- indefinite: the upper twelve bits are 1777 or 6000 (octal)
abbrev pub is_indefinite : ℕ → Bool
is_indefinite x = (upper x == 0o1777) || (upper x == 0o6000)

-- the word is +0 or -0
abbrev pub is_zero : ℕ → Bool
is_zero x = (x == 0) || (x == all_ones 60)

-- the branch of 030 to 037 is taken for this Xj
abbrev pub x_holds : XTest → ℕ → Bool
x_holds Zero x = is_zero x
x_holds NonZero x = not (is_zero x)
x_holds Positive x = not (bit x 59 == 1)
x_holds Negative x = bit x 59 == 1
x_holds InRange x = not (is_out_of_range x)
x_holds OutOfRange x = is_out_of_range x
x_holds Definite x = not (is_indefinite x)
x_holds Indefinite x = is_indefinite x

-- the rank of an 18-bit pattern, counted from the most negative; -0 (777777) is just below +0
abbrev pub rank : ℕ → ℕ
rank b = (b + 2 ^ 17) % 2 ^ 18

-- the branch of 04 to 07 is taken for these Bi and Bj
abbrev pub b_holds : BTest → ℕ → ℕ → Bool
b_holds Equal a b = a == b
b_holds NotEqual a b = not (a == b)
b_holds GreaterOrEqual a b = nat_le (rank b) (rank a)
b_holds Less a b = nat_lt (rank a) (rank b)

-- the result of 11 to 13 and 15 to 17; the last three complement the second word
abbrev pub logic : Logic → ℕ → ℕ → ℕ
logic And x y = bit_and x y
logic Or x y = bit_or x y
logic Xor x y = bit_xor x y
logic AndNot x y = bit_and x (complement 60 y)
logic OrNot x y = bit_or x (complement 60 y)
logic XorNot x y = bit_xor x (complement 60 y)

-- the result of 20 and 21: 20 rotates left by a count, 21 shifts right and extends the sign
abbrev pub shifted : Direction → ℕ → ℕ → ℕ
shifted Left x count = rotate_left x count
shifted Right x count = shift_right x count

-- the index is negative: bit 17 is 1
abbrev pub is_negative : ℕ → Bool
is_negative b = bit b 17 == 1

-- an index without its sign: its complement if it is negative
abbrev pub magnitude : ℕ → ℕ
magnitude b = if is_negative b then complement 18 b else b

-- the result of a nominal right shift; a magnitude above 63 leaves +0
abbrev pub shifted_out : ℕ → ℕ → ℕ
shifted_out x count = if nat_lt 63 count then 0 else shift_right x count

-- the shift is a left rotation: 22 rotates left and 23 shifts right, the other way round for a negative count
abbrev pub rotates_left : Direction → ℕ → Bool
rotates_left Left b = not (is_negative b)
rotates_left Right b = is_negative b

-- the result of 22 and 23; a rotation uses the low six bits of the magnitude
abbrev pub shifted_nominally : Direction → ℕ → ℕ → ℕ
shifted_nominally direction b x =
    if rotates_left direction b then rotate_left x (magnitude b % 64) else shifted_out x (magnitude b)

-- the result of 36 and 37: the sum or the difference of two words
abbrev pub added : Addition → ℕ → ℕ → ℕ
added Sum x y = sum 60 x y
added Difference x y = difference 60 x y

-- the sum or the difference of two registers, in 18 bits
abbrev pub pair_value : Pair → ℕ → ℕ → ℕ
pair_value XPlusB x y = sum 18 (low18 x) (low18 y)
pair_value APlusB x y = sum 18 (low18 x) (low18 y)
pair_value AMinusB x y = difference 18 (low18 x) (low18 y)
pair_value BPlusB x y = sum 18 (low18 x) (low18 y)
pair_value BMinusB x y = difference 18 (low18 x) (low18 y)

-- the 18 bits that an increment instruction computes: a register plus K, or the sum or difference of two registers
abbrev pub addends_value : Addends → ℕ → ℕ → ℕ
addends_value (Address base j K) x y = sum 18 (low18 x) K
addends_value (Registers pair j k) x y = pair_value pair x y

-- the value of SAi: SA0 makes no reference, SA1 to SA5 load, SA6 and SA7 store
abbrev pub reference : ℕ → ℕ → ℕ → UnitValue
reference i a outgoing =
    if i == 0 then Index a else (if nat_le i 5 then Load a else Store a outgoing)

-- the value of 50 to 77: Ai with its reference, Bi, or Xi with the sign extended
abbrev pub increment_value : Target → ℕ → ℕ → ℕ → UnitValue
increment_value TargetA i v outgoing = reference i v outgoing
increment_value TargetB i v outgoing = Index v
increment_value TargetX i v outgoing = Word (extend v)

-- the value of a branch: to K if it is taken, otherwise nowhere
abbrev pub branch_to : Bool → ℕ → UnitValue
branch_to taken K = Jump (if taken then Some K else None)

-- the next address; 0 follows 777777
abbrev pub next_address : ℕ → ℕ
next_address address = (address + 1) % 2 ^ 18

-- the value of an instruction; a pass and a stop have none, and the definition gives +0
abbrev pub value_of : Instr → Operands → UnitValue
value_of Stop o = Index 0
value_of Pass o = Index 0
value_of (ReturnJump K) o = Link K (next_address o.place)
value_of (JumpTo i K) o = Jump (Some (sum 18 (low18 o.first) K))
value_of (BranchX test j K) o = branch_to (x_holds test o.first) K
value_of (BranchB test i j K) o = branch_to (b_holds test (low18 o.first) (low18 o.second)) K
value_of (Copy i j) o = Word o.first
value_of (Invert i k) o = Word (complement 60 o.first)
value_of (Logical op i j k) o = Word (logic op o.first o.second)
value_of (ShiftBy direction i jk) o = Word (shifted direction o.first jk)
value_of (ShiftNominal direction i j k) o = Word (shifted_nominally direction (low18 o.first) o.second)
value_of (LongAdd op i j k) o = Word (added op o.first o.second)
value_of (Mask i jk) o = Word (mask jk)
value_of (CountOnes i k) o = Word (count_ones o.first)
value_of (Increment target i addends) o = increment_value target i (addends_value addends o.first o.second) o.outgoing

-- the address that a value makes the machine jump to, if any; a return jump continues after the word that it stores
abbrev pub destination : UnitValue → Option ℕ
destination (Word x) = None
destination (Index b) = None
destination (Load a) = None
destination (Store a x) = None
destination (Jump to) = to
destination (Link at back) = Some (next_address at)

-- the target of a branch that is taken; None for a branch that isn't taken, and for every other instruction
abbrev pub branch_of : Instr → Operands → Option ℕ
branch_of instr o = destination (value_of instr o)
