-- The decoding of parcels: a row for each of the 64 opcodes, in order. The rows 01 and 03 depend on the digit i.
-- Source: 60100000, the descriptions of the instructions; ours: that a refused opcode is refused before its length is
-- looked at, and that an instruction across the end of its word halts the machine.
use Rattle.std.specs.Prelude.{ℕ, ◌+◌, ◌*◌, ◌/◌, ◌%◌, ◌^◌, ◌<◌, ◌≤◌, ⊤, nat_lt, if◌then◌else◌, List, [], ◌∷◌, get_or}
use Rattle.parcel.specs.Parcels.{parcel_at}
use Rattle.instructions.specs.declared.instr.Instr.TheVariants.{Stop, Pass, ReturnJump, Jump, BranchX, BranchB, Copy}
use Rattle.instructions.specs.declared.instr.Instr.TheVariants.{Invert, Logical, ShiftBy, ShiftNominal, LongAdd, Mask}
use Rattle.instructions.specs.declared.instr.Instr.TheVariants.{CountOnes, Increment}
use Rattle.instructions.specs.declared.instr.Op.TheVariants.{Plain, Extended}
use Rattle.instructions.specs.declared.instr.XTest.{XTest}
use Rattle.instructions.specs.declared.instr.XTest.TheVariants.{Zero, NonZero, Positive, Negative, InRange, OutOfRange}
use Rattle.instructions.specs.declared.instr.XTest.TheVariants.{Definite, Indefinite}
use Rattle.instructions.specs.declared.instr.BTest.TheVariants.{Equal, NotEqual, GreaterOrEqual, Less}
use Rattle.instructions.specs.declared.instr.Logic.TheVariants.{And, Or, Xor, AndNot, OrNot, XorNot}
use Rattle.instructions.specs.declared.instr.Direction.TheVariants.{Left, Right}
use Rattle.instructions.specs.declared.instr.Addition.TheVariants.{Sum, Difference}
use Rattle.instructions.specs.declared.instr.Target.{Target}
use Rattle.instructions.specs.declared.instr.Target.TheVariants.{A as TargetA, B as TargetB, X as TargetX}
use Rattle.instructions.specs.declared.instr.Base.TheVariants.{A, B, X}
use Rattle.instructions.specs.declared.instr.Pair.TheVariants.{XPlusB, APlusB, AMinusB, BPlusB, BMinusB}
use Rattle.instructions.specs.declared.instr.Addends.TheVariants.{Address, Registers}
use Rattle.instruction_table.specs.declared.decoding.Decoded.{Decoded}
use Rattle.instruction_table.specs.declared.decoding.Decoded.TheVariants.{Legal, Refused as RefusedOp, Straddle}
use Rattle.instruction_table.specs.declared.decoding.TableEntry.{TableEntry}
use Rattle.instruction_table.specs.declared.decoding.TableEntry.TheVariants.{Short, Long, Refused}

-- the tests of Xj by 030 to 037, in the order of the digit i
abbrev pub x_tests : List XTest
x_tests = Zero ∷ NonZero ∷ Positive ∷ Negative ∷ InRange ∷ OutOfRange ∷ Definite ∷ Indefinite ∷ []

-- the test of Xj by an 03 instruction, by its digit i
abbrev pub x_test_at : ℕ → XTest
x_test_at i = get_or x_tests i Zero

-- one of eight entries, by the octal digit m, or by i after 01
abbrev pub entry : List TableEntry → ℕ → TableEntry
entry row m = get_or row m (Short Pass)

-- the entries of 010 to 017, by the digit i: a return jump, and seven refused opcodes
abbrev pub extended : ℕ → List TableEntry
extended K =
    Long (ReturnJump K)
    ∷ Refused (Extended 0 1 1)
    ∷ Refused (Extended 0 1 2)
    ∷ Refused (Extended 0 1 3)
    ∷ Refused (Extended 0 1 4)
    ∷ Refused (Extended 0 1 5)
    ∷ Refused (Extended 0 1 6)
    ∷ Refused (Extended 0 1 7)
    ∷ []

-- the entry of 01 by the digit i: 010 is a return jump, and 011 to 017 are refused
abbrev pub extended_at : ℕ → ℕ → TableEntry
extended_at i K = entry (extended K) i

-- the entries of 00 to 07, by the digit m: a stop and the branches; 01 and 03 depend on the digit i
abbrev pub branches : ℕ → ℕ → ℕ → List TableEntry
branches i j K =
    Short Stop
    ∷ extended_at i K
    ∷ Long (Jump i K)
    ∷ Long (BranchX (x_test_at i) j K)
    ∷ Long (BranchB Equal i j K)
    ∷ Long (BranchB NotEqual i j K)
    ∷ Long (BranchB GreaterOrEqual i j K)
    ∷ Long (BranchB Less i j K)
    ∷ []

-- the entries of 10 to 17, by the digit m
abbrev pub logicals : ℕ → ℕ → ℕ → List TableEntry
logicals i j k =
    Short (Copy i j)
    ∷ Short (Logical And i j k)
    ∷ Short (Logical Or i j k)
    ∷ Short (Logical Xor i j k)
    ∷ Short (Invert i k)
    ∷ Short (Logical AndNot i j k)
    ∷ Short (Logical OrNot i j k)
    ∷ Short (Logical XorNot i j k)
    ∷ []

-- the entries of 20 to 27, by the digit m; 24 to 27 are refused
abbrev pub shifts : ℕ → ℕ → ℕ → List TableEntry
shifts i j k =
    Short (ShiftBy Left i (8 * j + k))
    ∷ Short (ShiftBy Right i (8 * j + k))
    ∷ Short (ShiftNominal Left i j k)
    ∷ Short (ShiftNominal Right i j k)
    ∷ Refused (Plain 2 4)
    ∷ Refused (Plain 2 5)
    ∷ Refused (Plain 2 6)
    ∷ Refused (Plain 2 7)
    ∷ []

-- the entries of 30 to 37, by the digit m; 30 to 35 are refused
abbrev pub additions : ℕ → ℕ → ℕ → List TableEntry
additions i j k =
    Refused (Plain 3 0)
    ∷ Refused (Plain 3 1)
    ∷ Refused (Plain 3 2)
    ∷ Refused (Plain 3 3)
    ∷ Refused (Plain 3 4)
    ∷ Refused (Plain 3 5)
    ∷ Short (LongAdd Sum i j k)
    ∷ Short (LongAdd Difference i j k)
    ∷ []

-- the entries of 40 to 47, by the digit m; 40 to 42, 44 and 45 are refused
abbrev pub others : ℕ → ℕ → ℕ → List TableEntry
others i j k =
    Refused (Plain 4 0)
    ∷ Refused (Plain 4 1)
    ∷ Refused (Plain 4 2)
    ∷ Short (Mask i (8 * j + k))
    ∷ Refused (Plain 4 4)
    ∷ Refused (Plain 4 5)
    ∷ Short Pass
    ∷ Short (CountOnes i k)
    ∷ []

-- the entries of 50 to 57 for A, 60 to 67 for B and 70 to 77 for X, by the digit m
abbrev pub increments : Target → ℕ → ℕ → ℕ → ℕ → List TableEntry
increments target i j k K =
    Long (Increment target i (Address A j K))
    ∷ Long (Increment target i (Address B j K))
    ∷ Long (Increment target i (Address X j K))
    ∷ Short (Increment target i (Registers XPlusB j k))
    ∷ Short (Increment target i (Registers APlusB j k))
    ∷ Short (Increment target i (Registers AMinusB j k))
    ∷ Short (Increment target i (Registers BPlusB j k))
    ∷ Short (Increment target i (Registers BMinusB j k))
    ∷ []

-- the eight entries of the first digit f
abbrev pub rows : ℕ → ℕ → ℕ → ℕ → ℕ → List TableEntry
rows f i j k K = get_or
    (branches i j K
    ∷ logicals i j k
    ∷ shifts i j k
    ∷ additions i j k
    ∷ others i j k
    ∷ increments TargetA i j k K
    ∷ increments TargetB i j k K
    ∷ increments TargetX i j k K
    ∷ []) f []

-- the entry of a parcel and the parcel that follows it, which has the low 15 bits of K
unfoldable pub entry_of : ℕ → ℕ → TableEntry
entry_of parcel following =
    entry (rows (parcel / 2 ^ 12) (parcel / 2 ^ 6 % 8) (parcel / 2 ^ 3 % 8) (parcel % 8)
    (parcel % 8 * 2 ^ 15 + following)) (parcel / 2 ^ 9 % 8)

-- the result for an entry at a position of a word: an instruction and the position after it, a refused opcode, or a
-- straddle
abbrev pub settled : TableEntry → ℕ → Decoded
settled (Short instr) position = Legal instr (position + 1)
settled (Long instr) position = if nat_lt position 3 then Legal instr (position + 2) else Straddle
settled (Refused op) position = RefusedOp op

-- the parcel after a position, or 0 after the last
abbrev pub following_at : ℕ → ℕ → ℕ
following_at word position = if nat_lt position 3 then parcel_at word (position + 1) else 0

-- the two digits of the opcode at a position, as one number
abbrev pub digits_at : ℕ → ℕ → ℕ
digits_at word position = parcel_at word position / 2 ^ 9

-- the result of decoding at a position; a refused opcode is refused before its length is looked at
unfoldable pub reading_at : ℕ → ℕ → Decoded
reading_at word position = settled (entry_of (parcel_at word position) (following_at word position)) position

-- the position after a decoded instruction is past its own, within the word or at its end
abbrev pub GoesOn : ℕ → Decoded → Type 0
GoesOn position (Legal instr next) = (position < next) × (next ≤ 4)
GoesOn position (RefusedOp op) = ⊤
GoesOn position Straddle = ⊤
