-- The only instruction that can have a given text. The first two letters decide at which positions the digits are.
-- These definitions don't say what texts mean: a candidate counts only if its spelling is the text (`instr_of` of
-- Spelling.antt).
-- Source: ours.
use Rattle.std.specs.Prelude.{ℕ, ◌+◌, ◌-◌, ◌*◌, ◌%◌, ◌^◌, ◌==◌, if◌then◌else◌, List, [], ◌∷◌, slice_index, drop}
use Rattle.instructions.specs.declared.instr.XTest.TheVariants.{Zero, NonZero, Positive, Negative, InRange, OutOfRange}
use Rattle.instructions.specs.declared.instr.XTest.TheVariants.{Definite, Indefinite}
use Rattle.instructions.specs.declared.instr.XTest.{XTest}
use Rattle.instructions.specs.declared.instr.BTest.TheVariants.{Equal, NotEqual, GreaterOrEqual, Less}
use Rattle.instructions.specs.declared.instr.BTest.{BTest}
use Rattle.instructions.specs.declared.instr.Logic.TheVariants.{And, Or, Xor, AndNot, OrNot, XorNot}
use Rattle.instructions.specs.declared.instr.Direction.{Direction}
use Rattle.instructions.specs.declared.instr.Direction.TheVariants.{Left, Right}
use Rattle.instructions.specs.declared.instr.Addition.TheVariants.{Sum, Difference}
use Rattle.instructions.specs.declared.instr.Target.{Target}
use Rattle.instructions.specs.declared.instr.Target.TheVariants.{A as TargetA, B as TargetB, X as TargetX}
use Rattle.instructions.specs.declared.instr.Base.TheVariants.{A as BaseA, B as BaseB, X as BaseX}
use Rattle.instructions.specs.declared.instr.Pair.TheVariants.{XPlusB, APlusB, AMinusB, BPlusB, BMinusB}
use Rattle.instructions.specs.declared.instr.Addends.{Addends}
use Rattle.instructions.specs.declared.instr.Addends.TheVariants.{Address, Registers}
use Rattle.instructions.specs.declared.instr.Instr.{Instr}
use Rattle.instructions.specs.declared.instr.Instr.TheVariants.{Stop, Pass, ReturnJump, Jump, BranchX, BranchB, Copy}
use Rattle.instructions.specs.declared.instr.Instr.TheVariants.{Invert, Logical, ShiftBy, ShiftNominal, LongAdd, Mask}
use Rattle.instructions.specs.declared.instr.Instr.TheVariants.{CountOnes, Increment}

-- the octal digit at a position of a text
abbrev pub digit_of : List ℕ → ℕ → ℕ
digit_of t n = (slice_index t n - 48) % 8

-- the number, in 18 bits, with the octal digits of n followed by these
abbrev pub number_after : ℕ → List ℕ → ℕ
number_after n [] = n
number_after n (c ∷ cs) = number_after ((n * 8 + (c - 48) % 8) % 2 ^ 18) cs

-- the number of 18 bits whose octal digits begin at a position of the text
unfoldable pub number_of : List ℕ → ℕ → ℕ
number_of t n = number_after 0 (drop n t)

-- the jump of `JP Bi+K`
abbrev pub jump_in : List ℕ → Instr
jump_in t = Jump (digit_of t 4) (number_of t 6)

-- the branch of `ZR Xj,K` and of the other names that test an X register
abbrev pub branch_x_in : List ℕ → XTest → Instr
branch_x_in t test = BranchX test (digit_of t 4) (number_of t 6)

-- the branch of `EQ Bi,Bj,K` and of the other names that compare two B registers
abbrev pub branch_b_in : List ℕ → BTest → Instr
branch_b_in t test = BranchB test (digit_of t 4) (digit_of t 7) (number_of t 9)

-- the shift of `LXi jk` and `AXi jk` or, if a B register follows, of `LXi Bj,Xk` and `AXi Bj,Xk`
abbrev pub shift_in : List ℕ → Direction → Instr
shift_in t direction =
    if slice_index t 4 == 66 then ShiftNominal direction (digit_of t 2) (digit_of t 5) (digit_of t 8)
    else ShiftBy direction (digit_of t 2) (number_of t 4 % 64)

-- the Boolean instruction of `BXi`, by whether -Xk comes first and by the sign between the two registers
abbrev pub boolean_in : List ℕ → Instr
boolean_in t =
    if slice_index t 4 == 88 then
    (if slice_index t 6 == 42 then Logical And (digit_of t 2) (digit_of t 5) (digit_of t 8)
    else (if slice_index t 6 == 43 then Logical Or (digit_of t 2) (digit_of t 5) (digit_of t 8)
    else (if slice_index t 6 == 45 then Logical Xor (digit_of t 2) (digit_of t 5) (digit_of t 8)
    else Copy (digit_of t 2) (digit_of t 5))))
    else
    (if slice_index t 7 == 42 then Logical AndNot (digit_of t 2) (digit_of t 9) (digit_of t 6)
    else (if slice_index t 7 == 43 then Logical OrNot (digit_of t 2) (digit_of t 9) (digit_of t 6)
    else (if slice_index t 7 == 45 then Logical XorNot (digit_of t 2) (digit_of t 9) (digit_of t 6)
    else Invert (digit_of t 2) (digit_of t 6))))

-- the mask of `MXi jk`
abbrev pub mask_in : List ℕ → Instr
mask_in t = Mask (digit_of t 2) (number_of t 4 % 64)

-- the long addition of `IXi Xj+Xk` or `IXi Xj-Xk`
abbrev pub addition_in : List ℕ → Instr
addition_in t =
    if slice_index t 6 == 43 then LongAdd Sum (digit_of t 2) (digit_of t 5) (digit_of t 8)
    else LongAdd Difference (digit_of t 2) (digit_of t 5) (digit_of t 8)

-- the operands after `SAi`, `SBi` or `SXi`: two registers, or a register and K
abbrev pub addends_in : List ℕ → Addends
addends_in t =
    if slice_index t 7 == 66 then
    (if slice_index t 4 == 88 then Registers XPlusB (digit_of t 5) (digit_of t 8)
    else (if slice_index t 4 == 65 then
    (if slice_index t 6 == 43 then Registers APlusB (digit_of t 5) (digit_of t 8)
    else Registers AMinusB (digit_of t 5) (digit_of t 8))
    else
    (if slice_index t 6 == 43 then Registers BPlusB (digit_of t 5) (digit_of t 8)
    else Registers BMinusB (digit_of t 5) (digit_of t 8))))
    else
    (if slice_index t 4 == 65 then Address BaseA (digit_of t 5) (number_of t 7)
    else (if slice_index t 4 == 66 then Address BaseB (digit_of t 5) (number_of t 7)
    else Address BaseX (digit_of t 5) (number_of t 7)))

-- the increment instruction of `SAi`, `SBi` or `SXi`
abbrev pub increment_in : List ℕ → Target → Instr
increment_in t target = Increment target (digit_of t 2) (addends_in t)

-- the candidate of a text with first letter I, by the second letter: `ID`, `IR`, otherwise `IXi`
abbrev pub after_i : List ℕ → Instr
after_i t =
    if slice_index t 1 == 68 then branch_x_in t Indefinite
    else (if slice_index t 1 == 82 then branch_x_in t InRange else addition_in t)

-- the candidate of a text with first letter L, by the second letter: `LT`, otherwise `LXi`
abbrev pub after_l : List ℕ → Instr
after_l t = if slice_index t 1 == 84 then branch_b_in t Less else shift_in t Left

-- the candidate of a text with first letter N, by the second letter: `NE`, `NG`, `NO`, otherwise `NZ`
abbrev pub after_n : List ℕ → Instr
after_n t =
    if slice_index t 1 == 69 then branch_b_in t NotEqual
    else (if slice_index t 1 == 71 then branch_x_in t Negative
    else (if slice_index t 1 == 79 then Pass else branch_x_in t NonZero))

-- the candidate of a text with first letter P, by the second letter: `PL`, otherwise `PS`
abbrev pub after_p : List ℕ → Instr
after_p t = if slice_index t 1 == 76 then branch_x_in t Positive else Stop

-- the candidate of a text with first letter S, by the second letter: `SAi`, `SBi`, otherwise `SXi`
abbrev pub after_s : List ℕ → Instr
after_s t =
    if slice_index t 1 == 65 then increment_in t TargetA
    else (if slice_index t 1 == 66 then increment_in t TargetB else increment_in t TargetX)

-- the candidate of a text, by its first letter
unfoldable pub candidate_in : List ℕ → Instr
candidate_in t =
    if slice_index t 0 == 65 then shift_in t Right
    else (if slice_index t 0 == 66 then boolean_in t
    else (if slice_index t 0 == 67 then CountOnes (digit_of t 2) (digit_of t 5)
    else (if slice_index t 0 == 68 then branch_x_in t Definite
    else (if slice_index t 0 == 69 then branch_b_in t Equal
    else (if slice_index t 0 == 71 then branch_b_in t GreaterOrEqual
    else (if slice_index t 0 == 73 then after_i t
    else (if slice_index t 0 == 74 then jump_in t
    else (if slice_index t 0 == 76 then after_l t
    else (if slice_index t 0 == 77 then mask_in t
    else (if slice_index t 0 == 78 then after_n t
    else (if slice_index t 0 == 79 then branch_x_in t OutOfRange
    else (if slice_index t 0 == 80 then after_p t
    else (if slice_index t 0 == 82 then ReturnJump (number_of t 3)
    else (if slice_index t 0 == 83 then after_s t
    else branch_x_in t Zero))))))))))))))
