-- The registers that an instruction reads and sets, and its kind of unit: one row for each instruction.
-- Source: 60100000, the descriptions of the instructions; ours: an instruction that reads a register twice waits for it
-- once, and never waits for B0.
use Rattle.std.specs.Prelude.{ℕ, Bool, false, ◌||◌, ◌==◌, nat_le, if◌then◌else◌, List, [], ◌∷◌, ◌++◌, Option, Some}
use Rattle.std.specs.Prelude.{None}
use Rattle.std.specs.List.{list_any}
use Rattle.instructions.specs.declared.instr.Reg.{Reg}
use Rattle.instructions.specs.declared.instr.Reg.TheVariants.{X, A, B}
use Rattle.instructions.specs.declared.instr.UnitKind.{UnitKind}
use Rattle.instructions.specs.declared.instr.UnitKind.TheVariants.{Branch, Boolean, Shift, LongAdd as LongAddKind}
use Rattle.instructions.specs.declared.instr.UnitKind.TheVariants.{Divide, Increment as IncrementKind}
use Rattle.instructions.specs.declared.instr.Target.{Target}
use Rattle.instructions.specs.declared.instr.Target.TheVariants.{A as TargetA, B as TargetB, X as TargetX}
use Rattle.instructions.specs.declared.instr.Base.{Base}
use Rattle.instructions.specs.declared.instr.Base.TheVariants.{A as BaseA, B as BaseB, X as BaseX}
use Rattle.instructions.specs.declared.instr.Pair.{Pair}
use Rattle.instructions.specs.declared.instr.Pair.TheVariants.{XPlusB, APlusB, AMinusB, BPlusB, BMinusB}
use Rattle.instructions.specs.declared.instr.Addends.TheVariants.{Address, Registers}
use Rattle.instructions.specs.declared.instr.Instr.{Instr}
use Rattle.instructions.specs.declared.instr.Instr.TheVariants.{Stop, Pass, ReturnJump, Jump, BranchX, BranchB, Copy}
use Rattle.instructions.specs.declared.instr.Instr.TheVariants.{Invert, Logical, ShiftBy, ShiftNominal, LongAdd, Mask}
use Rattle.instructions.specs.declared.instr.Instr.TheVariants.{CountOnes, Increment}

-- the registers and the kind of unit of an instruction
pub record Uses : Type 0 where
  -- the kind of unit; None for a pass and a stop
  pub unit : Option UnitKind
  -- the first operand, if there is one
  pub first : Option Reg
  -- the second operand, if there is one
  pub second : Option Reg
  -- the register that SA6 or SA7 stores
  pub outgoing : Option Reg
  -- the result registers, Ai before the Xi that is loaded
  pub results : List Reg

-- the row of an instruction that stores no register
abbrev pub line : Option UnitKind → Option Reg → Option Reg → List Reg → Uses
line unit first second results =
    record { unit = unit; first = first; second = second; outgoing = None; results = results }

-- the choice by i for SAi: SA0 makes no reference to memory, SA1 to SA5 load, SA6 and SA7 store
abbrev pub by_reference : {R : Type 0} → ℕ → R → R → R → R
by_reference i nothing load store = if i == 0 then nothing else (if nat_le i 5 then load else store)

-- the register that SA6 and SA7 store: Xi
abbrev pub stored : Target → ℕ → Option Reg
stored TargetA i = by_reference i None None (Some (X i))
stored TargetB i = None
stored TargetX i = None

-- the results of 50 to 77: Ai, and Xi if it is loaded; Bi, but nothing for B0; Xi
abbrev pub set_by : Target → ℕ → List Reg
set_by TargetA i = A i ∷ by_reference i [] (X i ∷ []) []
set_by TargetB i = if i == 0 then [] else (B i ∷ [])
set_by TargetX i = X i ∷ []

-- register j of the given kind: the operand of 50 to 77 that K is added to
abbrev pub base_reg : Base → ℕ → Reg
base_reg BaseA j = A j
base_reg BaseB j = B j
base_reg BaseX j = X j

-- the first of the two registers that 50 to 77 add or subtract
abbrev pub pair_reg : Pair → ℕ → Reg
pair_reg XPlusB j = X j
pair_reg APlusB j = A j
pair_reg AMinusB j = A j
pair_reg BPlusB j = B j
pair_reg BMinusB j = B j

-- the row of an instruction of 50 to 77
abbrev pub increment : Target → ℕ → Option Reg → Option Reg → Uses
increment target i first second =
    record {
      unit = Some IncrementKind;
      first = first;
      second = second;
      outgoing = stored target i;
      results = set_by target i;
    }

-- the row of each instruction: kind of unit, first operand, second operand, results
abbrev pub uses : Instr → Uses
uses Stop = line None None None []
uses (ReturnJump K) = line (Some Branch) None None []
uses (Jump i K) = line (Some Branch) (Some (B i)) None []
uses (BranchX test j K) = line (Some Branch) (Some (X j)) None []
uses (BranchB test i j K) = line (Some Branch) (Some (B i)) (Some (B j)) []
uses (Copy i j) = line (Some Boolean) (Some (X j)) None (X i ∷ [])
uses (Logical op i j k) = line (Some Boolean) (Some (X j)) (Some (X k)) (X i ∷ [])
uses (Invert i k) = line (Some Boolean) (Some (X k)) None (X i ∷ [])
uses (ShiftBy direction i jk) = line (Some Shift) (Some (X i)) None (X i ∷ [])
uses (ShiftNominal direction i j k) = line (Some Shift) (Some (B j)) (Some (X k)) (X i ∷ [])
uses (LongAdd op i j k) = line (Some LongAddKind) (Some (X j)) (Some (X k)) (X i ∷ [])
uses (Mask i jk) = line (Some Shift) None None (X i ∷ [])
uses Pass = line None None None []
uses (CountOnes i k) = line (Some Divide) (Some (X k)) None (X i ∷ [])
uses (Increment target i (Address base j K)) = increment target i (Some (base_reg base j)) None
uses (Increment target i (Registers pair j k)) = increment target i (Some (pair_reg pair j)) (Some (B k))

-- the two are the same register
abbrev pub reg_eq : Reg → Reg → Bool
reg_eq (X m) (X n) = m == n
reg_eq (A m) (A n) = m == n
reg_eq (B m) (B n) = m == n
reg_eq _ _ = false

-- the operands and one more, if there is one; a register counts once, and B0 not at all
abbrev pub with_source : List Reg → Option Reg → List Reg
with_source sources None = sources
with_source sources (Some reg) =
    if reg_eq reg (B 0) || list_any (reg_eq reg) sources then sources else (sources ++ reg ∷ [])

-- the operands of an instruction: first, second, then the register that a store sends to memory; E9 operand awaited
-- names the first that is a result still to come
abbrev pub sources_of : Instr → List Reg
sources_of instr =
    with_source (with_source (with_source [] (uses instr).first) (uses instr).second) (uses instr).outgoing
