-- The registers that an instruction sets, by its shape and by its row.
use Rattle.std.proofs.Common.{arith, ◌≡◌, ◌∙◌, ◌++◌, ◌∷◌, [], ℕ, Bool, true, false, List, cond, eqb, ap, refl, sym}
use Rattle.std.specs.Prelude.{Option, Some, None, option_to_list}
use Rattle.instructions.specs.declared.instr.Addends.TheVariants.{Address, Registers}
use Rattle.instructions.specs.declared.instr.Instr.{Instr}
use Rattle.instructions.specs.declared.instr.Instr.TheVariants.{Stop, ReturnJump, Jump, BranchX, BranchB, Copy, Logical}
use Rattle.instructions.specs.declared.instr.Instr.TheVariants.{Invert, ShiftBy, ShiftNominal, LongAdd, Mask, Pass}
use Rattle.instructions.specs.declared.instr.Instr.TheVariants.{CountOnes, Increment}
use Rattle.instructions.specs.declared.instr.Reg.{Reg}
use Rattle.instructions.specs.declared.instr.Reg.TheVariants.{A, B}
use Rattle.instructions.specs.declared.instr.Target.TheVariants.{A as TargetA, B as TargetB, X as TargetX}
use Rattle.instructions.specs.Operands.{uses, set_by, by_reference}
use Rattle.instructions.specs.Shape.{Shape, Sets, Loads, Stores, shape_of, sets_of, loads_of, results}

-- the instructions SA0 to SA7
a_results : (i : ℕ) → results (by_reference i (Sets (A 0 ∷ [])) (Loads i) (Stores i)) ≡ set_by TargetA i
unfolding results sets_of loads_of
a_results i = grind arith

-- the instructions SB0 to SB7
b_results : (i : ℕ) (b : Bool) → cond b [] (B i ∷ []) ++ [] ≡ cond b [] (B i ∷ [])
b_results i true = refl
b_results i false = refl

pub results_used : (instr : Instr) → results (shape_of instr) ≡ (uses instr).results
unfolding shape_of results sets_of loads_of
results_used Stop = refl
results_used (ReturnJump K) = refl
results_used (Jump i K) = refl
results_used (BranchX test j K) = refl
results_used (BranchB test i j K) = refl
results_used (Copy i j) = refl
results_used (Logical op i j k) = refl
results_used (Invert i k) = refl
results_used (ShiftBy direction i jk) = refl
results_used (ShiftNominal direction i j k) = refl
results_used (LongAdd op i j k) = refl
results_used (Mask i jk) = refl
results_used Pass = refl
results_used (CountOnes i k) = refl
results_used (Increment TargetA i (Address base j K)) = a_results i
results_used (Increment TargetA i (Registers pair j k)) = a_results i
results_used (Increment TargetB i (Address base j K)) = b_results i (eqb i 0)
results_used (Increment TargetB i (Registers pair j k)) = b_results i (eqb i 0)
results_used (Increment TargetX i (Address base j K)) = refl
results_used (Increment TargetX i (Registers pair j k)) = refl

-- the registers set at the store event, followed by the register that a load sets at its return
pub both_listed : (shape : Shape) (s l : Option Reg) (rs : List Reg) → sets_of shape ≡ option_to_list s
    → loads_of shape ≡ option_to_list l → rs ≡ option_to_list s ++ option_to_list l → rs ≡ results shape
unfolding results
both_listed shape s l rs es el e =
    e ∙ ap (λ xs. xs ++ option_to_list l) (sym es) ∙ ap (λ xs. sets_of shape ++ xs) (sym el)

pub one_listed : (s : Option Reg) → option_to_list s ≡ option_to_list s ++ []
one_listed None = refl
one_listed (Some r) = refl
