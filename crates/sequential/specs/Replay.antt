-- The log, and its replay on the machine step by step.
-- Source: ours.
use Rattle.std.specs.Prelude.{option_and_then, ℕ, ◌≡◌, false, nat_lt, if◌then◌else◌, List, [], ◌∷◌, ◌++◌, Option, Some}
use Rattle.std.specs.Prelude.{None, length, replicate}
use Rattle.instructions.specs.declared.refusal.Halt.TheVariants.{Stop}
use Rattle.instructions.specs.declared.refusal.Refusal.{Refusal}
use Rattle.instructions.specs.declared.refusal.Refusal.TheVariants.{PackageRange, PeripheralRange}
use Rattle.relocation.specs.Relocation.{package_fits}
use Rattle.sequential.specs.declared.state.State.{State}
use Rattle.sequential.specs.Position.{beginning}
use Rattle.sequential.specs.State.{store_word}
use Rattle.sequential.specs.Step.{step}
use Rattle.sequential.specs.Swap.{swap}

-- one step of a log: an instruction, an exchange or a peripheral access
pub data LogStep : Type 0 where
  -- an instruction
  Issued : LogStep
  -- an exchange at an absolute address
  Exchanged : (n : ℕ) → LogStep
  -- a peripheral processor read the word at an absolute address
  ReadAt : (a : ℕ) → LogStep
  -- a peripheral processor wrote a word to an absolute address
  Wrote : (a w : ℕ) → LogStep

-- the refusal of a step in a memory of this size, if it is refused: E19, package range, for an exchange whose sixteen
-- words aren't all in memory; E27, peripheral range, for a peripheral access outside memory
unfoldable pub step_refusal : ℕ → LogStep → Option Refusal
step_refusal size Issued = None
step_refusal size (Exchanged n) = if package_fits n size then None else Some PackageRange
step_refusal size (ReadAt a) = if nat_lt a size then None else Some PeripheralRange
step_refusal size (Wrote a w) = if nat_lt a size then None else Some PeripheralRange

-- the state after one step of a log, None if the step is refused; a peripheral read changes nothing
unfoldable pub do_log_step : State → LogStep → Option State
do_log_step s Issued = Some (step s)
do_log_step s (Exchanged n) = if package_fits n (length s.memory) then Some (swap n s) else None
do_log_step s (ReadAt a) = if nat_lt a (length s.memory) then Some s else None
do_log_step s (Wrote a w) = if nat_lt a (length s.memory) then Some (store_word s a w) else None

-- the state after all steps of a log, None if one of them is refused
unfoldable pub replay : State → List LogStep → Option State
replay s [] = Some s
replay s (x ∷ xs) = option_and_then (λ t. replay t xs) (do_log_step s x)

-- the first refused step of a log and its refusal; the steps before it reach the state `end`, in whose memory the step
-- is refused
pub record IsRefusedAt (start : State) (steps : List LogStep) (end : State) (refusal : Refusal) : Type 0 where
  -- the steps before it, and the step itself
  pub before : List LogStep
  pub at : LogStep
  -- the steps after it, which aren't made
  pub after : List LogStep
  -- together these are all the steps
  pub steps_are : steps ≡ before ++ (at ∷ after)
  -- the steps before it reach the state `end`
  pub reached : replay start before ≡ Some end
  -- the step is refused there
  pub refused : step_refusal (length end.memory) at ≡ Some refusal

-- the state at boot: registers, P, RA, FL and mode +0, halted by a stop, without a fault
unfoldable pub boot : List ℕ → State
boot memory = record {
  registers = record { x = replicate 8 0; a = replicate 8 0; b = replicate 7 0 };
  memory = memory;
  position = beginning 0;
  area = record { ra = 0; fl = 0; mode = 0 };
  halt = Some Stop;
  fault = false;
}
