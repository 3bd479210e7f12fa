-- Consecutive instructions, with no request and no exchange between them.
-- Source: ours.
use Rattle.std.specs.Prelude.{ℕ, zero, suc, ◌≡◌, true}
use Rattle.sequential.specs.declared.state.State.{State}
use Rattle.sequential.specs.Step.{step}
use Rattle.sequential_run.specs.Turns.{is_going}

-- this many steps lead from one state to another, and the machine runs without a fault before each of them
unfoldable pub StepsTo : ℕ → State → State → Type 0
StepsTo zero s t = s ≡ t
StepsTo (suc n) s t = (is_going s ≡ true) × StepsTo n (step s) t
