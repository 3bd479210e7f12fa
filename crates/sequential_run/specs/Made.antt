-- A log and a state that the machine with instructions in flight makes by events.
-- Source: ours.
use Rattle.std.specs.Prelude.{◌≡◌, ℕ, List, [], Result}
use Rattle.instructions.specs.declared.refusal.Refusal.{Refusal}
use Rattle.program_order.specs.declared.event.Done.{Done}
use Rattle.program_order.specs.declared.event.Event.{Event}
use Rattle.program_order.specs.Processor.{Processor}
use Rattle.program_order.specs.Reached.{IsReached}
use Rattle.sequential.specs.declared.state.State.{State}
use Rattle.sequential.specs.Replay.{LogStep}

-- events and their answers lead from boot to a drained machine with this log and this state
pub record IsMadeByEvents (memory : List ℕ) (budget : ℕ) (log : List LogStep) (s : State) : Type 0 where
  pub events : List Event
  pub answers : List (Result Done Refusal)
  pub last : Processor
  pub reached : IsReached memory budget events answers last
  pub drained : last.pending ≡ []
  pub log_is : last.log ≡ log
  pub state_is : last.state ≡ s
