-- The invariant of the machine, which holds at every moment. Source: ours.
use Rattle.std.specs.Prelude.{◌≡◌, ◌≤◌, true, ℕ, Option, Some, None, length}
use Rattle.relocation.specs.Relocation.{package_fits}
use Rattle.instructions.specs.Each.{Pairs}
use Rattle.sequential.specs.declared.position.ProgramPosition.{ProgramPosition}
use Rattle.sequential.specs.Log.{issued}
use Rattle.program_order.specs.Processor.{Processor, completed, replayed}
use Rattle.in_flight.specs.Apart.{IsApart}

-- the sixteen words of the requested package lie in memory, if an exchange is asked for
abbrev pub Fits : Option ℕ → ℕ → Type 0
Fits None size = Unit {0}
Fits (Some n) size = package_fits n size ≡ true

-- each earlier pending instruction is apart from each later one, and the requested package lies in memory
pub record IsSound (w : Processor) : Type 0 where
  pub apart : Pairs IsApart w.pending
  pub request_fits : Fits w.request (length w.state.memory)

-- if no word is held, the next instruction is at the beginning of a word
abbrev pub IsAtBeginning : ProgramPosition → Type 0
IsAtBeginning position = position.held ≡ None → position.parcel ≡ 0

-- the replay of the log is the state after all effects of the pending instructions
abbrev pub IsReplay : Processor → Type 0
IsReplay w = replayed w ≡ Some (completed w)

-- no more instructions were issued than the budget allows
abbrev pub IsWithinBudget : Processor → Type 0
IsWithinBudget w = issued w.log ≤ w.budget
