-- What an answer says about the state to which the log leads, and how reservations are numbered along the log. Source:
-- ours.
use Rattle.std.specs.Prelude.{◌≡◌, ℕ, true, false, Option, Some, None, is_some}
use Rattle.instructions.specs.declared.instr.Instr.{Instr}
use Rattle.instructions.specs.declared.refusal.Halt.{Halt}
use Rattle.instructions.specs.declared.refusal.Refusal.{Refusal}
use Rattle.instructions.specs.declared.refusal.Refusal.TheVariants.{Halted, Faulted, MidWord}
use Rattle.instructions.specs.Operands.{uses}
use Rattle.scoreboard.specs.Units.{may_take}
use Rattle.sequential.specs.declared.state.State.{State}
use Rattle.sequential.specs.Replay.{boot}
use Rattle.sequential.specs.UnitIssues.{taken_in, taken}
use Rattle.program_order.specs.declared.event.Note.{Note}
use Rattle.program_order.specs.Processor.{Processor}

-- the last reservation's number is how many instructions of the log went to a unit
abbrev pub IsNumbered : Processor → Type 0
IsNumbered w = w.last ≡ taken (boot w.boot_memory) w.log

-- the reservation is of a unit of the kind that the instruction takes, and has this number
pub record IsReservation (instr : Instr) (number : ℕ) (note : Note) : Type 0 where
  pub of_kind : may_take (uses instr).unit note.unit ≡ true
  pub numbered : note.number ≡ number

-- an issue from this state returns a reservation, with this number, if and only if its instruction goes to a unit
pub record IsNoted (s : State) (number : ℕ) (note : Option Note) : Type 0 where
  pub none : taken_in s ≡ None → note ≡ None
  pub some : (instr : Instr) → taken_in s ≡ Some instr → (n : Note) × (note ≡ Some n) × IsReservation instr number n

-- what a refusal says about this state: E1, halted, names its halt; E2, faulted, that it has the fault; E25, mid word,
-- that it runs without fault in the middle of a word
pub record IsWhy (s : State) (refusal : Refusal) : Type 0 where
  pub halted : (halt : Halt) → refusal ≡ Halted halt → s.halt ≡ Some halt
  pub faulted : refusal ≡ Faulted → s.fault ≡ true
  pub mid_word : refusal ≡ MidWord → (s.halt ≡ None) × (s.fault ≡ false) × (is_some s.position.held ≡ true)
