-- The step of the machine that executes one instruction at a time.
-- Source: 60100000, the descriptions of the instructions; ours: how a stop, a refused opcode, an instruction across the
-- end of its word and a fetch out of range halt.
use Rattle.std.specs.Prelude.{ℕ, List, Option, Some, None, slice_index_or}
use Rattle.instructions.specs.declared.instr.Instr.{Instr}
use Rattle.instructions.specs.declared.instr.Instr.TheVariants.{Stop, Pass}
use Rattle.instruction_table.specs.declared.decoding.Decoded.{Decoded}
use Rattle.instruction_table.specs.declared.decoding.Decoded.TheVariants.{Legal, Refused, Straddle}
use Rattle.instructions.specs.declared.refusal.Halt.{Halt}
use Rattle.instructions.specs.declared.refusal.Halt.TheVariants.{Stop as StopHalt, Illegal, Straddle as StraddleHalt}
use Rattle.instructions.specs.declared.refusal.Halt.TheVariants.{FetchRange}
use Rattle.instruction_table.specs.Decoding.{reading_at}
use Rattle.instructions.specs.Shape.{shape_of}
use Rattle.unit_ops.specs.Values.{value_of}
use Rattle.sequential.specs.declared.fetching.Fetched.{Fetched}
use Rattle.sequential.specs.declared.fetching.Fetched.TheVariants.{Halting, Passing, Taking}
use Rattle.sequential.specs.declared.position.ProgramPosition.{ProgramPosition}
use Rattle.sequential.specs.declared.state.State.{State}
use Rattle.sequential.specs.Position.{beginning, after_parcel}
use Rattle.sequential.specs.State.{Bounds, bounds_of, absolute, move_to, halt_by}
use Rattle.sequential.specs.Work.{operands, work_of, do_work}

-- the position of an instruction itself, with its word held
abbrev pub at_instruction : ℕ → ℕ → ℕ → ProgramPosition
at_instruction p parcel word = record { p = p; parcel = parcel; held = Some word }

-- a stop halts, a pass does nothing, and every other instruction goes to a unit
unfoldable pub classify : ProgramPosition → ProgramPosition → Instr → Fetched
classify position after Stop = Halting StopHalt position
classify position after Pass = Passing after
classify position after instr = Taking instr after

-- the effect of a decoded instruction: it halts the machine at its own position, or the machine moves on
unfoldable pub fetched_by : ℕ → ℕ → ℕ → Decoded → Fetched
fetched_by p parcel word (Legal instr next) = classify (at_instruction p parcel word) (after_parcel p word next) instr
fetched_by p parcel word (Refused op) = Halting (Illegal op) (at_instruction p parcel word)
fetched_by p parcel word Straddle = Halting StraddleHalt (at_instruction p parcel word)

-- a fetch out of range halts, whatever the mode
unfoldable pub fetched_from : ℕ → ℕ → Option ℕ → Fetched
fetched_from p parcel None = Halting FetchRange (beginning p)
fetched_from p parcel (Some word) = fetched_by p parcel word (reading_at word parcel)

-- the word at an absolute address, None if there is no address
unfoldable pub word_at : List ℕ → Option ℕ → Option ℕ
word_at memory None = None
word_at memory (Some a) = Some (slice_index_or memory a 0)

-- the held word or, if no word is held, the word at P, if P is in range
unfoldable pub word_seen : Bounds → List ℕ → ℕ → Option ℕ → Option ℕ
word_seen b memory p (Some word) = Some word
word_seen b memory p None = word_at memory (absolute b p)

-- the effect of the next instruction before any unit works: it halts, passes or goes to a unit
unfoldable pub fetch : Bounds → List ℕ → ProgramPosition → Fetched
fetch b memory position = fetched_from position.p position.parcel (word_seen b memory position.p position.held)

-- the state after an instruction's complete effect, including its reference
unfoldable pub do_instruction : Bounds → State → Instr → ℕ → State
do_instruction b s instr at = do_work b s (work_of (shape_of instr) (value_of instr (operands instr at s.registers)))

-- the state after a fetched instruction: a halt, a pass, or an instruction of the word at the address `at`
unfoldable pub do_fetched : Bounds → State → ℕ → Fetched → State
do_fetched b s at (Halting halt position) = halt_by (move_to s position) halt
do_fetched b s at (Passing position) = move_to s position
do_fetched b s at (Taking instr position) = do_instruction b (move_to s position) instr at

-- the state after one step; a halted state is unchanged
unfoldable pub step_unless : State → Option Halt → State
step_unless s (Some halt) = s
step_unless s None = do_fetched (bounds_of s) s s.position.p (fetch (bounds_of s) s.memory s.position)

-- one step of the machine; a set fault flag doesn't stop it
unfoldable pub step : State → State
step s = step_unless s s.halt
