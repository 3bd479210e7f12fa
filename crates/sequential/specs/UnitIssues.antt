-- The number of instructions of a log that go to a unit, when the machine that executes one instruction at a time
-- replays it.
-- Source: ours.
use Rattle.std.specs.Prelude.{ℕ, ◌+◌, List, [], ◌∷◌, Option, Some, None}
use Rattle.instructions.specs.declared.instr.Instr.{Instr}
use Rattle.instructions.specs.declared.refusal.Halt.{Halt}
use Rattle.sequential.specs.declared.fetching.Fetched.{Fetched}
use Rattle.sequential.specs.declared.fetching.Fetched.TheVariants.{Halting, Passing, Taking}
use Rattle.sequential.specs.declared.state.State.{State}
use Rattle.sequential.specs.State.{bounds_of}
use Rattle.sequential.specs.Step.{fetch}
use Rattle.sequential.specs.Replay.{LogStep, Issued, Exchanged, ReadAt, Wrote, do_log_step}

-- the fetched instruction, if it goes to a unit
unfoldable pub taken_by : Fetched → Option Instr
taken_by (Halting halt position) = None
taken_by (Passing position) = None
taken_by (Taking instr position) = Some instr

-- the next instruction, if it goes to a unit and the machine isn't halted
unfoldable pub taken_unless : State → Option Halt → Option Instr
taken_unless s (Some halt) = None
taken_unless s None = taken_by (fetch (bounds_of s) s.memory s.position)

-- the instruction that goes to a unit in the next step from a state, if there is one
unfoldable pub taken_in : State → Option Instr
taken_in s = taken_unless s s.halt

-- 1 if there is an instruction, otherwise 0
unfoldable pub one_for : Option Instr → ℕ
one_for None = 0
one_for (Some instr) = 1

-- the number of instructions that go to a unit in one step of a log
unfoldable pub taken_at : State → LogStep → ℕ
taken_at s Issued = one_for (taken_in s)
taken_at s (Exchanged n) = 0
taken_at s (ReadAt a) = 0
taken_at s (Wrote a w) = 0

-- the count for the remaining steps, 0 if no state was reached
unfoldable pub then_taken : Option State → (State → ℕ) → ℕ
then_taken None f = 0
then_taken (Some s) f = f s

-- the number of instructions of a log that go to a unit
unfoldable pub taken : State → List LogStep → ℕ
taken s [] = 0
taken s (x ∷ xs) = taken_at s x + then_taken (do_log_step s x) (λ t. taken t xs)
