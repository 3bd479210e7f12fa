-- Complete: the effects that instructions in flight still have to make. Source: ours.
use Rattle.std.specs.Prelude.{ℕ, List, [], ◌∷◌}
use Rattle.instructions.specs.declared.instr.Instr.{Instr}
use Rattle.instructions.specs.declared.instr.Reg.TheVariants.{X}
use Rattle.instructions.specs.Shape.{shape_of}
use Rattle.registers.specs.declared.file.RegisterFile.{RegisterFile}
use Rattle.unit_ops.specs.declared.UnitValue.{UnitValue}
use Rattle.unit_ops.specs.Values.{value_of}
use Rattle.sequential.specs.declared.state.State.{State}
use Rattle.sequential.specs.State.{Bounds, write, access_at}
use Rattle.sequential.specs.Work.{operands, work_of, do_work}
use Rattle.in_flight.specs.declared.pending.Outstanding.{Outstanding}
use Rattle.in_flight.specs.declared.pending.Outstanding.TheVariants.{Entered, Accepted}
use Rattle.in_flight.specs.declared.pending.Pending.{Pending}
use Rattle.in_flight.specs.declared.pending.Phase.{Phase}
use Rattle.in_flight.specs.declared.pending.Phase.TheVariants.{Before, After}
use Rattle.in_flight.specs.declared.pending.Stage.{Stage}
use Rattle.in_flight.specs.declared.pending.Stage.TheVariants.{Unread, Read, Finished}

-- the value of an instruction: computed from the registers if its operands aren't read yet, from its operands if they
-- were read, or the value that it has already
unfoldable pub value_at : Instr → ℕ → Stage → RegisterFile → UnitValue
value_at instr at Unread g = value_of instr (operands instr at g)
value_at instr at (Read os) g = value_of instr os
value_at instr at (Finished v) g = v

-- the effect of the rest after the store event: a reference, or a word on its way to its register
unfoldable pub do_outstanding : State → Outstanding → State
do_outstanding s (Entered place a access) = access_at s a access
do_outstanding s (Accepted n word) = write s (X n) word

-- the effects still to come of an instruction in this phase
unfoldable pub run_phase : Bounds → State → Instr → ℕ → Phase → State
run_phase b s instr at (Before t) = do_work b s (work_of (shape_of instr) (value_at instr at t s.registers))
run_phase b s instr at (After l) = do_outstanding s l

-- all effects still to come of a pending instruction
unfoldable pub finish_effects : Bounds → State → Pending → State
finish_effects b s m = run_phase b s m.instr m.at m.phase

-- Complete: the state after the effects of all instructions, oldest first
unfoldable pub complete : Bounds → State → List Pending → State
complete b s [] = s
complete b s (m ∷ ms) = complete b (finish_effects b s m) ms
