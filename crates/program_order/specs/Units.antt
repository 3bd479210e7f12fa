-- The events of a unit: read, finish and store. Source: Thornton, scoreboard; 60100000, unit and register conflicts.
-- The turn of references is ours. The refusals of a read are in in_flight/specs/Tests.antt.
use Rattle.std.specs.Prelude.{ℕ, List, [], ◌∷◌, Option, unwrap_or}
use Rattle.instructions.specs.declared.instr.Instr.{Instr}
use Rattle.instructions.specs.Finding.{Found, put_back}
use Rattle.instructions.specs.Shape.{shape_of}
use Rattle.registers.specs.declared.file.RegisterFile.{RegisterFile}
use Rattle.unit_ops.specs.Values.{value_of}
use Rattle.sequential.specs.declared.work.ProgramReference.{ProgramReference}
use Rattle.sequential.specs.State.{Bounds, bounds_of}
use Rattle.sequential.specs.Work.{operands, Work, work_of, write_and_jump}
use Rattle.in_flight.specs.declared.pending.Stage.{Stage}
use Rattle.in_flight.specs.declared.pending.Stage.TheVariants.{Unread, Read as HasRead, Finished}
use Rattle.in_flight.specs.declared.pending.Outstanding.{Outstanding}
use Rattle.in_flight.specs.declared.pending.Phase.TheVariants.{Before}
use Rattle.in_flight.specs.declared.pending.Pending.{Pending}
use Rattle.in_flight.specs.Flight.{outstanding_of, relocated}
use Rattle.in_flight.specs.Tests.{store_conflicts, Test, nothing}
use Rattle.in_flight.specs.Lookup.{in_phase, kept, place_for, enters}
use Rattle.program_order.specs.Processor.{Processor}

-- ---- their refusals ----

-- E15, nothing: the unit has not read its operands, or has its value already
unfoldable pub finish_tests : Stage → List Test
finish_tests Unread = nothing
finish_tests (HasRead os) = []
finish_tests (Finished v) = nothing

-- the rest of an instruction after its store event
abbrev pub rest_of : Bounds → ℕ → Option ProgramReference → Option Outstanding
rest_of b place r = outstanding_of place (relocated b r)

-- E15, nothing, if the unit has not finished; then E10, result held, E11, hopper full, and E12, out of turn
unfoldable pub store_tests : Bounds → List Pending → Stage → List Pending → Instr → List Test
store_tests b ms Unread earlier i = nothing
store_tests b ms (HasRead os) earlier i = nothing
store_tests b ms (Finished v) earlier i =
    store_conflicts ms earlier i (enters (rest_of b 0 (work_of (shape_of i) v).reference))

-- ---- their effects ----

-- after a read, an instruction that waited has read its operands
unfoldable pub stage_after_read : RegisterFile → Instr → ℕ → Stage → Stage
stage_after_read g i at Unread = HasRead (operands i at g)
stage_after_read g i at (HasRead os) = HasRead os
stage_after_read g i at (Finished v) = Finished v

-- after a finish, an instruction that had read its operands has its value
unfoldable pub stage_after_finish : Instr → Stage → Stage
stage_after_finish i Unread = Unread
stage_after_finish i (HasRead os) = Finished (value_of i os)
stage_after_finish i (Finished v) = Finished v

-- after a read, all operands were read, in one step
unfoldable pub after_read : Processor → Found Pending Stage → Processor
after_read w f = record w {
  pending = put_back f
      (in_phase f.item (Before (stage_after_read w.state.registers f.item.instr f.item.at f.answer)) ∷ []);
}

-- after a finish, the unit has the value of the operands that were read
unfoldable pub after_finish : Processor → Found Pending Stage → Processor
after_finish w f =
    record w { pending = put_back f (in_phase f.item (Before (stage_after_finish f.item.instr f.answer)) ∷ []) }

-- after a store event with this work, the result is written and the jump made, a reference in range enters the hopper,
-- and the unit is released; a reference out of range may set the fault flag
unfoldable pub after_work : Processor → Found Pending Stage → Work → Processor
after_work w f work = record w {
  state = write_and_jump (bounds_of w.state) w.state work;
  pending = put_back f (kept f.item (rest_of (bounds_of w.state) (unwrap_or (place_for w.pending) 0) work.reference));
}

-- the machine after a store event, which only an instruction that has its value makes
unfoldable pub after_store : Processor → Found Pending Stage → Stage → Processor
after_store w f Unread = w
after_store w f (HasRead os) = w
after_store w f (Finished v) = after_work w f (work_of (shape_of f.item.instr) v)
