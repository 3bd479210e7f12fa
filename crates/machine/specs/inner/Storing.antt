-- What the store of a unit's result does. Source: ours.
use Rattle.std.specs.Prelude.{◌≡◌, Option, Some}
use Rattle.instructions.specs.declared.instr.Unit.{Unit as FunctionalUnit}
use Rattle.instructions.specs.Finding.{seek}
use Rattle.instructions.specs.Shape.{shape_of}
use Rattle.unit_ops.specs.declared.UnitValue.{UnitValue}
use Rattle.sequential.specs.State.{bounds_of}
use Rattle.sequential.specs.declared.work.Work.{Work}
use Rattle.sequential.specs.Work.{IsWorkOf, reference_for}
use Rattle.in_flight.specs.declared.pending.Pending.{Pending}
use Rattle.in_flight.specs.declared.pending.Stage.TheVariants.{Finished}
use Rattle.in_flight.specs.declared.referring.Relocated.{Relocated}
use Rattle.in_flight.specs.Flight.{relocated}
use Rattle.in_flight.specs.Lookup.{located, stage_at}
use Rattle.program_order.specs.Processor.{Processor}

-- the work and the reference of the store of the instruction in the unit, which has its value
pub record IsStoreOf (w : Processor) (u : FunctionalUnit) (work : Work) (reference : Option Relocated) : Type 0 where
  pub pending : Pending
  pub value : UnitValue
  pub found : located (seek (stage_at u) w.pending) ≡ Some (record { pending = pending; answer = Finished value })
  pub works : IsWorkOf (shape_of pending.instr) value work
  pub refers : reference ≡ relocated (bounds_of w.state) (reference_for (shape_of pending.instr) value)
