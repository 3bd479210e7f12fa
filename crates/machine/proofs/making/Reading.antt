-- The machine after a unit's read, from the answer of the instructions in flight.
use Rattle.std.proofs.Common.{◌≡◌, [], ◌∷◌, Some}
use Rattle.std.specs.Prelude.{Result, Ok, Err, IfOk, MatchResult}
use Rattle.instructions.specs.declared.instr.Unit.{Unit as FunctionalUnit}
use Rattle.instructions.specs.declared.refusal.Refusal.{Refusal}
use Rattle.instructions.specs.Finding.{replaced, seek}
use Rattle.in_flight.specs.declared.pending.Pending.{Pending}
use Rattle.in_flight.specs.declared.pending.Phase.TheVariants.{Before}
use Rattle.in_flight.specs.declared.pending.Stage.TheVariants.{Unread, Read as HasRead}
use Rattle.in_flight.specs.Flight.{Flight, with_pending}
use Rattle.in_flight.specs.Lookup.{located, stage_at, in_phase}
use Rattle.sequential.specs.Work.{operands}
use Rattle.unit_ops.specs.declared.Operands.{Operands}
use Rattle.program_order.specs.declared.event.Event.TheVariants.{Read}
use Rattle.program_order.specs.Events.{after}
use Rattle.program_order.specs.Processor.{Processor}
use Rattle.machine.proofs.making.Making.{read_made, same_flight, with_flight, flight}

-- the machine is the one after the read, or unchanged
pub read_left : (w : Processor) (u : FunctionalUnit) (r : Result (Pending × Operands) Refusal) (g : Flight)
    → IfOk r (λ read. located (seek (stage_at u) w.pending) ≡ Some (record { pending = read.0; answer = Unread }))
    → IfOk r (λ read. read.1 ≡ operands read.0.instr read.0.at w.state.registers)
    → MatchResult r (λ read. g ≡ with_pending (flight w)
    (replaced (seek (stage_at u) w.pending) w.pending (λ m. in_phase m (Before (HasRead read.1)) ∷ [])))
    (λ refusal. g ≡ flight w)
    → MatchResult r (λ _. with_flight w g ≡ after w (Read u)) (λ k. with_flight w g ≡ w)
read_left w u (Ok x) g p o a = read_made w u x.0 x.1 g p o a
read_left w u (Err k) g p o a = same_flight w g a
