use Rattle.std.proofs.Common.{arith, refl}
use Rattle.in_flight.specs.Lookup.{stage_at}
use Rattle.instructions.specs.Finding.{seek}
use Rattle.in_flight.proofs.answering.Beside.{finish_tied}
use Rattle.in_flight.proofs.flight.InFlight.finish.Goals as goal

pub invariant_of-self : goal.invariant_of-self
invariant_of-self c =
    finish_tied c.args.unit c.self.inside.slots c.set_stage.new.self c.self.inside.hopper c.self.inside.board
    c.args.value (seek (stage_at c.args.unit) c.self.inside.slots) refl
    (grind arith)
    c.self.invariant c.set_stage.ensures
