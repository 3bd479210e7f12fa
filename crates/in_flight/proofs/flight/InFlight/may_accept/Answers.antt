use Rattle.std.proofs.Common.{arith, sym, ap, ◌∙◌}
use Rattle.in_flight.specs.Tests.{refusal_in}
use Rattle.in_flight.proofs.answering.Referring.{accept_answered}
use Rattle.in_flight.proofs.flight.InFlight.may_accept.Goals as goal

pub returns-in-Ok : goal.returns-in-Ok
returns-in-Ok c =
    sym (grind arith)
    ∙ accept_answered c.args.place c.self.inside.slots c.self.inside.hopper c.may_accept.result
    c.self.invariant.entered c.may_accept.ensures
    ∙ ap refusal_in c.in-Ok.is

pub returns-in-Err : goal.returns-in-Err
returns-in-Err c =
    sym (grind arith)
    ∙ accept_answered c.args.place c.self.inside.slots c.self.inside.hopper c.may_accept.result
    c.self.invariant.entered c.may_accept.ensures
    ∙ ap refusal_in c.in-Err.is
