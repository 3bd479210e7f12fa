use Rattle.std.proofs.Common.{arith, ap, sym, ◌∙◌}
use Rattle.std.specs.List.{list_any}
use Rattle.in_flight.specs.Flight.{Flight}
use Rattle.in_flight.specs.Pending.{delays_access}
use Rattle.in_flight.proofs.answering.Beside.{access_delayed}
use Rattle.in_flight.proofs.flight.InFlight.delays_access.Goals as goal

pub returns-then-has_reference_to_come : goal.returns-then-has_reference_to_come
returns-then-has_reference_to_come c =
    c.if-has_reference_to_come.true
    ∙ sym (grind arith)
    ∙ access_delayed c.args.address c.self.inside.slots c.self.inside.hopper c.self.inside.board c.self.invariant
    ∙ ap (λ (f : Flight). list_any (delays_access c.args.address) f.pending) c.self.view_is

pub returns-else-has_reference_to_come : goal.returns-else-has_reference_to_come
returns-else-has_reference_to_come c =
    c.waits_for.ensures
    ∙ sym (grind arith)
    ∙ access_delayed c.args.address c.self.inside.slots c.self.inside.hopper c.self.inside.board c.self.invariant
    ∙ ap (λ (f : Flight). list_any (delays_access c.args.address) f.pending) c.self.view_is
