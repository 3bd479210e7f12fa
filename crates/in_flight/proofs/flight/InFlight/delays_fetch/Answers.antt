use Rattle.std.proofs.Common.{arith, ap, sym, ◌∙◌}
use Rattle.std.specs.List.{list_any}
use Rattle.in_flight.specs.Flight.{Flight}
use Rattle.in_flight.specs.Pending.{delays_fetch}
use Rattle.in_flight.proofs.answering.Beside.{fetch_delayed}
use Rattle.in_flight.proofs.flight.InFlight.delays_fetch.Goals as goal

pub returns-then-has_store_to_come : goal.returns-then-has_store_to_come
returns-then-has_store_to_come c =
    c.if-has_store_to_come.true
    ∙ sym (grind arith)
    ∙ fetch_delayed c.args.address c.self.inside.slots c.self.inside.hopper c.self.inside.board c.self.invariant
    ∙ ap (λ (f : Flight). list_any (delays_fetch c.args.address) f.pending) c.self.view_is

pub returns-else-has_store_to_come : goal.returns-else-has_store_to_come
returns-else-has_store_to_come c =
    c.store_for.ensures
    ∙ sym (grind arith)
    ∙ fetch_delayed c.args.address c.self.inside.slots c.self.inside.hopper c.self.inside.board c.self.invariant
    ∙ ap (λ (f : Flight). list_any (delays_fetch c.args.address) f.pending) c.self.view_is
