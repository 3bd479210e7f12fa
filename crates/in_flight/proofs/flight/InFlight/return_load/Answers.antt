use Rattle.std.proofs.Common.{[], sym, subst, arith}
use Rattle.instructions.specs.Each.{Pairs}
use Rattle.scoreboard.specs.Answers.{returning_by, gone}
use Rattle.in_flight.specs.Flight.{Flight}
use Rattle.instructions.specs.Finding.{replaced, seek}
use Rattle.in_flight.specs.Apart.{IsApart}
use Rattle.in_flight.specs.Lookup.{arrival_at}
use Rattle.in_flight.proofs.answering.Beside.{return_tied, what_there, changed_flight}
use Rattle.in_flight.proofs.flight.InFlight.return_load.Goals as goal

pub invariant_of-self : goal.invariant_of-self
invariant_of-self c =
    return_tied c.args.channel c.self.inside.slots c.returned.new.self c.self.inside.hopper c.self.inside.board
    c.returned-2.new.self c.in-Ok.found
    (subst (λ (f : Flight). Pairs IsApart f.pending) (sym c.self.view_is) c.requires.apart)
    (grind arith) c.self.invariant c.returned.ensures c.returned-2.ensures

pub returns-clause-arrival : goal.returns-clause-arrival
returns-clause-arrival c = grind (arith, what_there)

pub returns-clause-after : goal.returns-clause-after
returns-clause-after c =
    changed_flight (λ ms. replaced (seek (arrival_at c.args.channel) ms) ms (λ m. [])) c.self.inside.slots
    c.returned.new.self c.self.inside.hopper c.self.inside.board c.returned-2.new.self
    (replaced (seek (returning_by c.args.channel) c.self.inside.board.issued) c.self.inside.board.issued gone)
    c.args.self.now c.self.view_is c.returned.ensures c.returned-2.ensures
