use Rattle.job_deck.proofs.sessions.Endings.{drain_closes}
use Rattle.job_deck.proofs.ending.finish.Goals as goal

pub returns-then-drains-clause-closed : goal.returns-then-drains-clause-closed
returns-then-drains-clause-closed g c =
    drain_closes c.put_drained.result c.args.drains c.args.machine.now c.drain.new.self c.drain.result
    c.args.deck.now.shows (g.O.Output.contents c.args.output.now)
    (g.O.Output.contents c.put_drained.new.output) c.if-drains.true c.drain.ensures.works c.drain.ensures.reached
    c.put_drained.ensures.closed
