use Rattle.unit_queue.proofs.Moves.{takes, empties, took, took_in_order}
use Rattle.unit_queue.proofs.ends.Lane.take.Goals as goal

pub pop_as-requires-clause-rule : goal.pop_as-requires-clause-rule
pop_as-requires-clause-rule g c = (takes _ _ c.pass.invariant.1, empties _ _ c.pass.invariant.1)

pub returns-clause-closed : goal.returns-clause-closed
returns-clause-closed g c =
    took c.pass.inside.pass.me.0.client c.pop_as.new.pass.me.0.client _ c.pop_as.result c.pop_as.ensures.rule

pub returns-clause-order : goal.returns-clause-order
returns-clause-order g c =
    let i = c.pass.invariant in
    took_in_order c.pass.inside.pass.me.0.client c.pop_as.new.pass.me.0.client _ c.pop_as.result i.2 i.3
    c.pop_as.ensures.rule
