use Rattle.std.proofs.Common.{[], drop, length, subst}
use Rattle.program_order.specs.Reached.{IsReached}
use Rattle.machine_tests.proofs.reached_tests.ran.Goals as goal

pub returns : goal.returns
returns c =
    c.what_is_reached_is_faithful.ensures c.args.memory 100 c.args.events.now c.run.new.answers.items c.run.new.self
    (subst (λ old. IsReached c.args.memory 100 c.args.events.now (drop (length old) c.run.new.answers.items)
    c.run.new.self) c.new-answers.ensures.items (c.in_default.ensures.reached c.args.memory 100 [] []
    c.in-Ok.ensures.reached))
