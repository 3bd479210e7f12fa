use Rattle.std.proofs.Common.{rules}
use Rattle.sequential_run.proofs.Turning.{steps_begun, steps_more}
use Rattle.sequential_run.proofs.stepping.issue_many.Goals as goal

pub loop-made-init : goal.loop-made-init
loop-made-init c = steps_begun c.args.state.now

pub loop-made-preserved : goal.loop-made-preserved
loop-made-preserved c = steps_more c.loop-made.made c.args.state.now c.loop-made.state _
    c.loop-made.invariant (search rules) c.step.ensures
