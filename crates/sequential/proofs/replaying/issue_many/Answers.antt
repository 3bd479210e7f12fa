use Rattle.std.proofs.Common.{sym, ◌∙◌}
use Rattle.sequential.proofs.Runs.{run_more, run_done, run_halted}
use Rattle.sequential.proofs.replaying.issue_many.Goals as goal

pub returns-then-is_some : goal.returns-then-is_some
returns-then-is_some c =
    run_halted c.loop.state c.loop.counter c.args.count _ (sym c.is_some.ensures ∙ c.if-is_some.true) c.loop.invariant

pub loop-preserved : goal.loop-preserved
loop-preserved c = run_more c.loop.state c.step.new.state c.loop.counter c.args.count _ c.loop-test.true c.step.ensures
    c.loop.invariant

pub returns : goal.returns
returns c = run_done c.loop.state c.loop.counter c.args.count _ c.loop-test.false c.loop.invariant
