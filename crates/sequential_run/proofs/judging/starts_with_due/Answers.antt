use Rattle.std.proofs.Common.{rules}
use Rattle.sequential_run.proofs.Due.{due_past, due_alone, due_other, due_more, due_done}
use Rattle.sequential_run.proofs.judging.starts_with_due.Goals as goal

pub returns-then-ask-now : goal.returns-then-ask-now
returns-then-ask-now c = due_past c.args.now c.loop-ask.ask-index c.args.asks.now c.loop-ask.left.now _
    c.loop-ask.invariant c.loop-ask-test.true c.if-ask-now.true

pub returns-in_default : goal.returns-in_default
returns-in_default c = due_other c.args.now c.loop-ask.ask-index c.args.asks.now c.loop-ask.left.now _
    c.in-Some.made.now c.in-Some.more.now c.loop-ask.invariant c.loop-ask-test.true c.if-ask-now.false
    (search rules) (search rules)

pub returns-in_default-2 : goal.returns-in_default-2
returns-in_default-2 c = due_alone c.args.now c.loop-ask.ask-index c.args.asks.now c.loop-ask.left.now _
    c.loop-ask.invariant c.loop-ask-test.true c.if-ask-now.false (search rules)

pub loop-ask-preserved : goal.loop-ask-preserved
loop-ask-preserved c = due_more c.args.now c.loop-ask.ask-index c.args.asks.now c.loop-ask.left.now _
    c.in-Some.made.now c.in-Some.more.now c.loop-ask.invariant c.loop-ask-test.true c.if-ask-now.false
    (search rules) (search rules)

pub returns : goal.returns
returns c = due_done c.args.now c.loop-ask.ask-index c.args.asks.now c.loop-ask.left.now _ c.loop-ask.invariant
    c.loop-ask-test.false
