use Rattle.std.proofs.Common.{sym, ◌∙◌, arith}
use Rattle.embedding.proofs.Steps.{all_made, going_more, going_none, refused, rested}
use Rattle.embedding.proofs.advancing.advance_machine.Goals as goal

pub loop-made-init : goal.loop-made-init
loop-made-init c = going_none c.args.most c.args.address c.args.machine.now

pub returns-in-Err : goal.returns-in-Err
returns-in-Err c =
    let made = c.make_next_event-answer in
    refused c.args.most c.args.address c.args.machine.now c.loop-made.machine made.new.machine c.loop-made.made
    made.result.0 made.result.1 _ c.loop-made.invariant made.ensures.event made.ensures.answer made.ensures.after
    c.in-Err.is

pub returns-then-rests_at : goal.returns-then-rests_at
returns-then-rests_at c =
    let made = c.make_next_event-answer in
    rested c.args.most c.args.address c.args.machine.now c.loop-made.machine made.new.machine c.loop-made.made
    made.result.0 made.result.1 _ c.loop-made.invariant c.loop-made-test.true made.ensures.event made.ensures.answer
    made.ensures.after made.ensures.reached c.in-Ok.is (sym c.rests_at.ensures ∙ c.if-rests_at.true)

pub loop-made-preserved : goal.loop-made-preserved
loop-made-preserved c =
    let made = c.make_next_event-answer in
    going_more c.args.most c.args.address c.args.machine.now c.loop-made.machine made.new.machine c.loop-made.made
    made.result.0 made.result.1 _ c.loop-made.invariant c.loop-made-test.true made.ensures.event made.ensures.answer
    made.ensures.after made.ensures.reached c.in-Ok.is (sym c.rests_at.ensures ∙ c.if-rests_at.false)

pub returns : goal.returns
returns c =
    let end = c.loop-made-test.false in
    all_made c.args.most c.args.address c.args.machine.now c.loop-made.machine c.loop-made.made c.loop-made.invariant
    (omega (arith, end))
