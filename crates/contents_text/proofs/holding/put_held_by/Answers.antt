use Rattle.device_text.proofs.Putting.{puts_each, puts_each_cut}
use Rattle.contents_text.specs.Holding.{holder_line}
use Rattle.contents_text.proofs.holding.put_held_by.Goals as goal

pub returns-in_err-put_holder : goal.returns-in_err-put_holder
returns-in_err-put_holder g c =
    puts_each_cut g.O.Output c.from_residual.result _ c.from_residual.ensures.1 (holder_line c.args.machine.now c.args.event.now c.args.refusal.now)
    c.args.pending.now c.loop-one.one-index _ _ _ c.put_holder.new.output _ c.loop-one-test.true
    c.loop-one.invariant
    (rw c.one-item.is at c.in_err-put_holder.ensures)

pub loop-one-preserved : goal.loop-one-preserved
loop-one-preserved g c =
    puts_each g.O.Output (holder_line c.args.machine.now c.args.event.now c.args.refusal.now) c.args.pending.now c.loop-one.one-index _ _ _
    c.put_holder.new.output _ c.loop-one-test.true c.loop-one.invariant
    (rw c.one-item.is at c.in_ok-put_holder.ensures)
