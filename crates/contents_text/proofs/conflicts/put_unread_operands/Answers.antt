use Rattle.device_text.proofs.Putting.{puts_each, puts_each_cut}
use Rattle.contents_text.specs.Contents.{operand_line}
use Rattle.contents_text.proofs.conflicts.put_unread_operands.Goals as goal

pub returns-in_err-put_operand : goal.returns-in_err-put_operand
returns-in_err-put_operand g c =
    puts_each_cut g.O.Output c.from_residual.result _ c.from_residual.ensures.1 (operand_line c.args.pending.now c.args.reader.now)
    c.args.operands.now c.loop-register.register-index _ _ _ c.put_operand.new.output _ c.loop-register-test.true
    c.loop-register.invariant
    (rw c.register-item.is at c.in_err-put_operand.ensures)

pub loop-register-preserved : goal.loop-register-preserved
loop-register-preserved g c =
    puts_each g.O.Output (operand_line c.args.pending.now c.args.reader.now) c.args.operands.now c.loop-register.register-index _ _ _
    c.put_operand.new.output _ c.loop-register-test.true c.loop-register.invariant
    (rw c.register-item.is at c.in_ok-put_operand.ensures)
