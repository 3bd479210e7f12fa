use Rattle.device_text.proofs.Putting.{puts_each, puts_each_cut}
use Rattle.contents_text.specs.Contents.{reserved_line}
use Rattle.contents_text.proofs.conflicts.put_reserved_lines.Goals as goal

pub returns-in_err-put_reserved_line : goal.returns-in_err-put_reserved_line
returns-in_err-put_reserved_line g c =
    puts_each_cut g.O.Output c.from_residual.result _ c.from_residual.ensures.1 (reserved_line c.args.writer.now)
    c.args.registers.now c.loop-register.register-index _ _ _ c.put_reserved_line.new.output _ c.loop-register-test.true
    c.loop-register.invariant
    (rw c.register-item.is at c.in_err-put_reserved_line.ensures)

pub loop-register-preserved : goal.loop-register-preserved
loop-register-preserved g c =
    puts_each g.O.Output (reserved_line c.args.writer.now) c.args.registers.now c.loop-register.register-index _ _ _
    c.put_reserved_line.new.output _ c.loop-register-test.true c.loop-register.invariant
    (rw c.register-item.is at c.in_ok-put_reserved_line.ensures)
