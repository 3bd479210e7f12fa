use Rattle.device_text.proofs.Putting.{puts_each, puts_each_cut}
use Rattle.contents_text.specs.Contents.{reserved_of}
use Rattle.contents_text.proofs.conflicts.put_reserved.Goals as goal

pub returns-in_err-put_reserved_of : goal.returns-in_err-put_reserved_of
returns-in_err-put_reserved_of g c =
    puts_each_cut g.O.Output c.from_residual.result _ c.from_residual.ensures.1 (reserved_of)
    c.args.pending.now c.loop-writer.writer-index _ _ _ c.put_reserved_of.new.output _ c.loop-writer-test.true
    c.loop-writer.invariant
    (rw c.writer-item.is at c.in_err-put_reserved_of.ensures)

pub loop-writer-preserved : goal.loop-writer-preserved
loop-writer-preserved g c =
    puts_each g.O.Output (reserved_of) c.args.pending.now c.loop-writer.writer-index _ _ _
    c.put_reserved_of.new.output _ c.loop-writer-test.true c.loop-writer.invariant
    (rw c.writer-item.is at c.in_ok-put_reserved_of.ensures)
