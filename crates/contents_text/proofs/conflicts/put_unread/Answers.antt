use Rattle.device_text.proofs.Putting.{puts_each, puts_each_cut}
use Rattle.contents_text.specs.Contents.{unread_of}
use Rattle.contents_text.proofs.conflicts.put_unread.Goals as goal

pub returns-in_err-put_unread_of : goal.returns-in_err-put_unread_of
returns-in_err-put_unread_of g c =
    puts_each_cut g.O.Output c.from_residual.result _ c.from_residual.ensures.1 (unread_of c.args.pending.now)
    c.args.pending.now c.loop-reader.reader-index _ _ _ c.put_unread_of.new.output _ c.loop-reader-test.true
    c.loop-reader.invariant
    (rw c.reader-item.is at c.in_err-put_unread_of.ensures)

pub loop-reader-preserved : goal.loop-reader-preserved
loop-reader-preserved g c =
    puts_each g.O.Output (unread_of c.args.pending.now) c.args.pending.now c.loop-reader.reader-index _ _ _
    c.put_unread_of.new.output _ c.loop-reader-test.true c.loop-reader.invariant
    (rw c.reader-item.is at c.in_ok-put_unread_of.ensures)
