use Rattle.device_text.proofs.Putting.{puts_each, puts_each_cut}
use Rattle.job_deck.specs.Dump.{spaced_index}
use Rattle.job_deck.proofs.dumping.put_indexes.Goals as goal

pub returns-in_err-put_pieces : goal.returns-in_err-put_pieces
returns-in_err-put_pieces g c =
    puts_each_cut g.O.Output c.from_residual.result _ c.from_residual.ensures.1 spaced_index c.args.indexes.now
    c.loop-index.index-index _ _ _ c.put_pieces.new.output _ c.loop-index-test.true c.loop-index.invariant
    (rw (c.spaced_index.ensures, c.index-item.is) at c.in_err-put_pieces.ensures)

pub loop-index-preserved : goal.loop-index-preserved
loop-index-preserved g c =
    puts_each g.O.Output spaced_index c.args.indexes.now c.loop-index.index-index _ _ _ c.put_pieces.new.output _
    c.loop-index-test.true c.loop-index.invariant (rw (c.spaced_index.ensures, c.index-item.is) at
    c.in_ok-put_pieces.ensures)
