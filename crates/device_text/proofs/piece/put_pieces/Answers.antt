use Rattle.device_text.proofs.Putting.{puts_each, puts_each_cut}
use Rattle.device_text.specs.Pieces.{text_of}
use Rattle.device_text.proofs.piece.put_pieces.Goals as goal

pub returns-in_err-put_piece : goal.returns-in_err-put_piece
returns-in_err-put_piece g c =
    puts_each_cut g.O.Output c.from_residual.result _ c.from_residual.ensures.1 text_of c.args.pieces.now
    c.loop-piece.piece-index _ _ _ c.put_piece.new.output _ c.loop-piece-test.true c.loop-piece.invariant
    (rw c.piece-item.is at c.in_err-put_piece.ensures)

pub loop-piece-preserved : goal.loop-piece-preserved
loop-piece-preserved g c =
    puts_each g.O.Output text_of c.args.pieces.now c.loop-piece.piece-index _ _ _ c.put_piece.new.output _
    c.loop-piece-test.true c.loop-piece.invariant (rw c.piece-item.is at c.in_ok-put_piece.ensures)
