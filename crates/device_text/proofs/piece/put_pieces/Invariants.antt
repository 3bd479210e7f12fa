use Rattle.std.proofs.Common.{drop}
use Rattle.device_text.specs.Pieces.{text_of_all}
use Rattle.device_text.proofs.Putting.{PutsAllBut}
use Rattle.device_text.proofs.piece.put_pieces.Given as goal

-- everything was put but the pieces that are left
abbrev pub invariant-loop-piece : goal.invariant-loop-piece
invariant-loop-piece g l =
    PutsAllBut g.O.Output (text_of_all (drop l.piece-index l.pieces)) l.fn.output l.output (text_of_all l.pieces)
