use Rattle.std.proofs.Common.{refl}
use Rattle.job_deck.proofs.dumping.place_line.Goals as goal

pub returns : goal.returns
returns c = rw c.held_piece.ensures refl
