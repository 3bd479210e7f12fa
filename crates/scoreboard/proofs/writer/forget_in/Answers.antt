-- The writer is removed from one more position, if it is expected there.
use Rattle.std.proofs.Common.{arith}
use Rattle.scoreboard.proofs.in_slots.Small.{mapped_more, mapped_same, expected_goes, other_stays}
use Rattle.scoreboard.proofs.writer.forget_in.Goals as goal

pub loop-index-preserved : goal.loop-index-preserved
loop-index-preserved c = grind (arith, mapped_more, expected_goes, mapped_same, other_stays)
