-- One more unit, held or free; at the end all units were looked at.
use Rattle.std.proofs.Common.{refl, arith}
use Rattle.scoreboard.specs.inner.Fields.{forget_in_taken}
use Rattle.scoreboard.proofs.in_slots.Small.{taken_more, free_more}
use Rattle.scoreboard.proofs.fields.forget_in_taken.Goals as goal

pub loop-index-init : goal.loop-index-init
unfolding forget_in_taken
loop-index-init c = refl

pub loop-index-preserved : goal.loop-index-preserved
loop-index-preserved c = grind (arith, taken_more, free_more)
