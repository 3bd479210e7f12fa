-- The writer is removed for the held units up to the index, and the rest is unchanged.
use Rattle.std.proofs.Common.{◌≡◌, take}
use Rattle.scoreboard.specs.inner.Fields.{forget_in_taken}
use Rattle.scoreboard.proofs.fields.forget_in_taken.Given as goal

abbrev pub invariant-loop-index : goal.invariant-loop-index
invariant-loop-index l = l.producers ≡ forget_in_taken l.writer (take l.index l.units) l.fn.producers
