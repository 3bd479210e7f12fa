-- The writer is removed up to the index, and the rest is unchanged.
use Rattle.std.proofs.Common.{◌≡◌, ◌++◌, map, take, drop}
use Rattle.scoreboard.specs.Writers.{forget}
use Rattle.scoreboard.proofs.writer.forget_in.Given as goal

abbrev pub invariant-loop-index : goal.invariant-loop-index
invariant-loop-index l = l.expected ≡ map (forget l.writer) (take l.index l.fn.expected) ++ drop l.index l.fn.expected
