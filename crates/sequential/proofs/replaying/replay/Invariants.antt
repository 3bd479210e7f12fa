use Rattle.std.proofs.Common.{◌≡◌, Some, take}
use Rattle.sequential.specs.Log.{steps_of}
use Rattle.sequential.specs.Replay.{replay}
use Rattle.sequential.proofs.replaying.replay.Given as goal

-- the entries so far lead to this state
abbrev pub invariant-loop-entry : goal.invariant-loop-entry
invariant-loop-entry l = replay l.fn.state (steps_of (take l.entry-index l.entry-items)) ≡ Some l.state
