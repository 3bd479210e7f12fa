use Rattle.std.proofs.Common.{◌≡◌, ◌-◌, replicate}
use Rattle.sequential.specs.Replay.{Issued, replay}
use Rattle.sequential.proofs.replaying.issue_many.Given as goal

-- the remaining steps lead to the same state as all steps did from the start
abbrev pub invariant-loop : goal.invariant-loop
invariant-loop l =
    replay l.state (replicate (l.count - l.counter) Issued) ≡ replay l.fn.state (replicate l.count Issued)
