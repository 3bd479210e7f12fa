use Rattle.std.proofs.Common.{◌≡◌, drop}
use Rattle.sequential_run.specs.inner.Judging.{starts_with_due}
use Rattle.sequential_run.proofs.judging.starts_with_due.Given as goal

-- the remaining requests decide
abbrev pub invariant-loop-ask : goal.invariant-loop-ask
invariant-loop-ask l =
    starts_with_due l.now (drop l.ask-index l.asks) l.left ≡ starts_with_due l.now l.asks l.exchanges
