use Rattle.sequential_run.specs.inner.Stepping.{StepsTo}
use Rattle.sequential_run.proofs.stepping.issue_many.Given as goal

-- this many steps lead to this state
abbrev pub invariant-loop-made : goal.invariant-loop-made
invariant-loop-made l = StepsTo l.made l.fn.state l.state
