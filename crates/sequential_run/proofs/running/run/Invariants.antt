use Rattle.sequential_run.specs.inner.Course.{IsKept, left_at, moment_of}
use Rattle.sequential_run.proofs.Ending.{Led}
use Rattle.sequential_run.proofs.running.run.Given as goal

-- some turns lead to this moment
abbrev pub invariant-loop-course : goal.invariant-loop-course
invariant-loop-course l = record {
  led : Led l.budget (moment_of l.initial.course) (moment_of l.course);
  kept : IsKept l.budget l.course;
}

abbrev pub decreases-loop-course : goal.decreases-loop-course
decreases-loop-course l = left_at l.budget (moment_of l.course)
