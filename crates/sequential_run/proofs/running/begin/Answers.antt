use Rattle.std.proofs.Common.{arith}
use Rattle.sequential_run.specs.inner.Course.{moment_of}
use Rattle.sequential_run.specs.Turns.{begun}
use Rattle.sequential_run.proofs.running.begin.Goals as goal

pub returns : goal.returns
unfolding moment_of begun
returns c = grind arith
