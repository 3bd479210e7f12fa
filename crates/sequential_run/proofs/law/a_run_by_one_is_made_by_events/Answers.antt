use Rattle.sequential_run.proofs.Making.{run_made}
use Rattle.sequential_run.proofs.law.a_run_by_one_is_made_by_events.Goals as goal

pub returns : goal.returns
returns c = run_made
