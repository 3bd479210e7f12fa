use Rattle.sequential_run.proofs.OneResult.{one_result}
use Rattle.sequential_run.proofs.law.a_run_has_one_result.Goals as goal

pub returns : goal.returns
returns c = one_result
