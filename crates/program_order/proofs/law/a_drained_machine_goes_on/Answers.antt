use Rattle.program_order.proofs.draining.GoingOn.{exchange_accepted, issue_accepted}
use Rattle.program_order.proofs.law.a_drained_machine_goes_on.Goals as goal

pub returns-clause-issue : goal.returns-clause-issue
returns-clause-issue c = issue_accepted

pub returns-clause-exchange : goal.returns-clause-exchange
returns-clause-exchange c = exchange_accepted
