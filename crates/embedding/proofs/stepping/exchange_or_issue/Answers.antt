use Rattle.embedding.proofs.Idle.{idle_exchange, idle_issue}
use Rattle.embedding.proofs.stepping.exchange_or_issue.Goals as goal

pub returns-in-Ok-clause-event : goal.returns-in-Ok-clause-event
returns-in-Ok-clause-event c = idle_exchange c.args.machine.now _ (rw (c.in-Ok.is) at c.apply-exchanged.ensures.answer)

pub returns-in-Err-clause-event : goal.returns-in-Err-clause-event
returns-in-Err-clause-event c = idle_issue c.args.machine.now _ (rw (c.in-Err.is) at c.apply-exchanged.ensures.answer)
