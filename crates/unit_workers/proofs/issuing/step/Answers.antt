use Rattle.unit_workers.proofs.Onward.{through}
use Rattle.unit_workers.proofs.issuing.step.Goals as goal

pub returns-in-Some-ExchangeWaiting : goal.returns-in-Some-ExchangeWaiting
returns-in-Some-ExchangeWaiting g c = record {
  onward = through _ _ _ c.issue_on-refused.ensures.onward c.exchange.ensures.onward;
}

pub returns-in-Some : goal.returns-in-Some
returns-in-Some g c = record { onward = through _ _ _ c.issue_on-refused.ensures.onward c.finish.ensures.onward }
