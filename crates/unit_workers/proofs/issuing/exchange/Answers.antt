use Rattle.unit_workers.proofs.Onward.{learnt_on}
use Rattle.unit_workers.proofs.issuing.exchange.Goals as goal

pub returns-in-Err-NotDrained : goal.returns-in-Err-NotDrained
returns-in-Err-NotDrained g c = record { onward = learnt_on _ _ c.in-Err-NotDrained.ensures.seen.0 }

pub returns-in-Err-MidWord : goal.returns-in-Err-MidWord
returns-in-Err-MidWord g c = record { onward = learnt_on _ _ c.in-Err-MidWord.ensures.seen.0 }
