use Rattle.unit_workers.proofs.Onward.{through}
use Rattle.unit_workers.proofs.issuing.conduct.Goals as goal

pub returns-in_err-step : goal.returns-in_err-step
returns-in_err-step g c = record { onward = through _ _ _ c.loop.invariant c.step.ensures.onward }

pub loop-preserved-in-GoesOn : goal.loop-preserved-in-GoesOn
loop-preserved-in-GoesOn g c = through _ _ _ c.loop.invariant c.step.ensures.onward

pub loop-preserved : goal.loop-preserved
loop-preserved g c = through _ _ _ c.loop.invariant c.step.ensures.onward

pub returns-in-Ends : goal.returns-in-Ends
returns-in-Ends g c = record { onward = through _ _ _ c.loop.invariant c.step.ensures.onward }
