use Rattle.program_order.proofs.effects.Passing.{pass_each_other}
use Rattle.program_order.proofs.law.references_that_pass_commute.Goals as goal

pub returns : goal.returns
returns c = pass_each_other
