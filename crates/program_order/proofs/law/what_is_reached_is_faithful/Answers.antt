use Rattle.program_order.proofs.theorem.Headline.{faithful}
use Rattle.program_order.proofs.law.what_is_reached_is_faithful.Goals as goal

pub returns : goal.returns
returns c = faithful
