-- The accepted reference leaves, the others keep their order, and its bank is busy.
use Rattle.std.proofs.Common.{arith}
use Rattle.hopper.proofs.Laws.{accepted_view}
use Rattle.hopper.proofs.hopper.Hopper.accept.Goals as goal

pub returns-clause-after : goal.returns-clause-after
returns-clause-after c = grind (arith, accepted_view)
