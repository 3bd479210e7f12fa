-- Four references wait exactly if each place is taken.
use Rattle.std.proofs.Common.{arith}
use Rattle.hopper.proofs.Standing.{full_is}
use Rattle.hopper.proofs.hopper.Hopper.is_full.Goals as goal

pub returns : goal.returns
returns c = grind (arith, full_is)
