use Rattle.std.proofs.Common.{refl}
use Rattle.instructions.specs.Order.{sort_by, somes}
use Rattle.in_flight.specs.inner.Slots.{slots}
use Rattle.in_flight.proofs.slots.Slots.new.Goals as goal

pub invariant_of-result : goal.invariant_of-result
unfolding slots somes
invariant_of-result c = record { all_units = refl; all_places = refl; all_channels = refl; stands = tt; own = tt }

pub returns : goal.returns
unfolding slots sort_by somes
returns c = refl
