use Rattle.std.proofs.Common.{refl, rules}
use Rattle.in_flight.specs.inner.Slots.{lower_of}
use Rattle.in_flight.proofs.in_slots.Oldest.{lowest_more, lowest_done}
use Rattle.in_flight.proofs.slots.lowest.Goals as goal

pub loop-slot-init : goal.loop-slot-init
unfolding lower_of
loop-slot-init c = refl

pub loop-slot-preserved : goal.loop-slot-preserved
loop-slot-preserved c = lowest_more c.loop-slot.found _ c.args.slots.now c.loop-slot.slot-index c.slot-item.result _ _
    c.loop-slot-test.true c.lower-found.ensures c.slot-item.is c.loop-slot.invariant

pub returns : goal.returns
returns c = search (rules, lowest_done, c.loop-slot-test.false, c.loop-slot.invariant)
