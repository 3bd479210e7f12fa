use Rattle.std.proofs.Common.{◌≡◌, drop}
use Rattle.in_flight.specs.inner.Slots.{lower_of, lowest_of}
use Rattle.in_flight.proofs.slots.lowest.Given as goal

-- the lowest number so far or in the remaining slots is the lowest of all
abbrev pub invariant-loop-slot : goal.invariant-loop-slot
invariant-loop-slot l = lower_of l.found (lowest_of (drop l.slot-index l.slots)) ≡ lowest_of l.slots
