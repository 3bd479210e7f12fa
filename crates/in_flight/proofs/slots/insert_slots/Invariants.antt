use Rattle.std.proofs.Common.{◌≡◌, ◌≤◌, ◌+◌, drop}
use Rattle.std.specs.Prelude.{length}
use Rattle.in_flight.specs.inner.Slots.{with_slots}
use Rattle.in_flight.proofs.slots.insert_slots.Given as goal

abbrev pub invariant-loop-index : goal.invariant-loop-index
invariant-loop-index l =
    (l.list.items ≡ with_slots (drop l.index l.slots) l.fn.list.items)
    × (length l.list.items + l.index ≤ length l.fn.list.items + length l.slots)
