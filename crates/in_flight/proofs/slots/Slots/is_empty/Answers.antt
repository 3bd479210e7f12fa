use Rattle.std.proofs.Common.{arith}
use Rattle.in_flight.proofs.in_slots.Moving.{none_pending}
use Rattle.in_flight.proofs.slots.Slots.is_empty.Goals as goal

pub returns-then-not-none_held : goal.returns-then-not-none_held
returns-then-not-none_held c =
    grind (arith, none_pending c.self.inside.units c.self.inside.places c.self.inside.channels)

pub returns-then-not-none_held-2 : goal.returns-then-not-none_held-2
returns-then-not-none_held-2 c =
    grind (arith, none_pending c.self.inside.units c.self.inside.places c.self.inside.channels)

pub returns : goal.returns
returns c = grind (arith, none_pending c.self.inside.units c.self.inside.places c.self.inside.channels)
