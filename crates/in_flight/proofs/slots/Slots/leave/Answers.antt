use Rattle.std.proofs.Common.{rules}
use Rattle.scoreboard.proofs.in_slots.Small.{index_is}
use Rattle.in_flight.specs.Lookup.{kept}
use Rattle.in_flight.proofs.in_slots.Moving.{unit_read, unit_out, read_unchanged, moved_right, moved_view}
use Rattle.in_flight.proofs.slots.Slots.leave.Goals as goal

pub returns-in_default : goal.returns-in_default
returns-in_default c =
    read_unchanged (λ m. kept m c.args.later.now)
    (unit_read c.args.unit c.index-self-index.result c.self.invariant c.self.view_is (index_is c.args.unit)
    c.in_default.is)

pub invariant_of-self : goal.invariant_of-self
invariant_of-self c =
    moved_right c.args.later.now
    (unit_read c.args.unit c.index-self-index.result c.self.invariant c.self.view_is (index_is c.args.unit)
    c.in-Some.is) (unit_out c.args.unit c.self.invariant (index_is c.args.unit)) c.requires
    (c.put_rest.ensures.places, c.put_rest.ensures.channels)

pub returns : goal.returns
returns c =
    moved_view c.args.later.now
    (search (rules, unit_read, index_is)) (unit_out c.args.unit c.self.invariant (index_is c.args.unit)) c.requires
    (c.put_rest.ensures.places, c.put_rest.ensures.channels)
