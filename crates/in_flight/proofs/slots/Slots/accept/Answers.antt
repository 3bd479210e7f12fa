use Rattle.std.proofs.Common.{rules, arith}
use Rattle.in_flight.specs.Lookup.{kept}
use Rattle.in_flight.proofs.in_slots.Moving.{place_read, place_out, read_unchanged, moved_right, moved_view}
use Rattle.in_flight.proofs.slots.Slots.accept.Goals as goal

pub returns-in_default : goal.returns-in_default
returns-in_default c =
    read_unchanged (λ m. kept m c.args.later.now)
    (place_read c.index-self-index.result c.self.invariant c.self.view_is c.requires.place c.from-index.ensures
    c.in_default.is)

pub invariant_of-self : goal.invariant_of-self
invariant_of-self c =
    moved_right c.args.later.now
    (place_read c.index-self-index.result c.self.invariant c.self.view_is c.requires.place c.from-index.ensures
    c.in-Some.is) (place_out c.self.invariant (omega (arith, c.requires.place, c.from-index.ensures)))
    c.requires.room (c.put_rest.ensures.places, c.put_rest.ensures.channels)

pub returns : goal.returns
returns c =
    moved_view c.args.later.now
    (search (rules, place_read)) (place_out c.self.invariant (omega (arith, c.requires.place, c.from-index.ensures)))
    c.requires.room (c.put_rest.ensures.places, c.put_rest.ensures.channels)
