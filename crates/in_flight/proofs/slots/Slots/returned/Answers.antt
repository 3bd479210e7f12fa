use Rattle.std.proofs.Common.{rules, None, []}
use Rattle.in_flight.specs.Lookup.{kept}
use Rattle.in_flight.proofs.in_slots.Moving.{channel_read, channel_out, read_unchanged, moved_right, moved_view, no_rest}
use Rattle.in_flight.proofs.slots.Slots.returned.Goals as goal

pub returns-in_default : goal.returns-in_default
returns-in_default c =
    read_unchanged (λ m. [])
    (channel_read c.index-self-index.result c.self.invariant c.self.view_is c.requires c.from-index.ensures
    c.in_default.is)

pub invariant_of-self : goal.invariant_of-self
invariant_of-self c =
    moved_right None
    (channel_read c.index-self-index.result c.self.invariant c.self.view_is c.requires c.from-index.ensures
    c.in-Some.is) (channel_out c.from-index.result c.self.invariant) tt
    (no_rest _ _ c.in-Some.field-0)

pub returns : goal.returns
unfolding kept
returns c =
    moved_view None
    (search (rules, channel_read)) (channel_out c.from-index.result c.self.invariant) tt
    (no_rest _ _ c.in-Some.field-0)
