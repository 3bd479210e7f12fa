use Rattle.std.proofs.Common.{ap, sym, ◌∙◌}
use Rattle.in_flight.specs.Lookup.{located}
use Rattle.in_flight.proofs.in_slots.Moving.{place_read, read_nobody, read_found, read_must}
use Rattle.in_flight.proofs.slots.Slots.find_entry.Goals as goal

pub returns-in_default : goal.returns-in_default
unfolding located
returns-in_default c =
    ap located (sym (read_nobody
    (place_read c.index-self-index.result c.self.invariant c.self.view_is c.requires c.from-index.ensures
    c.in_default.is)))

pub returns-in-Some-entry_in : goal.returns-in-Some-entry_in
returns-in-Some-entry_in c =
    read_found
    (place_read c.index-self-index.result c.self.invariant c.self.view_is c.requires c.from-index.ensures
    c.in-Some.is) (sym c.entry_in.ensures ∙ c.in-Some-entry_in.is)

pub returns-in-None : goal.returns-in-None
returns-in-None c =
    absurd (read_must
    (place_read c.index-self-index.result c.self.invariant c.self.view_is c.requires c.from-index.ensures
    c.in-Some.is) (sym c.entry_in.ensures ∙ c.in-None.is))
