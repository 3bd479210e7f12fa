use Rattle.std.proofs.Common.{◌≡◌, sym, ◌∙◌, refl, Some, None, get_or, arith}
use Rattle.in_flight.specs.Lookup.{located}
use Rattle.in_flight.proofs.in_slots.Moving.{channel_read, channel_below, arrival_none, read_found, read_must}
use Rattle.in_flight.proofs.slots.Slots.find_arrival.Goals as goal

pub returns-in_default-clause-found : goal.returns-in_default-clause-found
unfolding located
returns-in_default-clause-found c = grind (arith, arrival_none)

pub returns-in-Some-arrival_in-clause-found : goal.returns-in-Some-arrival_in-clause-found
returns-in-Some-arrival_in-clause-found c =
    let here : get_or c.self.inside.channels c.args.channel None ≡ Some c.in-Some.pending =
    grind arith in
    read_found
    (channel_read None c.self.invariant c.self.view_is (channel_below c.args.channel _ c.self.invariant here) refl here)
    (sym c.arrival_in.ensures ∙ c.in-Some-arrival_in.is)

pub returns-in-Some-arrival_in-clause-range : goal.returns-in-Some-arrival_in-clause-range
returns-in-Some-arrival_in-clause-range c = grind (arith, channel_below)

pub returns-in-None : goal.returns-in-None
returns-in-None c =
    let here : get_or c.self.inside.channels c.args.channel None ≡ Some c.in-Some.pending =
    grind arith in
    absurd (read_must
    (channel_read None c.self.invariant c.self.view_is (channel_below c.args.channel _ c.self.invariant here) refl here)
    (sym c.arrival_in.ensures ∙ c.in-None.is))
