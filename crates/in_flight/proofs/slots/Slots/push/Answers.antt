use Rattle.std.proofs.Common.{arith, ◌<◌, ap, sym, ◌∙◌, subst, [], ◌∷◌, ◌++◌}
use Rattle.scoreboard.proofs.in_slots.Small.{index_of, index_is}
use Rattle.in_flight.specs.declared.pending.Stage.TheVariants.{Unread}
use Rattle.instructions.specs.Each.{Each}
use Rattle.in_flight.proofs.in_slots.Moving.{slot_free, new_right, new_view}
use Rattle.in_flight.proofs.slots.Slots.push.Goals as goal

pub invariant_of-self : goal.invariant_of-self
invariant_of-self c =
    new_right c.self.inside.units c.self.inside.places c.self.inside.channels (index_of c.args.pending.unit)
    c.args.pending Unread c.self.invariant (index_is c.args.pending.unit) c.requires.waits
    (grind (arith, slot_free, index_is))
    (subst (Each (λ x. x.number < c.args.pending.number)) (sym c.self.view_is) c.requires.last)

pub returns : goal.returns
returns c =
    new_view c.self.inside.units c.self.inside.places c.self.inside.channels (index_of c.args.pending.unit)
    c.args.pending c.self.invariant (index_is c.args.pending.unit)
    (grind (arith, slot_free, index_is))
    (subst (Each (λ x. x.number < c.args.pending.number)) (sym c.self.view_is) c.requires.last)
    ∙ ap (λ ms. ms ++ c.args.pending ∷ []) c.self.view_is
