use Rattle.std.proofs.Common.{arith, ap, sym, ◌∙◌, subst, [], ◌∷◌}
use Rattle.std.proofs.lemmas.Grind.{common_steps}
use Rattle.scoreboard.proofs.in_slots.Small.{index_of, index_is}
use Rattle.std.proofs.lemmas.List.{set-get_or}
use Rattle.in_flight.specs.declared.pending.Phase.TheVariants.{Before}
use Rattle.in_flight.specs.declared.slots.Slots.TheInside.{Inside}
use Rattle.in_flight.specs.Lookup.{in_phase}
use Rattle.in_flight.specs.inner.Slots.{slots, in_order, IsRight}
use Rattle.in_flight.proofs.in_slots.Moving.{unit_read, staged_right, staged_view, read_unchanged}
use Rattle.in_flight.proofs.slots.Slots.set_stage.Goals as goal
use Rattle.in_flight.proofs.slots.Slots.set_stage.Goals.{in-Some, in_default}

pub invariant_of-self : goal.invariant_of-self
unfolding in_phase
invariant_of-self c =
    elim c.match-self-index.branch [
      | in-Some w ↦
          subst (λ (x : Inside). IsRight x.units x.places x.channels) (sym w.self-inside-is)
          (staged_right c.args.unit c.args.stage
          (unit_read c.args.unit c.index-self-index.result c.self.invariant c.self.view_is (index_is c.args.unit)
          w.in-Some.is) (index_is c.args.unit))
      | in_default w ↦
          grind (arith, common_steps)
    ]

pub returns : goal.returns
unfolding in_phase
returns c =
    elim c.match-self-index.branch [
      | in-Some w ↦
          ap (λ (x : Inside). in_order (slots x.units x.places x.channels)) w.self-inside-is
          ∙ staged_view c.args.unit c.args.stage
          (unit_read c.args.unit c.index-self-index.result c.self.invariant c.self.view_is (index_is c.args.unit)
          w.in-Some.is) (index_is c.args.unit)
      | in_default w ↦
          ap (λ (x : Inside). in_order (slots x.units x.places x.channels)) w.self-inside-is
          ∙ ap (λ us. in_order (slots us c.self.inside.places c.self.inside.channels))
          (set-get_or c.self.inside.units (index_of c.args.unit) c.index-self-index.result)
          ∙ c.self.view_is
          ∙ read_unchanged (λ m. in_phase m (Before c.args.stage) ∷ [])
          (unit_read c.args.unit c.index-self-index.result c.self.invariant c.self.view_is (index_is c.args.unit)
          w.in_default.is)
    ]
