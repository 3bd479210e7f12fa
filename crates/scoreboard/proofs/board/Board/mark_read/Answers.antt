-- A read: the invariant and the list after it. For a free unit nothing changes.
use Rattle.scoreboard.proofs.in_slots.Small.{index_of, index_is, index_below}
use Rattle.std.proofs.Common.{ap, sym, ◌∙◌, subst, arith}
use Rattle.std.proofs.lemmas.List.{set-get_or}
use Rattle.instructions.specs.Finding.{seek, replaced}
use Rattle.instructions.proofs.Slots.{slot_any}
use Rattle.scoreboard.specs.declared.board.Board.TheInside.{Inside}
use Rattle.scoreboard.specs.Answers.{Standing, held_in, with_issued, read, in_occupancy}
use Rattle.scoreboard.specs.inner.View.{standing_of, IsRight}
use Rattle.scoreboard.proofs.changing.Right.{marked_right}
use Rattle.scoreboard.proofs.changing.Changing.{nobody_marked, marked_view}
use Rattle.scoreboard.proofs.board.Board.mark_read.Goals as goal
use Rattle.scoreboard.proofs.board.Board.mark_read.Goals.{in-Some, in_default}

pub invariant_of-self : goal.invariant_of-self
unfolding in_occupancy
invariant_of-self c =
    elim c.match-self-index.branch [
      | in-Some w ↦
          subst (λ (b : Inside). IsRight b.units b.channels b.producers b.writers b.last) (sym w.self-inside-is)
          (marked_right c.self.inside.units c.self.inside.channels c.self.inside.producers c.self.inside.writers
          c.self.inside.last c.args.unit (index_of c.args.unit) w.in-Some.issued c.self.invariant
          (index_is c.args.unit)
          (slot_any c.self.inside.units (index_of c.args.unit) c.index-self-index.result
          (omega (arith, index_below c.args.unit, c.self.invariant.all_units)) ∙ w.in-Some.is))
      | in_default w ↦
          subst (λ (b : Inside). IsRight b.units b.channels b.producers b.writers b.last) (sym w.self-inside-is)
          (subst (λ us. IsRight us c.self.inside.channels c.self.inside.producers c.self.inside.writers
          c.self.inside.last) (sym (set-get_or c.self.inside.units (index_of c.args.unit)
          c.index-self-index.result)) c.self.invariant)
    ]

pub returns : goal.returns
unfolding in_occupancy
returns c =
    elim c.match-self-index.branch [
      | in-Some w ↦
          ap (λ (b : Inside). standing_of b.units b.channels b.last) w.self-inside-is
          ∙ marked_view c.self.inside.units c.self.inside.channels c.self.inside.producers c.self.inside.writers
          c.self.inside.last c.args.unit (index_of c.args.unit) w.in-Some.issued c.self.invariant
          (index_is c.args.unit)
          (slot_any c.self.inside.units (index_of c.args.unit) c.index-self-index.result
          (omega (arith, index_below c.args.unit, c.self.invariant.all_units)) ∙ w.in-Some.is)
          ∙ ap (λ (s : Standing). with_issued s (replaced (seek (held_in c.args.unit) s.issued) s.issued read))
          c.self.view_is
      | in_default w ↦
          ap (λ (b : Inside). standing_of b.units b.channels b.last) w.self-inside-is
          ∙ ap (λ us. standing_of us c.self.inside.channels c.self.inside.last)
          (set-get_or c.self.inside.units (index_of c.args.unit) c.index-self-index.result)
          ∙ nobody_marked read c.self.inside.units c.self.inside.channels c.self.inside.producers c.self.inside.writers
          c.self.inside.last c.args.unit (index_of c.args.unit) c.self.invariant (index_is c.args.unit)
          (slot_any c.self.inside.units (index_of c.args.unit) c.index-self-index.result
          (omega (arith, index_below c.args.unit, c.self.invariant.all_units)) ∙ w.in_default.is)
          ∙ ap (λ (s : Standing). with_issued s (replaced (seek (held_in c.args.unit) s.issued) s.issued read))
          c.self.view_is
    ]
