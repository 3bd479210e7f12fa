-- The turn of references: reservations with a lower number, compared with the board's list.
use Rattle.scoreboard.proofs.in_slots.Small.{index_of, index_is, index_below}
use Rattle.std.proofs.Common.{ap, sym, ◌∙◌, get_or, true, false, arith}
use Rattle.std.specs.Prelude.{◌&&◌}
use Rattle.std.specs.List.{list_any}
use Rattle.instructions.specs.Finding.{seek}
use Rattle.instructions.proofs.Slots.{slot_any}
use Rattle.scoreboard.specs.Answers.{Standing, turn_answer, held_in}
use Rattle.scoreboard.specs.inner.Fields.{slot_has_turn}
use Rattle.scoreboard.proofs.in_slots.Standing.{nobody_answers, no_slot}
use Rattle.scoreboard.proofs.changing.OfKind.{turn_answered, used_refers}
use Rattle.scoreboard.proofs.board.Board.in_turn.Goals as goal

pub returns-in_default : goal.returns-in_default
unfolding turn_answer
returns-in_default c =
    ap turn_answer (sym (nobody_answers c.self.inside.units c.self.inside.channels c.self.inside.producers
    c.self.inside.writers c.self.inside.last c.args.unit (index_of c.args.unit) c.self.invariant
    (index_is c.args.unit)
    (slot_any c.self.inside.units (index_of c.args.unit) c.index-self-index.result
    (omega (arith, index_below c.args.unit, c.self.invariant.all_units))
    ∙ no_slot (get_or c.self.inside.units (index_of c.args.unit) c.index-self-index.result)
    c.in_default.not-Some)))
    ∙ ap (λ (s : Standing). turn_answer (seek (held_in c.args.unit) s.issued)) c.self.view_is

pub returns-then-is_none : goal.returns-then-is_none
returns-then-is_none c =
    turn_answered c.self.inside.units c.self.inside.channels c.self.inside.producers c.self.inside.writers
    c.self.inside.last c.args.unit (index_of c.args.unit) c.in-Some.issued false c.self.invariant
    (index_is c.args.unit)
    (slot_any c.self.inside.units (index_of c.args.unit) c.index-self-index.result
    (omega (arith, index_below c.args.unit, c.self.invariant.all_units)) ∙ c.in-Some.is)
    (sym (ap (λ b. b && list_any (slot_has_turn c.in-Some.issued.number) c.self.inside.units)
    (used_refers _ _ _ true c.memory.ensures c.is_none.ensures c.if-is_none.true)))
    ∙ ap (λ (s : Standing). turn_answer (seek (held_in c.args.unit) s.issued)) c.self.view_is

pub returns-then-has_earlier_reference : goal.returns-then-has_earlier_reference
returns-then-has_earlier_reference c =
    turn_answered c.self.inside.units c.self.inside.channels c.self.inside.producers c.self.inside.writers
    c.self.inside.last c.args.unit (index_of c.args.unit) c.in-Some.issued true c.self.invariant
    (index_is c.args.unit)
    (slot_any c.self.inside.units (index_of c.args.unit) c.index-self-index.result
    (omega (arith, index_below c.args.unit, c.self.invariant.all_units)) ∙ c.in-Some.is)
    (sym (ap (λ b. b && list_any (slot_has_turn c.in-Some.issued.number) c.self.inside.units)
    (used_refers _ _ _ false c.memory.ensures c.is_none.ensures c.if-is_none.false) ∙ (sym c.has_earlier_reference.ensures ∙ c.if-has_earlier_reference.true)))
    ∙ ap (λ (s : Standing). turn_answer (seek (held_in c.args.unit) s.issued)) c.self.view_is

pub returns-else-has_earlier_reference : goal.returns-else-has_earlier_reference
returns-else-has_earlier_reference c =
    turn_answered c.self.inside.units c.self.inside.channels c.self.inside.producers c.self.inside.writers
    c.self.inside.last c.args.unit (index_of c.args.unit) c.in-Some.issued false c.self.invariant
    (index_is c.args.unit)
    (slot_any c.self.inside.units (index_of c.args.unit) c.index-self-index.result
    (omega (arith, index_below c.args.unit, c.self.invariant.all_units)) ∙ c.in-Some.is)
    (sym (ap (λ b. b && list_any (slot_has_turn c.in-Some.issued.number) c.self.inside.units)
    (used_refers _ _ _ false c.memory.ensures c.is_none.ensures c.if-is_none.false) ∙ (sym c.has_earlier_reference.ensures ∙ c.if-has_earlier_reference.false)))
    ∙ ap (λ (s : Standing). turn_answer (seek (held_in c.args.unit) s.issued)) c.self.view_is
