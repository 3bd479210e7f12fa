-- Third order at a store event: reservations with a lower number, compared with the board's list.
use Rattle.scoreboard.proofs.in_slots.Small.{index_of, index_is, index_below}
use Rattle.std.specs.Prelude.{option_to_list, find}
use Rattle.std.specs.List.{list_any}
use Rattle.std.proofs.Common.{cond, Some, None, ap, sym, ◌∙◌, get_or, arith}
use Rattle.scoreboard.specs.inner.Fields.{slot_reads}
use Rattle.instructions.specs.Finding.{seek}
use Rattle.scoreboard.specs.Answers.{Standing, store_answer, held_in}
use Rattle.instructions.proofs.Slots.{slot_any}
use Rattle.scoreboard.proofs.in_slots.Standing.{nobody_answers, store_answered, from_found, no_slot}
use Rattle.scoreboard.proofs.board.Board.may_store.Goals as goal

pub returns-in_default : goal.returns-in_default
unfolding store_answer
returns-in_default c =
    ap store_answer (sym (nobody_answers c.self.inside.units c.self.inside.channels c.self.inside.producers
    c.self.inside.writers c.self.inside.last c.args.unit (index_of c.args.unit) c.self.invariant
    (index_is c.args.unit)
    (slot_any c.self.inside.units (index_of c.args.unit) c.index-self-index.result
    (omega (arith, index_below c.args.unit, c.self.invariant.all_units))
    ∙ no_slot (get_or c.self.inside.units (index_of c.args.unit) c.index-self-index.result)
    c.in_default.not-Some)))
    ∙ ap (λ (s : Standing). store_answer (seek (held_in c.args.unit) s.issued)) c.self.view_is

pub returns-in_default-sets : goal.returns-in_default-sets
unfolding from_found
returns-in_default-sets c =
    store_answered c.self.inside.units c.self.inside.channels c.self.inside.producers c.self.inside.writers
    c.self.inside.last c.args.unit (index_of c.args.unit) c.in-Some.issued (option_to_list c.sets.result)
    None c.self.invariant (index_is c.args.unit)
    (slot_any c.self.inside.units (index_of c.args.unit) c.index-self-index.result
    (omega (arith, index_below c.args.unit, c.self.invariant.all_units))
    ∙ c.in-Some.is) (sym c.sets.ensures)
    (ap (λ o. find (λ r. list_any (slot_reads c.in-Some.issued.number r) c.self.inside.units) (option_to_list o))
    (sym c.in_default-sets.is))
    ∙ ap (λ (s : Standing). store_answer (seek (held_in c.args.unit) s.issued)) c.self.view_is

pub returns-then-is_still_read : goal.returns-then-is_still_read
unfolding from_found
returns-then-is_still_read c =
    store_answered c.self.inside.units c.self.inside.channels c.self.inside.producers c.self.inside.writers
    c.self.inside.last c.args.unit (index_of c.args.unit) c.in-Some.issued (option_to_list c.sets.result)
    (Some c.in-Some-sets.register) c.self.invariant (index_is c.args.unit)
    (slot_any c.self.inside.units (index_of c.args.unit) c.index-self-index.result
    (omega (arith, index_below c.args.unit, c.self.invariant.all_units))
    ∙ c.in-Some.is) (sym c.sets.ensures)
    (ap (λ b. cond b (Some c.in-Some-sets.register) None) (sym c.if-is_still_read.true ∙ c.is_still_read.ensures)
    ∙ ap (λ o. find (λ r. list_any (slot_reads c.in-Some.issued.number r) c.self.inside.units) (option_to_list o))
    (sym c.in-Some-sets.is))
    ∙ ap (λ (s : Standing). store_answer (seek (held_in c.args.unit) s.issued)) c.self.view_is

pub returns-else-is_still_read : goal.returns-else-is_still_read
unfolding from_found
returns-else-is_still_read c =
    store_answered c.self.inside.units c.self.inside.channels c.self.inside.producers c.self.inside.writers
    c.self.inside.last c.args.unit (index_of c.args.unit) c.in-Some.issued (option_to_list c.sets.result)
    None c.self.invariant (index_is c.args.unit)
    (slot_any c.self.inside.units (index_of c.args.unit) c.index-self-index.result
    (omega (arith, index_below c.args.unit, c.self.invariant.all_units))
    ∙ c.in-Some.is) (sym c.sets.ensures)
    (ap (λ b. cond b (Some c.in-Some-sets.register) None) (sym c.if-is_still_read.false ∙ c.is_still_read.ensures)
    ∙ ap (λ o. find (λ r. list_any (slot_reads c.in-Some.issued.number r) c.self.inside.units) (option_to_list o))
    (sym c.in-Some-sets.is))
    ∙ ap (λ (s : Standing). store_answer (seek (held_in c.args.unit) s.issued)) c.self.view_is
