-- Second order: the producers recorded for the unit, compared with the board's list.
use Rattle.scoreboard.proofs.in_slots.Small.{index_of, index_is, index_below, none_produced}
use Rattle.std.proofs.Common.{◌≡◌, rules, tests, ap, refl, sym, ◌∙◌, Some, None, get_or, arith}
use Rattle.std.specs.Prelude.{is_some}
use Rattle.std.specs.List.{list_any}
use Rattle.std.proofs.lemmas.Iterator.{YieldsList-from_slice}
use Rattle.std.proofs.lemmas.Iterator.Search.{any_from_yields_List}
use Rattle.instructions.specs.Finding.{seek}
use Rattle.instructions.specs.Operands.{sources_of}
use Rattle.scoreboard.specs.Answers.{Standing, read_answer, held_in}
use Rattle.instructions.proofs.Slots.{slot_any}
use Rattle.scoreboard.proofs.in_slots.Standing.{nobody_answers, read_answered, from_found, no_slot, list_read}
use Rattle.scoreboard.proofs.board.Board.may_read.Goals as goal

pub returns-in_default : goal.returns-in_default
unfolding read_answer
returns-in_default c =
    ap read_answer (sym (nobody_answers c.self.inside.units c.self.inside.channels c.self.inside.producers
    c.self.inside.writers c.self.inside.last c.args.unit (index_of c.args.unit) c.self.invariant
    (index_is c.args.unit)
    (slot_any c.self.inside.units (index_of c.args.unit) c.index-self-index.result
    (omega (arith, index_below c.args.unit, c.self.invariant.all_units))
    ∙ no_slot (get_or c.self.inside.units (index_of c.args.unit) c.index-self-index.result)
    c.in_default.not-Some)))
    ∙ ap (λ (s : Standing). read_answer (seek (held_in c.args.unit) s.issued)) c.self.view_is

pub returns-then-not-any : goal.returns-then-not-any
unfolding from_found
returns-then-not-any c =
    let h : c.any.result ≡ list_any is_some c.index-producers-index.result =
    any_from_yields_List _ _ _ _ c.any.ensures.ran (YieldsList-from_slice c.index-producers-index.result cc)
    (λ x b q k. search (rules, tests)) in
    read_answered c.self.inside.units c.self.inside.channels c.self.inside.producers c.self.inside.writers
    c.self.inside.last c.args.unit (index_of c.args.unit) c.in-Some.issued (sources_of
    c.in-Some.issued.reservation.instr)
    c.index-producers-index.result None c.self.invariant (index_is c.args.unit)
    (slot_any c.self.inside.units (index_of c.args.unit) c.index-self-index.result
    (omega (arith, index_below c.args.unit, c.self.invariant.all_units))
    ∙ c.in-Some.is) refl (list_read c.self.inside.producers (index_of c.args.unit) c.index-producers-index.result
    (omega (arith, index_below c.args.unit, c.self.invariant.all_producers)) c.index-producers-index.is)
    (none_produced (sources_of c.in-Some.issued.reservation.instr) c.index-producers-index.result
    (sym h ∙ c.if-not-any.true))
    ∙ ap (λ (s : Standing). read_answer (seek (held_in c.args.unit) s.issued)) c.self.view_is

pub returns-in-Some-first_with_writer : goal.returns-in-Some-first_with_writer
unfolding from_found
returns-in-Some-first_with_writer c =
    read_answered c.self.inside.units c.self.inside.channels c.self.inside.producers c.self.inside.writers
    c.self.inside.last c.args.unit (index_of c.args.unit) c.in-Some.issued c.as_slice.result.now
    c.index-producers-index.result (Some c.in-Some-first_with_writer.register) c.self.invariant (index_is c.args.unit)
    (slot_any c.self.inside.units (index_of c.args.unit) c.index-self-index.result
    (omega (arith, index_below c.args.unit, c.self.invariant.all_units))
    ∙ c.in-Some.is) (c.as_slice.ensures.value
    ∙ c.sources-sources.ensures) (list_read c.self.inside.producers (index_of c.args.unit)
    c.index-producers-index.result (omega (arith, index_below c.args.unit, c.self.invariant.all_producers))
    c.index-producers-index.is) (sym c.in-Some-first_with_writer.is ∙ c.first_with_writer.ensures)
    ∙ ap (λ (s : Standing). read_answer (seek (held_in c.args.unit) s.issued)) c.self.view_is

pub returns-in-None : goal.returns-in-None
unfolding from_found
returns-in-None c =
    read_answered c.self.inside.units c.self.inside.channels c.self.inside.producers c.self.inside.writers
    c.self.inside.last c.args.unit (index_of c.args.unit) c.in-Some.issued c.as_slice.result.now
    c.index-producers-index.result None c.self.invariant (index_is c.args.unit)
    (slot_any c.self.inside.units (index_of c.args.unit) c.index-self-index.result
    (omega (arith, index_below c.args.unit, c.self.invariant.all_units))
    ∙ c.in-Some.is) (c.as_slice.ensures.value
    ∙ c.sources-sources.ensures) (list_read c.self.inside.producers (index_of c.args.unit)
    c.index-producers-index.result (omega (arith, index_below c.args.unit, c.self.invariant.all_producers))
    c.index-producers-index.is) (sym c.in-None.is ∙ c.first_with_writer.ensures)
    ∙ ap (λ (s : Standing). read_answer (seek (held_in c.args.unit) s.issued)) c.self.view_is
