-- The unit that an issue would reserve: both refusals, and the unit with the next number.
use Rattle.std.proofs.Common.{◌≡◌, ◌+◌, ap, refl, sym, ◌∙◌, Some, None, true, false, arith}
use Rattle.std.specs.Prelude.{Err}
use Rattle.instructions.specs.declared.refusal.Refusal.TheVariants.{UnitBusy}
use Rattle.instructions.specs.Operands.{uses}
use Rattle.scoreboard.specs.Conflicts.{unit_for}
use Rattle.scoreboard.specs.Issued.{reservation_of}
use Rattle.scoreboard.specs.Answers.{Standing, reserve_answer}
use Rattle.scoreboard.specs.inner.View.{standing_of}
use Rattle.scoreboard.proofs.changing.Reserving.{first_found, unit_found, reserved_answer, taken_answer, busy_answer}
use Rattle.scoreboard.proofs.changing.Reserving.{is_taken, tried, first_taken}
use Rattle.scoreboard.proofs.board.Board.may_reserve.Goals as goal

pub returns-in_default : goal.returns-in_default
unfolding unit_for
returns-in_default c =
    ap (λ u. Err (UnitBusy u)) c.first_unit.ensures
    ∙ busy_answer c.args.self.now c.args.instr.now _
    (ap (unit_for reservation_of c.args.self.now.issued) (sym c.unit_kind.ensures ∙ c.in_default.is))

pub returns-then-is_some-2 : goal.returns-then-is_some-2
unfolding tried
returns-then-is_some-2 c =
    let tries : c.match-kind.unit ≡ tried (is_taken c.self.inside.units) c.in-Some.kind = grind (arith, first_taken) in
    ap (λ u. Err (UnitBusy u)) c.first_unit-then-is_some-2.ensures
    ∙ busy_answer (standing_of c.self.inside.units c.self.inside.channels c.self.inside.last) c.args.instr.now _
    (unit_found c.self.inside.units c.self.inside.channels c.self.inside.producers c.self.inside.writers
    c.self.inside.last (uses c.args.instr.now).unit c.unit_kind.result c.in-Some.kind c.match-kind.unit
    c.index-self-unit.result c.is_some-2.result true c.self.invariant c.unit_kind.ensures c.in-Some.is tries
    c.is_some-2.ensures c.if-is_some-2.true)
    ∙ ap (λ (s : Standing). reserve_answer s c.args.instr.now (unit_for reservation_of s.issued (uses
    c.args.instr.now).unit))
    c.self.view_is

pub returns-in-Some-first_with_writer : goal.returns-in-Some-first_with_writer
unfolding tried
returns-in-Some-first_with_writer c =
    let tries : c.match-kind.unit ≡ tried (is_taken c.self.inside.units) c.in-Some.kind = grind (arith, first_taken) in
    taken_answer (standing_of c.self.inside.units c.self.inside.channels c.self.inside.last) c.args.instr.now _
    c.match-kind.unit (Some c.in-Some-first_with_writer.register) c.in-Some-first_with_writer.register
    (unit_found c.self.inside.units c.self.inside.channels c.self.inside.producers c.self.inside.writers
    c.self.inside.last (uses c.args.instr.now).unit c.unit_kind.result c.in-Some.kind c.match-kind.unit
    c.index-self-unit.result c.is_some-2.result false c.self.invariant c.unit_kind.ensures c.in-Some.is tries
    c.is_some-2.ensures c.if-is_some-2.false)
    (first_found c.self.inside.units c.self.inside.channels c.self.inside.producers c.self.inside.writers
    c.self.inside.last c.args.instr.now c.as_slice.result.now c.as_slice-2.result.now c.of-taken.result
    (Some c.in-Some-first_with_writer.register) c.self.invariant c.of-taken.ensures.writers
    c.of-taken.ensures.registers (c.as_slice.ensures.value ∙ c.results-results.ensures.shape)
    (c.as_slice-2.ensures.value ∙ c.results-results.ensures.shape)
    (sym c.in-Some-first_with_writer.is ∙ c.first_with_writer.ensures))
    refl
    ∙ ap (λ (s : Standing). reserve_answer s c.args.instr.now (unit_for reservation_of s.issued (uses
    c.args.instr.now).unit))
    c.self.view_is

pub returns-in-None : goal.returns-in-None
unfolding tried
returns-in-None c =
    let tries : c.match-kind.unit ≡ tried (is_taken c.self.inside.units) c.in-Some.kind = grind (arith, first_taken) in
    reserved_answer (standing_of c.self.inside.units c.self.inside.channels c.self.inside.last) c.args.instr.now _
    c.match-kind.unit (c.self.inside.last + 1)
    (unit_found c.self.inside.units c.self.inside.channels c.self.inside.producers c.self.inside.writers
    c.self.inside.last (uses c.args.instr.now).unit c.unit_kind.result c.in-Some.kind c.match-kind.unit
    c.index-self-unit.result c.is_some-2.result false c.self.invariant c.unit_kind.ensures c.in-Some.is tries
    c.is_some-2.ensures c.if-is_some-2.false)
    (sym (first_found c.self.inside.units c.self.inside.channels c.self.inside.producers c.self.inside.writers
    c.self.inside.last c.args.instr.now c.as_slice.result.now c.as_slice-2.result.now c.of-taken.result
    None c.self.invariant c.of-taken.ensures.writers c.of-taken.ensures.registers
    (c.as_slice.ensures.value ∙ c.results-results.ensures.shape)
    (c.as_slice-2.ensures.value ∙ c.results-results.ensures.shape)
    (sym c.in-None.is ∙ c.first_with_writer.ensures)))
    (omega arith)
    ∙ ap (λ (s : Standing). reserve_answer s c.args.instr.now (unit_for reservation_of s.issued (uses
    c.args.instr.now).unit))
    c.self.view_is
