-- Third order at a return: reservations with a lower number, compared with the board's list.
use Rattle.std.proofs.Common.{ap, sym, ◌∙◌, None, get_or, true, false, arith}
use Rattle.std.specs.List.{list_any}
use Rattle.instructions.specs.Finding.{seek}
use Rattle.scoreboard.specs.Answers.{Standing, return_answer, returning_by, unless}
use Rattle.scoreboard.specs.inner.Fields.{slot_reads}
use Rattle.instructions.specs.declared.instr.Reg.TheVariants.{X}
use Rattle.instructions.specs.declared.refusal.Refusal.TheVariants.{ResultHeld}
use Rattle.instructions.proofs.Slots.{slot_any}
use Rattle.scoreboard.proofs.in_slots.Standing.{nobody_returning, return_answered, no_slot}
use Rattle.scoreboard.proofs.board.Board.may_return.Goals as goal

pub returns-in_default : goal.returns-in_default
unfolding return_answer
returns-in_default c =
    ap (return_answer c.args.channel)
    (sym (nobody_returning c.self.inside.units c.self.inside.channels c.self.inside.producers c.self.inside.writers
    c.self.inside.last c.args.channel c.self.invariant
    (ap (λ k. get_or c.self.inside.channels k None) (sym c.from.ensures)
    ∙ slot_any c.self.inside.channels c.from.result c.index-self-from.result
    (omega (arith, c.requires, c.from.ensures, c.self.invariant.all_channels))
    ∙ no_slot (get_or c.self.inside.channels c.from.result c.index-self-from.result) c.in_default.not-Some)))
    ∙ ap (λ (s : Standing). return_answer c.args.channel (seek (returning_by c.args.channel) s.issued)) c.self.view_is

pub returns-then-is_still_read : goal.returns-then-is_still_read
returns-then-is_still_read c =
    ap (λ k. unless true (ResultHeld (X k))) c.digit.ensures
    ∙ return_answered c.self.inside.units c.self.inside.channels c.self.inside.producers c.self.inside.writers
    c.self.inside.last c.args.channel c.in-Some.load true c.self.invariant c.requires
    (ap (λ k. get_or c.self.inside.channels k None) (sym c.from.ensures)
    ∙ slot_any c.self.inside.channels c.from.result c.index-self-from.result
    (omega (arith, c.requires, c.from.ensures, c.self.invariant.all_channels))
    ∙ c.in-Some.is)
    (sym c.if-is_still_read.true ∙ c.is_still_read.ensures
    ∙ ap (λ k. list_any (slot_reads c.in-Some.load.number (X k)) c.self.inside.units) c.digit.ensures)
    ∙ ap (λ (s : Standing). return_answer c.args.channel (seek (returning_by c.args.channel) s.issued)) c.self.view_is

pub returns-else-is_still_read : goal.returns-else-is_still_read
returns-else-is_still_read c =
    return_answered c.self.inside.units c.self.inside.channels c.self.inside.producers c.self.inside.writers
    c.self.inside.last c.args.channel c.in-Some.load false c.self.invariant c.requires
    (ap (λ k. get_or c.self.inside.channels k None) (sym c.from.ensures)
    ∙ slot_any c.self.inside.channels c.from.result c.index-self-from.result
    (omega (arith, c.requires, c.from.ensures, c.self.invariant.all_channels))
    ∙ c.in-Some.is)
    (sym c.if-is_still_read.false ∙ c.is_still_read.ensures
    ∙ ap (λ k. list_any (slot_reads c.in-Some.load.number (X k)) c.self.inside.units) c.digit.ensures)
    ∙ ap (λ (s : Standing). return_answer c.args.channel (seek (returning_by c.args.channel) s.issued)) c.self.view_is
