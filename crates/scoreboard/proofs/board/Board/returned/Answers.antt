-- A return: the invariant and the list after it. For an empty channel nothing changes.
use Rattle.std.proofs.Common.{rules, ap, sym, ◌∙◌, ◌++◌, subst, None, get_or, set, arith}
use Rattle.instructions.specs.declared.instr.Reg.TheVariants.{X}
use Rattle.scoreboard.specs.declared.writer.Writer.TheVariants.{OfChannel}
use Rattle.instructions.specs.Finding.{seek, replaced}
use Rattle.instructions.proofs.Slots.{slot_any}
use Rattle.scoreboard.specs.Answers.{Standing, returning_by, with_issued, gone}
use Rattle.scoreboard.specs.inner.Fields.{forget_in_taken}
use Rattle.scoreboard.specs.inner.View.{standing_of, IsRight}
use Rattle.scoreboard.specs.Writers.{set_writer}
use Rattle.scoreboard.proofs.changing.Right.{AreForgotten, returned_right, returned_last, returned_others}
use Rattle.scoreboard.proofs.changing.Changing.{nobody_returned, returned_view}
use Rattle.scoreboard.proofs.board.Board.returned.Goals as goal

pub returns-in_default : goal.returns-in_default
returns-in_default c =
    sym c.self.view_is
    ∙ nobody_returned gone c.self.inside.units c.self.inside.channels c.self.inside.producers c.self.inside.writers
    c.self.inside.last c.args.channel c.self.invariant
    (ap (λ k. get_or c.self.inside.channels k None) (sym c.from-index.ensures)
    ∙ slot_any c.self.inside.channels c.from-index.result c.index-self-index.result
    (omega (arith, c.requires, c.from-index.ensures, c.self.invariant.all_channels)) ∙ c.in_default.is)
    ∙ ap (λ (s : Standing). with_issued s (replaced (seek (returning_by c.args.channel) s.issued) s.issued gone))
    c.self.view_is

pub invariant_of-self : goal.invariant_of-self
invariant_of-self c =
    subst (λ i. IsRight c.self.inside.units (set c.self.inside.channels i None) c.forget_in_taken.new.producers
    c.set.new.self c.self.inside.last) (sym c.from-index.ensures)
    (subst (λ ws. IsRight c.self.inside.units (set c.self.inside.channels c.args.channel None)
    c.forget_in_taken.new.producers ws c.self.inside.last) (sym
    (c.set.ensures.value ∙ ap (λ d. set_writer c.self.inside.writers (X d) None) c.digit-number.ensures))
    (returned_right c.self.inside.units c.self.inside.channels c.self.inside.producers c.self.inside.writers
    c.self.inside.last c.args.channel c.in-Some.issued c.self.invariant c.requires
    (ap (λ k. get_or c.self.inside.channels k None) (sym c.from-index.ensures)
    ∙ slot_any c.self.inside.channels c.from-index.result c.index-self-index.result
    (omega (arith, c.requires, c.from-index.ensures, c.self.invariant.all_channels)) ∙ c.in-Some.is)
    c.forget_in_taken.new.producers
    (subst (AreForgotten (OfChannel c.args.channel) (c.self.inside.units ++ c.self.inside.channels)
    c.self.inside.units) (sym (c.forget_in_taken.ensures
    ∙ ap (λ d. forget_in_taken (OfChannel d) c.self.inside.units c.self.inside.producers) c.digit-number.ensures))
    (returned_others c.self.inside.units c.self.inside.channels c.self.inside.producers c.self.inside.writers
    c.self.inside.last c.args.channel c.self.invariant))))

pub invariant_of-self-else-issued-self : goal.invariant_of-self-else-issued-self
invariant_of-self-else-issued-self c =
    subst (λ i. IsRight c.self.inside.units (set c.self.inside.channels i None) c.self.inside.producers c.set.new.self
    c.self.inside.last) (sym c.from-index.ensures)
    (subst (λ ws. IsRight c.self.inside.units (set c.self.inside.channels c.args.channel None) c.self.inside.producers
    ws c.self.inside.last) (sym (c.set.ensures.value
    ∙ ap (λ d. set_writer c.self.inside.writers (X d) None) c.digit-number.ensures))
    (returned_right c.self.inside.units c.self.inside.channels c.self.inside.producers c.self.inside.writers
    c.self.inside.last c.args.channel c.in-Some.issued c.self.invariant c.requires
    (ap (λ k. get_or c.self.inside.channels k None) (sym c.from-index.ensures)
    ∙ slot_any c.self.inside.channels c.from-index.result c.index-self-index.result
    (omega (arith, c.requires, c.from-index.ensures, c.self.invariant.all_channels)) ∙ c.in-Some.is)
    c.self.inside.producers
    (returned_last c.self.inside.units c.self.inside.channels c.self.inside.producers c.self.inside.writers
    c.self.inside.last c.args.channel c.in-Some.issued c.self.invariant c.requires
    (ap (λ k. get_or c.self.inside.channels k None) (sym c.from-index.ensures)
    ∙ slot_any c.self.inside.channels c.from-index.result c.index-self-index.result
    (omega (arith, c.requires, c.from-index.ensures, c.self.invariant.all_channels))
    ∙ c.in-Some.is) (search rules))))

pub returns-then-issued-self : goal.returns-then-issued-self
returns-then-issued-self c =
    ap (λ i. standing_of c.self.inside.units (set c.self.inside.channels i None) c.self.inside.last)
    c.from-index.ensures
    ∙ returned_view c.self.inside.units c.self.inside.channels c.self.inside.producers c.self.inside.writers
    c.self.inside.last c.args.channel c.in-Some.issued c.self.invariant c.requires
    (ap (λ k. get_or c.self.inside.channels k None) (sym c.from-index.ensures)
    ∙ slot_any c.self.inside.channels c.from-index.result c.index-self-index.result
    (omega (arith, c.requires, c.from-index.ensures, c.self.invariant.all_channels)) ∙ c.in-Some.is)
    ∙ ap (λ (s : Standing). with_issued s (replaced (seek (returning_by c.args.channel) s.issued) s.issued gone))
    c.self.view_is

pub returns-else-issued-self : goal.returns-else-issued-self
returns-else-issued-self c =
    ap (λ i. standing_of c.self.inside.units (set c.self.inside.channels i None) c.self.inside.last)
    c.from-index.ensures
    ∙ returned_view c.self.inside.units c.self.inside.channels c.self.inside.producers c.self.inside.writers
    c.self.inside.last c.args.channel c.in-Some.issued c.self.invariant c.requires
    (ap (λ k. get_or c.self.inside.channels k None) (sym c.from-index.ensures)
    ∙ slot_any c.self.inside.channels c.from-index.result c.index-self-index.result
    (omega (arith, c.requires, c.from-index.ensures, c.self.invariant.all_channels)) ∙ c.in-Some.is)
    ∙ ap (λ (s : Standing). with_issued s (replaced (seek (returning_by c.args.channel) s.issued) s.issued gone))
    c.self.view_is
