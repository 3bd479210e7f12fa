use Rattle.std.proofs.Common.{rules, tests, ◌∙◌}
use Rattle.std.proofs.lemmas.Iterator.{YieldsList-from_slice}
use Rattle.std.proofs.lemmas.Iterator.Search.{find_from_yields_List}
use Rattle.contents_text.specs.Contents.{awaits}
use Rattle.contents_text.proofs.conflicts.writer_for.Goals as goal

pub returns : goal.returns
returns c =
    c.copied.ensures
    ∙ find_from_yields_List (awaits c.args.reader.now c.args.register.now) c.find.new.self _ _ c.find.ensures.ran
    (YieldsList-from_slice c.args.pending.now cc) (λ x b q k. search (rules, tests))
