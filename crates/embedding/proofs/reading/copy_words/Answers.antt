use Rattle.std.proofs.Common.{◌∙◌, arith}
use Rattle.std.proofs.lemmas.List.{length-drop}
use Rattle.embedding.proofs.Copying.{copied_none, copied_more, copied_all}
use Rattle.embedding.proofs.reading.copy_words.Goals as goal

pub loop-k-init : goal.loop-k-init
loop-k-init c = copied_none c.args.memory.now c.args.words.now c.args.first

pub loop-k-preserved : goal.loop-k-preserved
loop-k-preserved c = copied_more c.args.memory.now c.loop-k.words c.args.words.now c.args.first c.loop-k.k c.get.result c.loop-k.invariant
    (omega (arith, c.loop-k-test.true, c.min-count.ensures)) (omega (arith, c.loop-k-test.true, c.min-count.ensures, c.saturating_sub-there.ensures, c.size.ensures.value))
    (c.get.ensures.value ∙ c.load.ensures)

pub returns-clause-words : goal.returns-clause-words
returns-clause-words c = copied_all c.args.memory.now c.loop-k.words c.args.words.now c.args.first c.loop-k.k c.loop-k.invariant
    (omega (arith, length-drop c.args.first c.args.memory.now, c.loop-k-test.false, c.loop-k.auto.k-end, c.min-count.ensures, c.saturating_sub-there.ensures, c.size.ensures.value))
