use Rattle.embedding.proofs.Copying.{IsCopiedTo}
use Rattle.embedding.proofs.reading.copy_words.Given as goal

abbrev pub invariant-loop-k : goal.invariant-loop-k
invariant-loop-k l = IsCopiedTo l.memory l.words l.fn.words l.first l.k
