use Rattle.std.proofs.Common.{rules}
use Rattle.embedding.proofs.contents.show_judgement.Goals as goal

pub returns : goal.returns
returns c = (
  c.put_judgement-written.result,
  c.put_judgement-written.new.output.writer.now.items,
  rw (c.new-writer.ensures.writer, c.new-text.ensures) at c.put_judgement-written.ensures.written,
  search rules,
)
