use Rattle.std.proofs.Common.{rules}
use Rattle.embedding.proofs.contents.show.Goals as goal

pub returns : goal.returns
returns c = (
  c.put_contents-written.result,
  c.put_contents-written.new.output.writer.now.items,
  rw (c.new-writer.ensures.writer, c.new-text.ensures) at c.put_contents-written.ensures.written,
  search rules,
)
