use Rattle.std.proofs.Common.{rules}
use Rattle.embedding.proofs.stepping.show_event.Goals as goal

pub returns : goal.returns
returns c = (
  c.put_event-written.result,
  c.put_event-written.new.output.writer.now.items,
  rw (c.new-writer.ensures.writer, c.new-text.ensures) at c.put_event-written.ensures.written,
  search rules,
)
