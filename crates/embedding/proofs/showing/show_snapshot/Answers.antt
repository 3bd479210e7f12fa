use Rattle.std.proofs.Common.{rules}
use Rattle.embedding.proofs.showing.show_snapshot.Goals as goal

pub returns : goal.returns
returns c = (
  c.dump_to-written.result,
  c.dump_to-written.new.output.writer.now.items,
  rw (c.new-writer.ensures.writer, c.new-text.ensures.items, c.state.ensures.value, c.log.ensures) at c.dump_to-written.ensures.puts.written,
  search rules,
)
