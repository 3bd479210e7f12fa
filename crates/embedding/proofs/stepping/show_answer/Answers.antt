use Rattle.std.proofs.Common.{rules}
use Rattle.embedding.proofs.stepping.show_answer.Goals as goal

pub returns : goal.returns
returns c = (
  c.put_answer-written.result,
  c.put_answer-written.new.output.writer.now.items,
  rw (c.new-writer.ensures.writer, c.new-text.ensures) at c.put_answer-written.ensures.puts.written,
  search rules,
)
