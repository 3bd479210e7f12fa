use Rattle.std.specs.Prelude.{◌≡◌}
use Rattle.std.proofs.Common.{rules}
use Rattle.embedding.proofs.showing.show_log.Goals as goal

pub returns : goal.returns
returns c =
    let written = c.put_log-written in
    let same : c.as_slice.result.now ≡ written.new.output.writer.now.items = search rules in (
      written.result,
      written.new.output.writer.now.items,
      rw (c.new-writer.ensures.writer, c.new-text.ensures.items, c.entries.ensures.shortest, c.log.ensures) at
          written.ensures.written,
      rw (c.written_end.ensures, c.after_space.ensures, same) at c.hand_over.ensures,
    )
