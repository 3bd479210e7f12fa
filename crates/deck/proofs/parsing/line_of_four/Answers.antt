use Rattle.std.proofs.Common.{sym}
use Rattle.deck.proofs.Fields.{too_many}
use Rattle.deck.proofs.parsing.line_of_four.Goals as goal

pub returns : goal.returns
returns c = rw (c.first_part.ensures.parts, c.in-Some.is)
    (sym (too_many c.args.word.now c.args.first.now c.args.second.now c.first_part.result.0.now c.in-Some.field-0.now))
