use Rattle.std.proofs.Common.{arith}
use Rattle.deck.proofs.DeckLines.{taken_whole, taken_long}
use Rattle.deck.proofs.reading.next_line.Goals as goal

pub returns-in-Whole-clause-ok : goal.returns-in-Whole-clause-ok
returns-in-Whole-clause-ok g c = grind (arith, taken_whole)

pub returns-in-Long-clause-err : goal.returns-in-Long-clause-err
returns-in-Long-clause-err g c =
    let text = rw c.in-Long.is at c.in_ok-read_line.ensures.text in
    let taken = rw c.in-Long.is at c.in_ok-read_line.ensures.ok in
    rw c.with_line_number.ensures (taken_long (g.I.Input.remaining c.args.input.now)
    (g.I.Input.remaining c.read_line.new.input) c.args.number c.read_line.new.line.items text.0 text.1 taken)
