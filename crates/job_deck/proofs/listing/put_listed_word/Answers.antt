use Rattle.device_text.proofs.Putting.{bytes_put, puts_cut, puts_after}
use Rattle.job_deck.specs.Listing.{placed_word, items_text}
use Rattle.job_deck.proofs.listing.put_listed_word.Goals as goal

pub returns-in_err-put_pieces : goal.returns-in_err-put_pieces
returns-in_err-put_pieces g c =
    puts_cut g.O.Output c.from_residual.result _ c.from_residual.ensures.1 _ _
    (placed_word c.args.address c.args.word) _ (rw c.placed_word.ensures at c.in_err-put_pieces.ensures)

pub returns-in_err-put_items : goal.returns-in_err-put_items
returns-in_err-put_items g c =
    let residual = c.from_residual-in_err-put_items in
    puts_after g.O.Output residual.result _ _ _ (placed_word c.args.address c.args.word) _
    (rw c.placed_word.ensures at c.in_ok-put_pieces.ensures)
    (puts_cut g.O.Output residual.result _ residual.ensures.1 _ _ (items_text c.args.word) _
    c.in_err-put_items.ensures)

pub returns : goal.returns
returns g c =
    let end = c.put.ensures in
    puts_after g.O.Output c.put.result _ _ _ (placed_word c.args.address c.args.word) _
    (rw c.placed_word.ensures at c.in_ok-put_pieces.ensures)
    (puts_after g.O.Output c.put.result _ _ _ (items_text c.args.word) _ c.in_ok-put_items.ensures
    (bytes_put g.O.Output c.put.result _ _ _ end.written end.failure end.same))
