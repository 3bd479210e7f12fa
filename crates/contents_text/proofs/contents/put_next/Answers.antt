use Rattle.sequential.specs.State.{bounds_of}
use Rattle.sequential.specs.Step.{fetch}
use Rattle.device_text.proofs.Putting.{bytes_put, puts_after, puts_cut}
use Rattle.contents_text.specs.Contents.{fetched_text, position_text}
use Rattle.contents_text.proofs.contents.put_next.Goals as goal

pub returns-in_err-put_pieces : goal.returns-in_err-put_pieces
returns-in_err-put_pieces g c =
    puts_cut g.O.Output c.from_residual.result _ c.from_residual.ensures.1 _ _ (position_text c.args.state.now.position) _
    (rw c.position_pieces.ensures at c.in_err-put_pieces.ensures)

pub returns-in_err-put_fetched : goal.returns-in_err-put_fetched
returns-in_err-put_fetched g c =
    let residual = c.from_residual-in_err-put_fetched in
    let s = c.args.state.now in
    puts_after g.O.Output residual.result _ _ _ (position_text s.position) _
    (rw c.position_pieces.ensures at c.in_ok-put_pieces.ensures)
    (puts_cut g.O.Output residual.result _ residual.ensures.1 _ _ (fetched_text (fetch (bounds_of s) s.memory s.position))
    _ (rw c.fetch.ensures at c.in_err-put_fetched.ensures))

pub returns : goal.returns
returns g c =
    let end = c.put.ensures in
    let s = c.args.state.now in
    puts_after g.O.Output c.put.result _ _ _ (position_text s.position) _
    (rw c.position_pieces.ensures at c.in_ok-put_pieces.ensures)
    (puts_after g.O.Output c.put.result _ _ _ (fetched_text (fetch (bounds_of s) s.memory s.position)) _
    (rw c.fetch.ensures at c.in_ok-put_fetched.ensures)
    (bytes_put g.O.Output c.put.result _ _ _ end.written end.failure end.same))
