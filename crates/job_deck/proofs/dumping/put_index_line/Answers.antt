use Rattle.std.specs.List.{flat_map}
use Rattle.device_text.proofs.Putting.{bytes_after, bytes_cut, bytes_put, puts_cut, puts_after}
use Rattle.job_deck.specs.Dump.{spaced_index}
use Rattle.job_deck.proofs.dumping.put_index_line.Goals as goal

pub returns-in_err-put : goal.returns-in_err-put
returns-in_err-put g c =
    let name = c.in_err-put.ensures in
    bytes_cut g.O.Output c.from_residual.result _ c.from_residual.ensures.1 _ _ c.args.name.now _ name.written
    name.failure name.same

pub returns-in_err-put_indexes : goal.returns-in_err-put_indexes
returns-in_err-put_indexes g c =
    let residual = c.from_residual-in_err-put_indexes in
    let name = c.in_ok-put.ensures in
    bytes_after g.O.Output residual.result _ _ _ c.args.name.now _ name.written name.failure name.same
    (puts_cut g.O.Output residual.result _ residual.ensures.1 _ _ (flat_map spaced_index c.args.indexes.now) _
    c.in_err-put_indexes.ensures)

pub returns : goal.returns
returns g c =
    let result = c.put-2.result in
    let name = c.in_ok-put.ensures in
    let end = c.put-2.ensures in
    bytes_after g.O.Output result _ _ _ c.args.name.now _ name.written name.failure name.same
    (puts_after g.O.Output result _ _ _ (flat_map spaced_index c.args.indexes.now) _ c.in_ok-put_indexes.ensures
    (bytes_put g.O.Output result _ _ _ end.written end.failure end.same))
