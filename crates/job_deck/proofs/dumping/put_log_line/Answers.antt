use Rattle.std.proofs.Common.{codes}
use Rattle.device_text.proofs.Putting.{bytes_after, bytes_cut, bytes_put, puts_cut, puts_after}
use Rattle.job_deck.specs.Dump.{log_text}
use Rattle.job_deck.proofs.dumping.put_log_line.Goals as goal

pub returns-in_err-put : goal.returns-in_err-put
returns-in_err-put g c =
    let name = c.in_err-put.ensures in
    bytes_cut g.O.Output c.from_residual.result _ c.from_residual.ensures.1 _ _ (codes "LOG") _ name.written
    name.failure name.same

pub returns-in_err-put_log : goal.returns-in_err-put_log
returns-in_err-put_log g c =
    let residual = c.from_residual-in_err-put_log in
    let name = c.in_ok-put.ensures in
    bytes_after g.O.Output residual.result _ _ _ (codes "LOG") _ name.written name.failure name.same
    (puts_cut g.O.Output residual.result _ residual.ensures.1 _ _ (log_text c.args.entries.now) _
    c.in_err-put_log.ensures)

pub returns : goal.returns
returns g c =
    let result = c.put-2.result in
    let name = c.in_ok-put.ensures in
    let end = c.put-2.ensures in
    bytes_after g.O.Output result _ _ _ (codes "LOG") _ name.written name.failure name.same
    (puts_after g.O.Output result _ _ _ (log_text c.args.entries.now) _ c.in_ok-put_log.ensures
    (bytes_put g.O.Output result _ _ _ end.written end.failure end.same))
