use Rattle.std.proofs.Common.{codes}
use Rattle.sequential.specs.Log.{entries_of}
use Rattle.job_deck.specs.Dump.{log_line}
use Rattle.device_text.proofs.Putting.{bytes_after, bytes_cut, puts_last}
use Rattle.job_deck.proofs.ending.put_not_drained.Goals as goal

pub returns-in_err-put : goal.returns-in_err-put
returns-in_err-put g c =
    let e = c.in_err-put.ensures in
    bytes_cut g.O.Output c.from_residual.result _ c.from_residual.ensures.1 _ _ (codes "NOT DRAINED\n") _ e.written
    e.failure e.same

pub returns : goal.returns
returns g c =
    let e = c.in_ok-put.ensures in
    let line = rw (c.entries.ensures.shortest, c.log.ensures) at c.put_log_line.ensures in
    bytes_after g.O.Output c.put_log_line.result _ _ _ (codes "NOT DRAINED\n") _ e.written e.failure e.same
    (puts_last g.O.Output c.put_log_line.result _ _ (log_line (entries_of c.args.machine.now.log)) line)
