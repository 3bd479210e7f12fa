use Rattle.std.proofs.Common.{codes}
use Rattle.device_text.specs.Pieces.{code_text}
use Rattle.device_text.proofs.Putting.{bytes_cut, bytes_after, puts_last}
use Rattle.device_text.proofs.piece.put_reason.Goals as goal

pub returns-in_err-put-in-Illegal : goal.returns-in_err-put-in-Illegal
returns-in_err-put-in-Illegal g c =
    let e = c.in_err-put-in-Illegal.ensures in
    rw c.in-Illegal.is (bytes_cut g.O.Output c.from_residual.result _ c.from_residual.ensures.1 _ _ (codes "illegal ")
    _ e.written e.failure e.same)

pub returns-in_ok-put-in-Illegal : goal.returns-in_ok-put-in-Illegal
returns-in_ok-put-in-Illegal g c =
    let e = c.in_ok-put-in-Illegal.ensures in
    rw c.in-Illegal.is (bytes_after g.O.Output c.put_opcode.result _ _ _ (codes "illegal ") _ e.written e.failure e.same
    (puts_last g.O.Output c.put_opcode.result _ _ (code_text c.in-Illegal.op) c.put_opcode.ensures))
