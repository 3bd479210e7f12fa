use Rattle.instructions.specs.Refusals.{label_of}
use Rattle.device_text.proofs.Putting.{bytes_put, puts_cut, puts_after}
use Rattle.job_deck.specs.AnswerText.{named_text}
use Rattle.job_deck.proofs.answering.put_refusal.Goals as goal

pub returns-in_err-put_label : goal.returns-in_err-put_label
returns-in_err-put_label g c =
    puts_cut g.O.Output c.from_residual.result _ c.from_residual.ensures.1 _ _ (label_of c.args.refusal.now) _
    c.in_err-put_label.ensures

pub returns-in_err-put_named : goal.returns-in_err-put_named
returns-in_err-put_named g c =
    let residual = c.from_residual-in_err-put_named in
    puts_after g.O.Output residual.result _ _ _ (label_of c.args.refusal.now) _ c.in_ok-put_label.ensures
    (puts_cut g.O.Output residual.result _ residual.ensures.1 _ _ (named_text c.args.refusal.now) _
    c.in_err-put_named.ensures)

pub returns : goal.returns
returns g c =
    let end = c.put.ensures in
    puts_after g.O.Output c.put.result _ _ _ (label_of c.args.refusal.now) _ c.in_ok-put_label.ensures
    (puts_after g.O.Output c.put.result _ _ _ (named_text c.args.refusal.now) _ c.in_ok-put_named.ensures
    (bytes_put g.O.Output c.put.result _ _ _ end.written end.failure end.same))
