use Rattle.device_text.proofs.Putting.{puts_cut, puts_after}
use Rattle.job_deck.specs.AnswerText.{answer_line}
use Rattle.contents_text.proofs.holding.put_judged.Goals as goal

pub returns-in_err-put_answer : goal.returns-in_err-put_answer
returns-in_err-put_answer g c =
    puts_cut g.O.Output c.from_residual.result _ c.from_residual.ensures.1 _ _ (answer_line c.args.answer.now) _
    c.in_err-put_answer.ensures.puts

pub returns : goal.returns
returns g c =
    puts_after g.O.Output c.put_holders_of.result _ _ _ (answer_line c.args.answer.now) _
    c.in_ok-put_answer.ensures.puts c.put_holders_of.ensures
