use Rattle.std.proofs.Common.{◌||◌, ap, sym, ◌∙◌}
use Rattle.std.proofs.lemmas.Result.{err_from_is_err_and}
use Rattle.instructions.proofs.Lists.{or_false}
use Rattle.job_deck.proofs.sessions.Unbegun.{unwritten}
use Rattle.job_deck.proofs.Judged.{runs_of_deck}
use Rattle.job_deck.proofs.Unread.{runs_refused}
use Rattle.job_deck.proofs.running.run_sequentially_to.Goals as goal

pub returns-in_err-deck-clause-ran : goal.returns-in_err-deck-clause-ran
returns-in_err-deck-clause-ran g c =
    let p = err_from_is_err_and c.from_residual.result c.from_residual.ensures.1 in
    rw (p.1, p.2) (runs_refused _ _ _ c.args.budget (g.O.Output.contents c.args.output.now) c.in_err-deck.ensures.deck)

pub returns-in_err-deck-clause-write : goal.returns-in_err-deck-clause-write
returns-in_err-deck-clause-write g c =
    let p = err_from_is_err_and c.from_residual.result c.from_residual.ensures.1 in
    sym (ap (λ b. g.O.Output.has_failed c.args.output.now || b)
    (unwritten _ _ _ p.1 p.2 c.in_err-deck.ensures.refusals) ∙ or_false _)

pub returns-clause-ran : goal.returns-clause-ran
returns-clause-ran g c =
    runs_of_deck _ _ c.print_run.result c.in_ok-deck.deck c.in_ok-deck.field-0-1 c.args.budget
    (g.O.Output.contents c.args.output.now) _ c.in_ok-deck.ensures.deck c.print_run.ensures.printed
