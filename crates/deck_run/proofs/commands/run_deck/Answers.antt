use Rattle.std.proofs.Common.{◌||◌, ap, sym, ◌∙◌, Err}
use Rattle.std.proofs.lemmas.Result.{err_from_is_err_and}
use Rattle.instructions.proofs.Lists.{or_false}
use Rattle.deck_run.specs.Running.{is_read_fault, is_write_fault}
use Rattle.deck_run.proofs.Runs.{read_told, runs_refused, unwritten}
use Rattle.deck_run.proofs.commands.run_deck.Goals as goal

pub returns-in_err-deck-clause-ran : goal.returns-in_err-deck-clause-ran
returns-in_err-deck-clause-ran g c =
    let p = err_from_is_err_and c.from_residual.result c.from_residual.ensures.1 in
    rw p.1 (runs_refused _ _ _ p.0 c.args.budget (g.O.Output.contents c.args.output.now) p.2
    c.in_err-deck.ensures.deck)

pub returns-in_err-deck-clause-read : goal.returns-in_err-deck-clause-read
returns-in_err-deck-clause-read g c =
    let p = err_from_is_err_and c.from_residual.result c.from_residual.ensures.1 in
    c.in_err-deck.ensures.failure ∙ ap (λ b. g.I.Input.has_failed c.args.input.now || b)
    (read_told _ ∙ sym (ap (λ f. is_read_fault (Err f)) p.2) ∙ sym (ap is_read_fault p.1))

pub returns-in_err-deck-clause-write : goal.returns-in_err-deck-clause-write
returns-in_err-deck-clause-write g c =
    let p = err_from_is_err_and c.from_residual.result c.from_residual.ensures.1 in
    sym (ap (λ b. g.O.Output.has_failed c.args.output.now || b)
    (ap is_write_fault p.1 ∙ ap (λ f. is_write_fault (Err f)) p.2 ∙ unwritten _ c.in_err-deck.ensures.refusals)
    ∙ or_false _)
