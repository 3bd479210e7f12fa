use Rattle.std.proofs.Common.{◌||◌, ap, sym, ◌∙◌}
use Rattle.std.proofs.lemmas.Result.{err_from_is_err_and}
use Rattle.instructions.proofs.Lists.{or_false}
use Rattle.job_deck.proofs.sessions.Unbegun.{lists_refused, unwritten}
use Rattle.job_deck.proofs.listing.list_to.Goals as goal

pub returns-in_err-deck-clause-listed : goal.returns-in_err-deck-clause-listed
returns-in_err-deck-clause-listed g c =
    let p = err_from_is_err_and c.from_residual.result c.from_residual.ensures.1 in
    rw (p.1, p.2) (lists_refused _ _ _ (g.O.Output.contents c.args.output.now) c.in_err-deck.ensures.deck)

pub returns-in_err-deck-clause-write : goal.returns-in_err-deck-clause-write
returns-in_err-deck-clause-write g c =
    let p = err_from_is_err_and c.from_residual.result c.from_residual.ensures.1 in
    sym (ap (λ b. g.O.Output.has_failed c.args.output.now || b)
    (unwritten _ _ _ p.1 p.2 c.in_err-deck.ensures.refusals) ∙ or_false _)
