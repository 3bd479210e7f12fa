use Rattle.std.proofs.Common.{◌||◌, ap, sym, ◌∙◌}
use Rattle.std.proofs.lemmas.Result.{err_from_is_err_and}
use Rattle.instructions.proofs.Lists.{or_false}
use Rattle.job_deck.proofs.sessions.Unbegun.{replays_refused, unwritten}
use Rattle.job_deck.proofs.replaying.replay_to.Goals as goal

pub returns-in_err-deck-clause-replayed : goal.returns-in_err-deck-clause-replayed
returns-in_err-deck-clause-replayed g c =
    let p = err_from_is_err_and c.from_residual.result c.from_residual.ensures.1 in
    rw (p.1, p.2) (replays_refused _ _ _ c.args.text.now (g.O.Output.contents c.args.output.now)
    c.in_err-deck.ensures.deck)

pub returns-in_err-deck-clause-write : goal.returns-in_err-deck-clause-write
returns-in_err-deck-clause-write g c =
    let p = err_from_is_err_and c.from_residual.result c.from_residual.ensures.1 in
    sym (ap (λ b. g.O.Output.has_failed c.args.output.now || b)
    (unwritten _ _ _ p.1 p.2 c.in_err-deck.ensures.refusals) ∙ or_false _)
