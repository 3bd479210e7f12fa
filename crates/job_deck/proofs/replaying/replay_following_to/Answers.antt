use Rattle.std.proofs.lemmas.Result.{err_from_is_err_and}
use Rattle.job_deck.proofs.sessions.Unbegun.{follows_unread}
use Rattle.job_deck.proofs.replaying.replay_following_to.Goals as goal

pub returns-in_err-found-clause-replayed : goal.returns-in_err-found-clause-replayed
returns-in_err-found-clause-replayed g c =
    let p = err_from_is_err_and c.from_residual-in_err-found.result c.from_residual-in_err-found.ensures.1 in
    rw (p.1, p.2) (follows_unread _ _ _ _ c.in_ok-deck.deck c.in_ok-deck.field-0-1
    (g.O.Output.contents c.args.output.now) c.in_err-found.ensures.read c.in_ok-deck.ensures.deck c.in_err-found.ensures.within)
