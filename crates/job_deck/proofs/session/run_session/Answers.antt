use Rattle.std.proofs.Common.{◌+◌}
use Rattle.std.proofs.lemmas.Result.{err_from_is_err_and}
use Rattle.job_deck.proofs.sessions.Endings.{session_closed, session_stopped}
use Rattle.job_deck.proofs.session.run_session.Goals as goal

pub returns-clause-told : goal.returns-clause-told
returns-clause-told g c =
    session_closed _ _ c.finish.result c.in_ok-drains.drains c.args.machine.now c.answer_lines.new.machine
    (c.args.before + 1) c.args.deck.now.shows (g.O.Output.contents c.args.output.now)
    (g.O.Output.contents c.answer_lines.new.output) (g.O.Output.contents c.finish.new.output)
    c.in_ok-drains.ensures.told c.finish.ensures.closed

pub returns-in_err-drains-clause-told : goal.returns-in_err-drains-clause-told
returns-in_err-drains-clause-told g c =
    let p = err_from_is_err_and c.from_residual.result c.from_residual.ensures.1 in
    rw (p.1, p.2) (session_stopped _ _ _ c.args.machine.now c.answer_lines.new.machine (c.args.before + 1)
    c.args.deck.now.shows (g.O.Output.contents c.args.output.now) (g.O.Output.contents c.answer_lines.new.output)
    c.in_err-drains.ensures.told)
