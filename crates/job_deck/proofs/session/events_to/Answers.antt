use Rattle.std.proofs.Common.{◌||◌, ap, sym, ◌∙◌}
use Rattle.std.proofs.lemmas.Result.{err_from_is_err_and}
use Rattle.instructions.proofs.Lists.{or_false}
use Rattle.job_deck.proofs.sessions.Endings.{performed}
use Rattle.job_deck.proofs.sessions.Unbegun.{performs_refused, performs_unbooted, unwritten}
use Rattle.job_deck.proofs.session.events_to.Goals as goal

pub returns-clause-performed : goal.returns-clause-performed
returns-clause-performed g c =
    performed _ _ _ c.run_session.result c.args.budget _ _ c.in_ok-machine.machine
    (g.O.Output.contents c.args.output.now) (g.O.Output.contents c.run_session.new.output)
    c.in_ok-machine.ensures.machine c.in_ok-machine.ensures.reached c.in_ok-deck.ensures.deck
    c.run_session.ensures.told

pub returns-in_err-deck-clause-performed : goal.returns-in_err-deck-clause-performed
returns-in_err-deck-clause-performed g c =
    let p = err_from_is_err_and c.from_residual.result c.from_residual.ensures.1 in
    rw (p.1, p.2) (performs_refused _ _ _ c.args.budget (g.O.Output.contents c.args.output.now)
    c.in_err-deck.ensures.deck c.in_err-deck.ensures.unread)

pub returns-in_err-machine-clause-performed : goal.returns-in_err-machine-clause-performed
returns-in_err-machine-clause-performed g c =
    let p = err_from_is_err_and c.from_residual-in_err-machine.result c.from_residual-in_err-machine.ensures.1 in
    rw (p.1, p.2, c.in_err-machine.ensures.machine) (performs_unbooted _ _ c.args.budget _ _
    (g.O.Output.contents c.args.output.now) c.in_ok-deck.ensures.deck)

pub returns-in_err-deck-clause-write : goal.returns-in_err-deck-clause-write
returns-in_err-deck-clause-write g c =
    let p = err_from_is_err_and c.from_residual.result c.from_residual.ensures.1 in
    sym (ap (λ b. g.O.Output.has_failed c.args.output.now || b)
    (unwritten _ _ _ p.1 p.2 c.in_err-deck.ensures.refusals) ∙ or_false _)
