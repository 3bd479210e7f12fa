use Rattle.std.proofs.Common.{◌||◌, ap, sym, ◌∙◌}
use Rattle.std.proofs.lemmas.Result.{err_from_is_err_and}
use Rattle.instructions.proofs.Lists.{or_false}
use Rattle.log_text.specs.LogText.{steps_of_log}
use Rattle.job_deck.proofs.printing.Refused.{refused_printed, refused_unwritten}
use Rattle.job_deck.proofs.replaying.print_log.Goals as goal

pub returns-in_err-replay-clause-printed : goal.returns-in_err-replay-clause-printed
returns-in_err-replay-clause-printed g c =
    let p = err_from_is_err_and c.from_residual-in_err-replay.result c.from_residual-in_err-replay.ensures.1 in
    rw (p.1, p.2) (refused_printed _ c.args.deck.now (steps_of_log c.args.found) c.in_ok-memory.memory
    c.boot-state.result
    c.replay.new.state c.in-Some.log.steps (g.O.Output.contents c.args.output.now)
    (ap steps_of_log c.in-Some.is) (c.in_ok-memory.ensures ∙ c.memory.ensures) c.boot-state.ensures
    c.in_err-replay.ensures.answer c.in_err-replay.ensures.refused)

pub returns-in_err-replay-clause-failure : goal.returns-in_err-replay-clause-failure
returns-in_err-replay-clause-failure g c =
    let p = err_from_is_err_and c.from_residual-in_err-replay.result c.from_residual-in_err-replay.ensures.1 in
    rw (p.1, p.2) (sym (ap (λ b. g.O.Output.has_failed c.args.output.now || b)
    (refused_unwritten _ c.boot-state.result c.replay.new.state c.in-Some.log.steps
    c.in_err-replay.ensures.refused) ∙ or_false _))
