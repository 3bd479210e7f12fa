use Rattle.std.proofs.Common.{◌≡◌, true, inr, refl, rules}
use Rattle.std.proofs.lemmas.Result.{err_from_is_err_and}
use Rattle.in_flight.specs.Lookup.{is_pending}
use Rattle.job_deck.specs.Session.{not_drained_text}
use Rattle.job_deck.proofs.ending.put_end.Goals as goal

pub returns-in_err-print_not_drained-clause-closed : goal.returns-in_err-print_not_drained-clause-closed
returns-in_err-print_not_drained-clause-closed g c =
    let pending : is_pending c.args.machine.now.pending ≡ true = search rules in
    let p = err_from_is_err_and c.from_residual.result c.from_residual.ensures.1 in
    rw (p.1, p.2)
    (not_drained_text c.args.machine.now, inr (pending, refl), c.in_err-print_not_drained.ensures.puts.written)
