-- A turn with an exchange: refused for its range, or one turn of the run.
use Rattle.std.proofs.Common.{rules, refl, arith}
use Rattle.std.proofs.lemmas.Result.{err_from_is_err_and}
use Rattle.sequential_run.proofs.Going.{exchange_refused, exchange_goes, exchange_keeps}
use Rattle.sequential_run.proofs.course.Course.turn.Goals as goal

pub returns-in_err-exchange-clause-gone : goal.returns-in_err-exchange-clause-gone
returns-in_err-exchange-clause-gone c = grind (arith, exchange_refused, err_from_is_err_and)

pub returns-clause-gone : goal.returns-clause-gone
returns-clause-gone c = exchange_goes c.args.budget c.args.self.now _ c.in-Some.at c.in-Some.is
    (search rules) c.in_ok-exchange.ensures.answer c.in_ok-exchange.ensures.after (search rules) c.exchanged-2.ensures.left refl refl

pub returns-clause-kept : goal.returns-clause-kept
returns-clause-kept c = exchange_keeps c.args.budget c.args.self.now _ c.in-Some.at c.requires.kept (search rules)
    c.exchanged-2.ensures.issued c.exchanged-2.ensures.is_waiting
