use Rattle.std.proofs.Common.{Some, arith, rules}
use Rattle.std.proofs.lemmas.Result.{err_from_is_err_and}
use Rattle.in_flight.proofs.answering.Beside.{nothing_there, not_waiting, read_answered, read_refused}
use Rattle.in_flight.proofs.flight.InFlight.may_read.Goals as goal

pub returns-in_default-clause-answer : goal.returns-in_default-clause-answer
returns-in_default-clause-answer c = grind (arith, read_refused, nothing_there)

pub returns-in_default-answer : goal.returns-in_default-answer
returns-in_default-answer c = search (rules, read_refused, not_waiting, c.find_stage.ensures, c.in-Some.is)

pub returns-in_err-may_read-clause-answer : goal.returns-in_err-may_read-clause-answer
returns-in_err-may_read-clause-answer c = grind (arith, read_refused, read_answered, err_from_is_err_and)

pub returns-clause-answer : goal.returns-clause-answer
returns-clause-answer c = grind (arith, read_refused, read_answered)
