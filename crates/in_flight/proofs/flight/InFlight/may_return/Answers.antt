use Rattle.std.proofs.Common.{rules, arith}
use Rattle.in_flight.proofs.answering.Beside.{nothing_there, return_answered}
use Rattle.in_flight.proofs.flight.InFlight.may_return.Goals as goal

pub returns-in_default-clause-answer : goal.returns-in_default-clause-answer
returns-in_default-clause-answer c = grind (arith, nothing_there)

pub returns-in_err-may_return-clause-answer : goal.returns-in_err-may_return-clause-answer
returns-in_err-may_return-clause-answer c = search (rules, return_answered)

pub returns-clause-answer : goal.returns-clause-answer
returns-clause-answer c = grind (arith, return_answered)
