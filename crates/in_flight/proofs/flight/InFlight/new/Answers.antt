use Rattle.std.proofs.Common.{rules}
use Rattle.in_flight.proofs.answering.Beside.{new_tied}
use Rattle.in_flight.proofs.flight.InFlight.new.Goals as goal

pub invariant_of-result : goal.invariant_of-result
invariant_of-result c = search (rules, new_tied, c.new.ensures, c.new-3.ensures, c.new-2.ensures)
