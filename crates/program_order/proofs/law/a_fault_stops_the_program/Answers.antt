use Rattle.program_order.proofs.theorem.Headline.{fault_run}
use Rattle.program_order.proofs.reaching.Reached.{fault_reached}
use Rattle.program_order.proofs.law.a_fault_stops_the_program.Goals as goal

pub returns-clause-run : goal.returns-clause-run
returns-clause-run c = fault_run

pub returns-clause-reached : goal.returns-clause-reached
returns-clause-reached c = fault_reached
