-- A name for each list of definitions that proofs open at once.
use Rattle.scoreboard.specs.Reservations as board
use Rattle.scoreboard.specs.Reservations.{is_reserved, returning_to}
use Rattle.in_flight.specs.Pending.{has_read, has_turn, is_branch, occupancy_of, returning, reservation_of, to_come}
use Rattle.in_flight.specs.Lookup.{in_phase}
use Rattle.in_flight.proofs.asking.PendingReservations.{reads}
use Rattle.in_flight.proofs.asking.Phases.{before_and, reads_in, to_come_in}
use Rattle.program_order.specs.Refusals.{is_accept_refusal, is_access_refusal, is_ask_refusal, is_exchange_refusal}
use Rattle.program_order.specs.Refusals.{is_issue_refusal}
use Rattle.program_order.specs.Refusals.{is_nothing, is_read_refusal, is_return_refusal, is_store_refusal, may_refuse}

-- the results of an instruction that are still to come, by its phase
unfoldable pub results_to_come : Unit {0}
unfolding to_come board.to_come reservation_of to_come_in board.to_come_in occupancy_of returning_to returning
results_to_come = tt

-- the operands that an instruction still has to read, by its phase
unfoldable pub operands_to_read : Unit {0}
unfolding reads board.reads reservation_of reads_in board.reads_in occupancy_of has_read
operands_to_read = tt

-- whether an instruction still has a reference to make in turn, and whether it is a branch, by its phase
unfoldable pub turns_and_branches : Unit {0}
unfolding in_phase has_turn board.has_turn is_branch board.is_branch reservation_of before_and occupancy_of is_reserved
turns_and_branches = tt

-- the refusals of events that serve pending instructions
unfoldable pub working_refusals : Unit {0}
unfolding is_nothing is_read_refusal is_store_refusal is_accept_refusal is_return_refusal
working_refusals = tt

-- the refusals of each event
unfoldable pub refusals_by_event : Unit {0}
unfolding may_refuse working_refusals is_issue_refusal is_ask_refusal is_exchange_refusal is_access_refusal
refusals_by_event = tt
