-- A name for each list of definitions that a proof opens at once.
use Rattle.instructions.specs.Finding.{seek}
use Rattle.scoreboard.specs.Reservations as board
use Rattle.scoreboard.specs.Reservations.{returning_to}
use Rattle.in_flight.specs.Flight.{entering, outstanding_of}
use Rattle.in_flight.specs.Lookup.{enters, in_phase, located}
use Rattle.in_flight.specs.inner.Slots.{channels_with, places_with}
use Rattle.in_flight.specs.Pending.{occupancy_of, reservation_of, returning, to_come}
use Rattle.in_flight.specs.Pending.{delays_fetch, has_read, stores_in}
use Rattle.in_flight.specs.Tests.{refusal_of}
use Rattle.instructions.specs.RegisterLists.{is_in}
use Rattle.instructions.specs.Shape.{has_store, is_branch_shape, sets_of, shape_of}
use Rattle.scoreboard.specs.Conflicts.{to_be_read}
use Rattle.in_flight.proofs.asking.PendingReservations.{comes}

-- the pending instruction that leaves a unit, and the work still to do for it
unfoldable pub leaving : Unit {0}
unfolding located enters outstanding_of entering seek
leaving = tt

-- a register whose result is still to come, by the instruction's phase
unfoldable pub coming : Unit {0}
unfolding comes board.comes to_come board.to_come reservation_of board.to_come_in occupancy_of returning returning_to
coming = tt

-- the places and the channels after an instruction has moved into its place or its channel
unfoldable pub moved_to_its_rest : Unit {0}
unfolding places_with channels_with in_phase
moved_to_its_rest = tt

-- what the board sees of instructions that are written out
unfoldable pub seen_by_the_board : Unit {0}
unfolding reservation_of occupancy_of has_read board.is_reserved board.reads_in board.reads board.reads_it
seen_by_the_board = tt

-- the conflicts and the delays of instructions that are written out
unfoldable pub on_one_list : Unit {0}
unfolding seen_by_the_board shape_of sets_of has_store is_branch_shape is_in to_be_read delays_fetch stores_in board.has_store_turn refusal_of
on_one_list = tt
