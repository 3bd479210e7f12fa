-- A name for each list of definitions that a proof opens at once.
use Rattle.instructions.specs.Finding.{found_here, found_further, put_back, seek}
use Rattle.relocation.specs.Saved.{original}
use Rattle.sequential.specs.State.{absolute, bounds_of}
use Rattle.in_flight.specs.Lookup.{in_phase, located, stage_at, stage_in}
use Rattle.in_flight.specs.Pending.{is_unread}
use Rattle.in_flight.specs.Tests.{nothing, refusal_of, tests_found}
use Rattle.program_order.specs.Issue.{fetch_waits, waits_at}
use Rattle.program_order.specs.Events.{after, after_found}
use Rattle.program_order.specs.Peripheral.{word_read}
use Rattle.program_order.specs.Run.{done_by}
use Rattle.program_order.specs.Units.{after_finish, finish_tests, stage_after_finish}
use Rattle.machine.specs.Tokens.{can_claim, reading_at, reading_in}
use Rattle.scoreboard.specs.Units.{same_unit}

-- the condition under which a fetch waits
unfoldable pub waiting_fetch : Unit {0}
unfolding fetch_waits waits_at bounds_of absolute
waiting_fetch = tt

-- the tests of a unit that finishes, and the first refusal among them
unfoldable pub unit_tests : Unit {0}
unfolding refusal_of tests_found nothing located finish_tests
unit_tests = tt

-- whether a seat may claim a reservation
unfoldable pub claiming : Unit {0}
unfolding can_claim same_unit is_unread
claiming = tt

-- the view of a token of the reservation in a slot
unfoldable pub reading : Unit {0}
unfolding reading_in reading_at located
reading = tt

-- an instruction that is written out, found in its unit
unfoldable pub found_in_a_unit : Unit {0}
unfolding seek found_here found_further put_back stage_at stage_in same_unit in_phase
found_in_a_unit = tt

-- the events of a machine with one pending instruction that is written out
unfoldable pub on_one_machine : Unit {0}
unfolding found_in_a_unit reading after after_found after_finish stage_after_finish done_by word_read original
on_one_machine = tt
