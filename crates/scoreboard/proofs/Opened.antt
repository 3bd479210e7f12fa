-- A name for each list of definitions that a proof opens at once.
use Rattle.instructions.specs.Finding.{seek, found_here, found_further}
use Rattle.instructions.specs.RegisterLists.{is_in}
use Rattle.instructions.specs.Shape.{shape_of, sets_of, loads_of, results}
use Rattle.scoreboard.specs.Answers.{held_in, read_answer, reserve_answer, new_issued}
use Rattle.scoreboard.specs.Conflicts.{awaited}
use Rattle.scoreboard.specs.Issued.{reservation_of}
use Rattle.scoreboard.specs.Reservations.{is_reserved, to_come_in, to_come, comes, holds}
use Rattle.scoreboard.specs.Units.{first_unit, head_unit, units_of, same_unit}
use Rattle.scoreboard.specs.Writers.{same_writer, is_expected, writer_at, writer_if}

-- the first unit of a kind
unfoldable pub first_of_kind : Unit {0}
unfolding first_unit head_unit units_of
first_of_kind = tt

-- the writer of one register, if there is one
unfoldable pub writer_of_one : Unit {0}
unfolding writer_if writer_at
writer_of_one = tt

-- whether a writer is expected
unfoldable pub expecting : Unit {0}
unfolding is_expected same_writer same_unit
expecting = tt

-- the registers that an instruction sets, and an instruction found in a list
unfoldable pub of_instructions : Unit {0}
unfolding seek found_here found_further is_in shape_of sets_of loads_of results
of_instructions = tt

-- the conflicts of instructions that are written out
unfoldable pub of_conflicts : Unit {0}
unfolding of_instructions awaited is_reserved to_come_in to_come comes holds same_unit reservation_of
of_conflicts = tt

-- the answers of a board that is written out
unfoldable pub on_one_board : Unit {0}
unfolding of_conflicts held_in read_answer reserve_answer new_issued
on_one_board = tt
