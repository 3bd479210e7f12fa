-- The board's answers about a reservation, put as questions to the pending instruction.
use Rattle.std.specs.Prelude.{Bool, List}
use Rattle.instructions.specs.declared.instr.Reg.{Reg}
use Rattle.instructions.specs.declared.instr.Unit.{Unit as FunctionalUnit}
use Rattle.scoreboard.specs.Reservations as reservation
use Rattle.in_flight.specs.declared.pending.Pending.{Pending}
use Rattle.in_flight.specs.Pending.{reservation_of}

-- the operands that the instruction still has to read
unfoldable pub reads : Pending → List Reg
reads m = reservation.reads (reservation_of m)

-- whether the register is a result still to come of the instruction
unfoldable pub comes : Reg → Pending → Bool
comes register m = reservation.comes register (reservation_of m)

-- whether the register is an operand that the instruction still has to read
unfoldable pub reads_it : Reg → Pending → Bool
reads_it register m = reservation.reads_it register (reservation_of m)

-- whether the instruction holds the unit
unfoldable pub holds : FunctionalUnit → Pending → Bool
holds unit m = reservation.holds unit (reservation_of m)
