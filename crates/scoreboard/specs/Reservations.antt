-- One issued instruction: the registers that it has yet to write and to read, and the unit that it holds.
-- Source: Thornton, scoreboard; 60100000, unit and register conflicts.
use Rattle.std.specs.Prelude.{ℕ, Bool, true, false, not, ◌&&◌, List, [], ◌∷◌, Option, Some, None}
use Rattle.instructions.specs.declared.instr.Reg.{Reg}
use Rattle.instructions.specs.declared.instr.Reg.TheVariants.{X}
use Rattle.instructions.specs.declared.instr.Unit.{Unit}
use Rattle.instructions.specs.Shape.{Shape, shape_of, results, is_branch_shape, has_reference, has_store}
use Rattle.instructions.specs.Operands.{sources_of}
use Rattle.scoreboard.specs.declared.reservation.Occupancy.{Occupancy}
use Rattle.scoreboard.specs.declared.reservation.Occupancy.TheVariants.{Reserved, Left}
use Rattle.scoreboard.specs.declared.reservation.Reservation.{Reservation}
use Rattle.instructions.specs.RegisterLists.{is_in}
use Rattle.scoreboard.specs.Units.{same_unit}

-- the instruction holds its unit
unfoldable pub is_reserved : Occupancy → Bool
is_reserved (Reserved has_read) = true
is_reserved (Left returning) = false

-- the X register of this number, which a load is still to write, if there is one
unfoldable pub returning_to : Option ℕ → List Reg
returning_to None = []
returning_to (Some n) = X n ∷ []

-- the results still to come: all of them while the unit is held, then only the X register of a load
unfoldable pub to_come_in : Shape → Occupancy → List Reg
to_come_in shape (Reserved has_read) = results shape
to_come_in shape (Left returning) = returning_to returning

-- the results still to come of the instruction
unfoldable pub to_come : Reservation → List Reg
to_come reservation = to_come_in (shape_of reservation.instr) reservation.occupancy

-- the operands still to be read: all of them before the read, none after it
unfoldable pub reads_in : List Reg → Occupancy → List Reg
reads_in sources (Reserved false) = sources
reads_in sources (Reserved true) = []
reads_in sources (Left returning) = []

-- the operands that the instruction has yet to read
unfoldable pub reads : Reservation → List Reg
reads reservation = reads_in (sources_of reservation.instr) reservation.occupancy

-- the register is a result still to come of the instruction
unfoldable pub comes : Reg → Reservation → Bool
comes register reservation = is_in (to_come reservation) register

-- the register is an operand that the instruction has yet to read
unfoldable pub reads_it : Reg → Reservation → Bool
reads_it register reservation = is_in (reads reservation) register

-- the instruction holds this unit
unfoldable pub holds : Unit → Reservation → Bool
holds unit reservation = same_unit reservation.unit unit && is_reserved reservation.occupancy

-- the instruction is a branch that holds its unit
unfoldable pub is_branch : Reservation → Bool
is_branch reservation = is_reserved reservation.occupancy && is_branch_shape (shape_of reservation.instr)

-- the instruction makes a reference that has not yet had its store event
unfoldable pub has_turn : Reservation → Bool
has_turn reservation = is_reserved reservation.occupancy && has_reference (shape_of reservation.instr)

-- the instruction is an SA6 or SA7 that has not yet had its store event
unfoldable pub has_store_turn : Reservation → Bool
has_store_turn reservation =
    (is_reserved reservation.occupancy && has_store (shape_of reservation.instr))
    && not (is_branch_shape (shape_of reservation.instr))
