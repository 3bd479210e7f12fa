-- One instruction in a unit, for the machines that exclude a wrong body. Source: ours.
use Rattle.std.specs.Prelude.{ℕ}
use Rattle.instructions.specs.declared.instr.Instr.TheVariants.{Copy}
use Rattle.instructions.specs.declared.instr.Unit.TheVariants.{Boolean}
use Rattle.unit_ops.specs.declared.Operands.{Operands}
use Rattle.in_flight.specs.declared.pending.Pending.{Pending}
use Rattle.in_flight.specs.declared.pending.Phase.TheVariants.{Before}
use Rattle.in_flight.specs.declared.pending.Stage.{Stage}
use Rattle.machine.specs.Tokens.{Seating, Reading}

-- reservation 1, BX1 X2 in Boolean, at this stage
abbrev pub copy_at : Stage → Pending
copy_at stage = record { instr = Copy 1 2; at = 0o100; number = 1; unit = Boolean; phase = Before stage }

-- its operands, if X2 has this value
abbrev pub operands_of : ℕ → Operands
operands_of x2 = record { first = x2; second = 0; outgoing = 0; place = 0o100 }

-- the view of a token with these operands for a reservation of this number
abbrev pub token_with : Seating → ℕ → Operands → Reading
token_with seat number operands =
    record { seat = seat; number = number; instr = Copy 1 2; operands = operands }
