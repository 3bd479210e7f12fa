-- The opcode of an instruction, in its first parcel.
-- Source: 60100000, the descriptions of the instructions; that a refused opcode is named by these digits is ours.
use Rattle.std.specs.Prelude.{ℕ, ◌/◌, ◌%◌, ◌^◌, ◌||◌, ◌==◌, if◌then◌else◌, List, [], ◌∷◌}
use Rattle.instructions.specs.declared.instr.Op.{Op}
use Rattle.instructions.specs.declared.instr.Op.TheVariants.{Plain, Extended}
use Rattle.instructions.specs.declared.instr.Instr.{Instr}
use Rattle.instruction_table.specs.Table.{parcels_of}

-- the opcode of a parcel: its digits f and m, and after 01 and 03 the digit i
abbrev pub op_at : ℕ → Op
op_at parcel =
    if (parcel / 2 ^ 9 == 1) || (parcel / 2 ^ 9 == 3)
    then Extended (parcel / 2 ^ 12) (parcel / 2 ^ 9 % 8) (parcel / 2 ^ 6 % 8)
    else Plain (parcel / 2 ^ 12) (parcel / 2 ^ 9 % 8)

-- the first of an instruction's parcels
abbrev pub first_parcel : List ℕ → ℕ
first_parcel [] = 0
first_parcel (p ∷ ps) = p

-- the opcode of an instruction
unfoldable pub op_of : Instr → Op
op_of instr = op_at (first_parcel (parcels_of instr))
