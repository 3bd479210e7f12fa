-- Words that the table decodes as one instruction: the fields that the instruction uses agree, and its unused fields
-- may hold anything.
-- Source: 60100000, the descriptions of the instructions; that unused fields are ignored is ours.
use Rattle.std.specs.Prelude.{◌≡◌, ◌≢◌, ℕ, zero, suc, ◌+◌, ◌-◌, ◌*◌, ◌/◌, ◌%◌, ◌^◌, List, [], ◌∷◌}
use Rattle.parcel.specs.Parcels.{parcel_at}
use Rattle.instructions.specs.declared.instr.Instr.{Instr}
use Rattle.instructions.specs.declared.instr.Instr.TheVariants.{Stop, Pass, ReturnJump, Jump, Copy, Invert, CountOnes}
use Rattle.instructions.specs.declared.instr.Op.{Op}
use Rattle.instruction_table.specs.declared.decoding.Decoded.{Decoded}
use Rattle.instruction_table.specs.declared.decoding.Decoded.TheVariants.{Legal, Refused, Straddle}
use Rattle.instruction_table.specs.Table.{parcels_of, IsInstr}
use Rattle.instruction_table.specs.Opcode.{op_at, op_of}

-- a parcel with zeros in i, j and k
abbrev pub code_alone : ℕ → ℕ
code_alone parcel = parcel / 8 ^ 3 * 8 ^ 3

-- a parcel with zeros in j
abbrev pub without_j : ℕ → ℕ
without_j parcel = parcel / 8 ^ 2 * 8 ^ 2 + parcel % 8

-- a parcel with zeros in k
abbrev pub without_k : ℕ → ℕ
without_k parcel = parcel / 8 * 8

-- a first parcel with zeros in the fields that the instruction doesn't use
abbrev pub used_fields : Instr → ℕ → ℕ
used_fields Stop parcel = code_alone parcel
used_fields Pass parcel = code_alone parcel
used_fields (ReturnJump K) parcel = without_j parcel
used_fields (Jump i K) parcel = without_j parcel
used_fields (Copy i j) parcel = without_k parcel
used_fields (Invert i k) parcel = without_j parcel
used_fields (CountOnes i k) parcel = without_j parcel
used_fields instr parcel = parcel

-- the parcels of an instruction, with zeros in the unused fields of the first parcel
abbrev pub used_in : Instr → List ℕ → List ℕ
used_in instr [] = []
used_in instr (parcel ∷ rest) = used_fields instr parcel ∷ rest

-- the parcels agree with the instruction's row, apart from its unused fields
abbrev pub IsReadAs : Instr → List ℕ → Type 0
IsReadAs instr parcels = IsInstr instr × (used_in instr parcels ≡ parcels_of instr)

-- no instruction has the opcode
abbrev pub IsNoCode : Op → Type 0
IsNoCode op = (instr : Instr) → IsInstr instr → op_of instr ≢ op

-- n consecutive parcels of a word, from a position on
abbrev pub parcels_from : ℕ → ℕ → ℕ → List ℕ
parcels_from word position zero = []
parcels_from word position (suc n) = parcel_at word position ∷ parcels_from word (position + 1) n

-- The result of decoding at a position agrees with the table. An instruction has the parcels of its row. A refused
-- opcode is the one at the position, and no row has it. A straddle is in parcel 3, and some instruction of two parcels
-- has this parcel if its second parcel is zero.
abbrev pub IsByTable : ℕ → ℕ → Decoded → Type 0
IsByTable word position (Legal instr next) = IsReadAs instr (parcels_from word position (next - position))
IsByTable word position (Refused op) = (op ≡ op_at (parcel_at word position)) × IsNoCode op
IsByTable word position Straddle = (position ≡ 3) × ((instr : Instr)
    × IsReadAs instr (parcel_at word position ∷ 0 ∷ []))
