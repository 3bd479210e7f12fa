-- The texts of the pieces that a printed line is made of: numbers, names, opcodes and the reason for a halt.
-- Source: ours; the codes of opcodes and the names of the registers are the manual's.
use Rattle.std.specs.Prelude.{ℕ, ◌+◌, List, [], ◌∷◌, codes, decimal, ◌==◌, if◌then◌else◌}
use Rattle.std.specs.List.{flat_map, concat}
use Rattle.word60.specs.Words.{octal_text}
use Rattle.instructions.specs.declared.instr.Op.{Op}
use Rattle.instructions.specs.declared.instr.Op.TheVariants.{Plain, Extended}
use Rattle.instructions.specs.declared.refusal.Halt.{Halt}
use Rattle.instructions.specs.declared.refusal.Halt.TheVariants.{Stop, Illegal, Straddle, FetchRange}
use Rattle.instruction_table.specs.Spelling.{spelling}
use Rattle.device_text.specs.Names.{unit_text, register_text}
use Rattle.device_text.specs.declared.piece.Piece.{Piece}
use Rattle.device_text.specs.declared.piece.Piece.TheVariants.{Text, Instruction, Opcode, Reason, UnitName, Register}
use Rattle.device_text.specs.declared.piece.Piece.TheVariants.{Parcel, Index, Word, Address, ShortWord, Count}

-- the digits without leading zeros, but at least one digit
abbrev pub trimmed : List ℕ → List ℕ
trimmed [] = []
trimmed (d ∷ []) = d ∷ []
trimmed (d ∷ e ∷ more) = if d == 48 then trimmed (e ∷ more) else d ∷ e ∷ more

-- the code of a refused opcode: two octal digits or three
abbrev pub code_text : Op → List ℕ
code_text (Plain f m) = (48 + f) ∷ (48 + m) ∷ []
code_text (Extended f m i) = (48 + f) ∷ (48 + m) ∷ (48 + i) ∷ []

-- the reason for a halt: `stop`, `illegal CODE`, `straddle` or `fetch`
abbrev pub reason_text : Halt → List ℕ
reason_text Stop = codes "stop"
reason_text (Illegal op) = concat (codes "illegal " ∷ code_text op ∷ [])
reason_text Straddle = codes "straddle"
reason_text FetchRange = codes "fetch"

-- the text of a piece
abbrev pub text_of : Piece → List ℕ
text_of (Text bytes) = bytes.now
text_of (Instruction instr) = spelling instr
text_of (Opcode op) = code_text op
text_of (Reason halt) = reason_text halt
text_of (UnitName unit) = unit_text unit
text_of (Register register) = register_text register
text_of (Parcel n) = (48 + n) ∷ []
text_of (Index n) = octal_text 6 n
text_of (Word n) = octal_text 20 n
text_of (Address n) = trimmed (octal_text 20 n)
text_of (ShortWord n) = trimmed (octal_text 20 n)
text_of (Count n) = decimal n

-- the texts of several pieces, one after another
abbrev pub text_of_all : List Piece → List ℕ
text_of_all pieces = flat_map text_of pieces
