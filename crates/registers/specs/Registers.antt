-- The registers as a map: X0 to X7, A0 to A7 and B0 to B7. B0 is always +0.
-- Source: 60100000, operating registers.
use Rattle.std.specs.Prelude.{ℕ, zero, suc, slice_index_or, slice_set}
use Rattle.word60.specs.Words.{low18}
use Rattle.instructions.specs.declared.instr.Reg.{Reg}
use Rattle.instructions.specs.declared.instr.Reg.TheVariants.{X, A, B}
use Rattle.registers.specs.declared.file.RegisterFile.{RegisterFile}

-- the content of a register
unfoldable pub get : RegisterFile → Reg → ℕ
get file (X n) = slice_index_or file.x n 0
get file (A n) = slice_index_or file.a n 0
get file (B zero) = 0
get file (B (suc n)) = slice_index_or file.b n 0

-- the registers after a write; an A or B register takes the low 18 bits, and B0 doesn't change
unfoldable pub put : RegisterFile → Reg → ℕ → RegisterFile
put file (X n) word = record file { x = slice_set file.x n word }
put file (A n) word = record file { a = slice_set file.a n (low18 word) }
put file (B zero) word = file
put file (B (suc n)) word = record file { b = slice_set file.b n (low18 word) }
