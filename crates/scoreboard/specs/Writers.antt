-- The writer of a register: a unit at its store event, or a load channel at the return.
-- Source: Thornton, scoreboard (result designators). That a load channel is a writer is ours.
use Rattle.std.specs.Prelude.{◌<◌, Bool, false, ◌==◌, if◌then◌else◌, List, [], ◌∷◌, Option, Some, None, slice_index_or}
use Rattle.std.specs.Prelude.{slice_set}
use Rattle.instructions.specs.declared.instr.Reg.{Reg}
use Rattle.instructions.specs.declared.instr.Reg.TheVariants.{X, A, B}
use Rattle.scoreboard.specs.Units.{same_unit}
use Rattle.scoreboard.specs.declared.writer.Writer.{Writer}
use Rattle.scoreboard.specs.declared.writer.Writer.TheVariants.{OfUnit, OfChannel}
use Rattle.scoreboard.specs.declared.writers.Writers.{Writers}

-- the two are the same writer: the same unit, or the same load channel
unfoldable pub same_writer : Writer → Writer → Bool
same_writer (OfUnit u) (OfUnit v) = same_unit u v
same_writer (OfUnit u) (OfChannel n) = false
same_writer (OfChannel n) (OfUnit v) = false
same_writer (OfChannel m) (OfChannel n) = m == n

-- the expected writer is this one
unfoldable pub is_expected : Writer → Option Writer → Bool
is_expected w None = false
is_expected w (Some v) = same_writer v w

-- the expected writer, or None if it is this one
unfoldable pub forget : Writer → Option Writer → Option Writer
forget w None = None
forget w (Some v) = if same_writer v w then None else Some v

-- the number of the register is below 8
abbrev pub IsRegister : Reg → Type 0
IsRegister (X n) = n < 8
IsRegister (A n) = n < 8
IsRegister (B n) = n < 8

-- the writer of the register
unfoldable pub writer_at : Writers → Reg → Option Writer
writer_at ws (X n) = slice_index_or ws.x n None
writer_at ws (A n) = slice_index_or ws.a n None
writer_at ws (B n) = slice_index_or ws.b n None

-- the writers after the register gets another writer, or none
unfoldable pub set_writer : Writers → Reg → Option Writer → Writers
set_writer ws (X n) o = record ws { x = slice_set ws.x n o }
set_writer ws (A n) o = record ws { a = slice_set ws.a n o }
set_writer ws (B n) o = record ws { b = slice_set ws.b n o }

-- the writer of a register, if there is a register
unfoldable pub writer_if : (Reg → Option Writer) → Option Reg → Option Writer
writer_if f None = None
writer_if f (Some r) = f r

-- the writers after each of the registers gets this writer, or none
abbrev pub set_each : Writers → List Reg → Option Writer → Writers
set_each ws [] o = ws
set_each ws (r ∷ rs) o = set_each (set_writer ws r o) rs o
