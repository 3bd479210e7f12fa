-- The text of each instruction, and the instruction of a text.
-- Source: 60100000, the descriptions of the instructions; that each has one text is ours.
use Rattle.std.specs.Prelude.{ℕ, if◌then◌else◌, List, take, drop, Option, Some, None}
use Rattle.std.specs.Str.{bytes_eq}
use Rattle.instruction_table.specs.Candidate.{candidate_in}
use Rattle.instruction_table.specs.Table.{form_of}
use Rattle.instructions.specs.declared.instr.XTest.TheVariants.{Zero}
use Rattle.instructions.specs.declared.instr.BTest.TheVariants.{Equal}
use Rattle.instructions.specs.declared.instr.Logic.{Logic}
use Rattle.instructions.specs.declared.instr.Addition.{Addition}
use Rattle.instructions.specs.declared.instr.Target.TheVariants.{A as TargetA}
use Rattle.instructions.specs.declared.instr.Addends.{Addends}
use Rattle.instructions.specs.declared.instr.Instr.{Instr}
use Rattle.instructions.specs.declared.instr.Instr.TheVariants.{Jump, BranchX, BranchB, Logical, LongAdd, Increment}

-- the text of an instruction, by the table
abbrev pub spelling : Instr → List ℕ
spelling instr = (form_of instr).text

-- The instruction with this text, or None if no instruction has it. The candidate is only a way to find the
-- instruction: its spelling must be the text.
unfoldable pub instr_of : List ℕ → Option Instr
instr_of t = if bytes_eq (spelling (candidate_in t)) t then Some (candidate_in t) else None

-- the first two letters of a spelling
abbrev pub name_of : Instr → List ℕ
name_of instr = take 2 (spelling instr)

-- the text after `JP`
abbrev pub jump_text : ℕ → ℕ → List ℕ
jump_text i K = drop 2 (spelling (Jump i K))

-- the text after `ZR` and the other names that test an X register
abbrev pub branch_x_text : ℕ → ℕ → List ℕ
branch_x_text j K = drop 2 (spelling (BranchX Zero j K))

-- the text after `EQ` and the other names that compare two B registers
abbrev pub branch_b_text : ℕ → ℕ → ℕ → List ℕ
branch_b_text i j K = drop 2 (spelling (BranchB Equal i j K))

-- the text after `BXi`
abbrev pub logic_text : Logic → ℕ → ℕ → List ℕ
logic_text op j k = drop 3 (spelling (Logical op 0 j k))

-- the text after `IXi`
abbrev pub addition_text : Addition → ℕ → ℕ → List ℕ
addition_text op j k = drop 3 (spelling (LongAdd op 0 j k))

-- the text after `SAi`
abbrev pub addends_text : Addends → List ℕ
addends_text addends = drop 3 (spelling (Increment TargetA 0 addends))
