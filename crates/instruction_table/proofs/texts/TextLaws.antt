-- `instr_of` reads the spelling of each instruction, and nothing else.
use Rattle.std.proofs.Common.{ℕ, ◌≡◌, List, Some, sym, ◌∙◌, ap, arith}
use Rattle.std.specs.Str.{bytes_eq}
use Rattle.std.proofs.lemmas.Option.{cond_some}
use Rattle.std.proofs.lemmas.Slice.Eq.{bytes_eq-Decides}
use Rattle.instructions.specs.declared.instr.Instr.{Instr}
use Rattle.instruction_table.specs.Candidate.{candidate_in}
use Rattle.instruction_table.specs.Spelling.{spelling, instr_of}
use Rattle.instruction_table.specs.Table.{IsInstr}
use Rattle.instruction_table.proofs.texts.FieldLaws.{candidate_fields}
use Rattle.instruction_table.proofs.texts.ReadingLaws.{candidate_of_spelling}

pub instr_of_spelling : (instr : Instr) → IsInstr instr → instr_of (spelling instr) ≡ Some instr
unfolding instr_of
instr_of_spelling instr fields = grind (arith, candidate_of_spelling, bytes_eq-Decides)

-- the same for a text that is equal to the spelling
pub instr_of_text : (t : List ℕ) (instr : Instr) → IsInstr instr → spelling instr ≡ t → instr_of t ≡ Some instr
instr_of_text t instr fields same = ap instr_of (sym same) ∙ instr_of_spelling instr fields

pub spelling_of_instr : (t : List ℕ) (instr : Instr) → instr_of t ≡ Some instr → spelling instr ≡ t
unfolding instr_of
spelling_of_instr t instr found =
    let parts = cond_some (bytes_eq (spelling (candidate_in t)) t) (candidate_in t) instr found in
    ap spelling (sym parts.1) ∙ (bytes_eq-Decides (spelling (candidate_in t)) t).0 parts.0

pub fields_of_instr : (t : List ℕ) (instr : Instr) → instr_of t ≡ Some instr → IsInstr instr
unfolding instr_of
fields_of_instr t instr found = grind (arith, candidate_fields t)

-- the text of a decoded instruction is that instruction's spelling, and its fields are in range
pub ruleset texts_of_instr = (spelling_of_instr, fields_of_instr)
