use Rattle.std.proofs.Common.{◌∙◌}
use Rattle.instruction_table.proofs.texts.TextLaws.{instr_of_text}
use Rattle.instruction_table.proofs.reading.read_bytes.Goals as goal

pub returns-clause-all : goal.returns-clause-all
returns-clause-all c = λ instr fields same. c.instr_of.ensures ∙ instr_of_text c.args.text.now instr fields same
