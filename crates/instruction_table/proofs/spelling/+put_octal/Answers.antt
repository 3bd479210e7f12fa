use Rattle.std.proofs.Common.{◌∙◌, ◌++◌, ◌∷◌, [], ◌+◌, ◌%◌, ◌/◌, ap, sym, append_assoc, length-append, arith}
use Rattle.instruction_table.specs.Octal.{octal}
use Rattle.instruction_table.proofs.texts.OctalLaws.{octal_ends, octal_step}
use Rattle.instruction_table.proofs.spelling.+put_octal.Goals as goal

pub put_digit-requires-else-number-lt8-clause-room : goal.put_digit-requires-else-number-lt8-clause-room
put_digit-requires-else-number-lt8-clause-room t c = grind (arith, octal_ends, length-append)

pub returns-else-number-lt8 : goal.returns-else-number-lt8
returns-else-number-lt8 t c =
    c.put_digit-else-number-lt8.ensures
    ∙ ap (λ b. b ++ (48 + c.args.number % 8) ∷ []) c.put_octal.ensures
    ∙ append_assoc c.args.text.now.bytes (octal (c.args.number / 8)) ((48 + c.args.number % 8) ∷ [])
    ∙ ap (λ b. c.args.text.now.bytes ++ b) (sym (octal_step c.args.number c.if-number-lt8.false))
