use Rattle.std.proofs.Common.{◌∷◌, ap, ◌∙◌}
use Rattle.device_text.specs.Text.{other_parts}
use Rattle.log_text.proofs.LogReading.{one_sign, two_signs}
use Rattle.log_text.proofs.logs.Allowance.written_entry.Goals as goal

pub returns-in_default-None-clause-entry : goal.returns-in_default-None-clause-entry
returns-in_default-None-clause-entry c =
    one_sign c.args.self.now c.args.digits.now c.first_part.result.0.now c.in_default-Some.rest.now
    c.first_part-2.result.0.now _
    (c.first_part.ensures.parts ∙ ap (λ o. c.first_part.result.0.now ∷ other_parts 61 o) c.in_default-Some.is-1)
    ((rw c.in_default-Some.rest-is at c.first_part-2.ensures.parts)
    ∙ ap (λ o. c.first_part-2.result.0.now ∷ other_parts 61 o) c.in_default-None.is-1)
    c.write_entry.ensures.entry

pub returns-in_default-Some-first_part-clause-entry : goal.returns-in_default-Some-first_part-clause-entry
returns-in_default-Some-first_part-clause-entry c =
    two_signs c.args.self.now c.args.digits.now c.first_part.result.0.now c.in_default-Some.rest.now
    c.first_part-2.result.0.now c.in_default-Some-first_part.field-0-1.now
    (c.first_part.ensures.parts ∙ ap (λ o. c.first_part.result.0.now ∷ other_parts 61 o) c.in_default-Some.is-1)
    ((rw c.in_default-Some.rest-is at c.first_part-2.ensures.parts)
    ∙ ap (λ o. c.first_part-2.result.0.now ∷ other_parts 61 o) c.in_default-Some-first_part.is-1)
