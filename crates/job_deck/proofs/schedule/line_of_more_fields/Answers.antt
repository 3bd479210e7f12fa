use Rattle.std.proofs.Common.{sym}
use Rattle.job_deck.proofs.sessions.Speaking.{four_fields}
use Rattle.job_deck.proofs.schedule.line_of_more_fields.Goals as goal

pub returns-in_default-Some : goal.returns-in_default-Some
returns-in_default-Some c = rw (c.first_part.ensures.parts, c.in_default-Some.is-1)
    (sym (four_fields c.args.word.now c.args.field.now c.first_part.result.0.now c.in_default-Some.field-0-1.now))
