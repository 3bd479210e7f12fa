use Rattle.job_deck.proofs.schedule.line_of_fields.Goals as goal

pub returns-in_default-Some : goal.returns-in_default-Some
returns-in_default-Some c = rw (c.in-Some.is, c.first_part.ensures.parts, c.in_default-Some.is-1)
    (rw c.in_default-Some.more-is at c.line_of_more_fields.ensures)
