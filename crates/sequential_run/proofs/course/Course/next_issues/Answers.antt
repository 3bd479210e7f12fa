use Rattle.std.proofs.Common.{arith}
use Rattle.sequential_run.proofs.course.Course.next_issues.Goals as goal

pub returns-else-until-left-clause-quiet : goal.returns-else-until-left-clause-quiet
returns-else-until-left-clause-quiet c = λ w more l.
    let h = c.if-until-left.false in c.until_due-until.ensures.none more (omega (arith, l, h))
