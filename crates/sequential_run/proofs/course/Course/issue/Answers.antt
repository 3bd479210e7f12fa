use Rattle.std.proofs.Common.{rules, refl, arith}
use Rattle.sequential_run.proofs.Going.{ended_here, issue_goes, issue_keeps}
use Rattle.sequential_run.proofs.course.Course.issue.Goals as goal

pub returns-then-not-may_issue-clause-gone : goal.returns-then-not-may_issue-clause-gone
returns-then-not-may_issue-clause-gone c = λ can.
    (ended_here c.args.budget c.args.self.now c.requires.kept can (search rules), refl)

pub returns-clause-gone : goal.returns-clause-gone
returns-clause-gone c = λ can. issue_goes c.args.budget c.next_issues-count.result c.args.self.now c.reserve.new.self _
    c.requires.kept can (search rules) c.reserve.ensures.steps c.issue_some.ensures.made
    (grind arith)
    (grind arith)
    c.next_issues-count.ensures.single c.next_issues-count.ensures.quiet

pub returns-clause-kept : goal.returns-clause-kept
returns-clause-kept c = issue_keeps c.args.budget c.next_issues-count.result c.args.self.now c.reserve.new.self _
    c.requires.kept c.reserve.ensures.steps c.issue_some.ensures.made
    (grind arith)
