use Rattle.std.proofs.Common.{◌≡◌, ◌∙◌, refl, rules}
use Rattle.std.proofs.lemmas.Result.{err_from_is_err_and}
use Rattle.std.specs.Prelude.{Ok}
use Rattle.machine_lock.proofs.Laws.{held_issue, issue_logged, issue_made, issue_why, note_in}
use Rattle.machine_lock.proofs.locked_machine.LockedMachine.issue.Goals as goal
use Rattle.machine_lock.proofs.locked_machine.LockedMachine.issue.Goals.{in-Issued, in-Word}

pub record_or_compare-requires-clause-logged : goal.record_or_compare-requires-clause-logged
record_or_compare-requires-clause-logged g c =
    issue_logged c.self.inside.machine c.issue-answer.new.self c.issue-answer.result c.self.inside.pass.me
    c.self.invariant.seen.1 c.issue-answer.ensures.after

pub returns-clause-seen : goal.returns-clause-seen
returns-clause-seen g c =
    let note = note_in c.in_ok-note.field-0 in
    let p : c.match-branch-2.result ≡ Ok note = elim c.match-branch-2.branch [
      | in-Issued w ↦ w.result-is ∙ search rules
      | in-Word w ↦ w.result-is ∙ search rules
    ] in
    rw p (issue_made c.self.inside.machine c.issue-answer.new.self c.issue-answer.result c.in_ok-note.field-0 note
    c.args.seen.now c.record_or_compare.new.seen c.self.invariant.replay c.issue-answer.ensures
    c.record_or_compare.ensures.within c.record_or_compare.ensures.current c.record_or_compare.ensures.seen
    c.in_ok-note.was refl)

pub returns-clause-event : goal.returns-clause-event
returns-clause-event g c =
    let p : c.match-branch-2.result ≡ Ok (note_in c.in_ok-note.field-0) = elim c.match-branch-2.branch [
      | in-Issued w ↦ w.result-is ∙ search rules
      | in-Word w ↦ w.result-is ∙ search rules
    ] in
    rw p (held_issue (record { processor = c.self.inside.machine; is_ended = c.self.inside.is_ended }) c.args.self.now
    c.issue-answer.new.self c.issue-answer.result c.in_ok-note.field-0 c.self.view_is c.issue-answer.ensures
    c.in_ok-note.was)

pub returns-in_err-note-clause-seen : goal.returns-in_err-note-clause-seen
returns-in_err-note-clause-seen g c =
    let p = err_from_is_err_and c.from_residual.result c.from_residual.ensures.1 in
    rw (p.1, p.2) (issue_why c.self.inside.machine c.issue-answer.new.self c.issue-answer.result
    c.in_err-note.field-0.0 c.args.seen.now c.record_or_compare.new.seen c.self.invariant.replay
    c.issue-answer.ensures c.record_or_compare.ensures.within c.record_or_compare.ensures.current
    c.record_or_compare.ensures.seen c.in_err-note.was)
