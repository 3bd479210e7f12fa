use Rattle.std.proofs.Common.{◌≡◌, ◌∙◌, refl, rules}
use Rattle.std.specs.Prelude.{Ok}
use Rattle.program_order.specs.declared.event.Event.TheVariants.{PpRead}
use Rattle.machine_lock.proofs.Laws.{access_logged, access_made, held_read, word_in, word_of}
use Rattle.machine_lock.proofs.locked_machine.LockedMachine.pp_read.Goals as goal
use Rattle.machine_lock.proofs.locked_machine.LockedMachine.pp_read.Goals.{in-Issued, in-Word}

pub record_or_compare-requires-clause-logged : goal.record_or_compare-requires-clause-logged
record_or_compare-requires-clause-logged g c =
    access_logged c.self.inside.machine c.pp_read-answer.new.self (PpRead c.args.at) c.pp_read-answer.result
    c.self.inside.pass.me c.self.invariant.seen.1 refl c.pp_read-answer.ensures.after

pub returns-clause-seen : goal.returns-clause-seen
returns-clause-seen g c =
    let p : c.match-branch-2.result ≡ Ok (word_in c.in_ok-word.field-0) = elim c.match-branch-2.branch [
      | in-Word w ↦ w.result-is ∙ search rules
      | in-Issued w ↦ w.result-is ∙ search rules
    ] in
    rw p (
      access_made c.self.inside.machine c.pp_read-answer.new.self (PpRead c.args.at) c.pp_read-answer.result
          c.in_ok-word.field-0 c.args.seen.now c.record_or_compare.new.seen refl c.pp_read-answer.ensures.after
          c.record_or_compare.ensures.seen c.in_ok-word.was,
      word_of c.pp_read-answer.new.self c.record_or_compare.new.seen c.args.at c.pp_read-answer.result
          c.in_ok-word.field-0 c.record_or_compare.ensures.replay c.record_or_compare.ensures.current
          (c.pp_read-answer.ensures.word c.args.at refl) c.in_ok-word.was,
    )

pub returns-clause-event : goal.returns-clause-event
returns-clause-event g c =
    let p : c.match-branch-2.result ≡ Ok (word_in c.in_ok-word.field-0) = elim c.match-branch-2.branch [
      | in-Word w ↦ w.result-is ∙ search rules
      | in-Issued w ↦ w.result-is ∙ search rules
    ] in
    rw p (held_read (record { processor = c.self.inside.machine; is_ended = c.self.inside.is_ended }) c.args.self.now
    c.pp_read-answer.new.self c.args.at c.pp_read-answer.result c.in_ok-word.field-0 c.self.view_is
    c.pp_read-answer.ensures c.in_ok-word.was)
