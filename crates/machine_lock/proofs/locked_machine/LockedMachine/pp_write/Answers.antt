use Rattle.std.proofs.Common.{refl}
use Rattle.program_order.specs.declared.event.Event.TheVariants.{PpWrite}
use Rattle.machine_lock.proofs.Laws.{access_logged, access_made, held_plain}
use Rattle.machine_lock.proofs.locked_machine.LockedMachine.pp_write.Goals as goal

pub record_or_compare-requires-clause-logged : goal.record_or_compare-requires-clause-logged
record_or_compare-requires-clause-logged g c =
    access_logged c.self.inside.machine c.pp_write-answer.new.self (PpWrite c.args.at c.args.word)
    c.pp_write-answer.result c.self.inside.pass.me c.self.invariant.seen.1 refl c.pp_write-answer.ensures.after

pub returns-clause-event : goal.returns-clause-event
returns-clause-event g c =
    held_plain (record { processor = c.self.inside.machine; is_ended = c.self.inside.is_ended }) c.args.self.now
    c.pp_write-answer.new.self (PpWrite c.args.at c.args.word) c.pp_write-answer.result c.in_ok-answer.field-0 refl c.self.view_is c.pp_write-answer.ensures
    c.in_ok-answer.was

pub returns-clause-seen : goal.returns-clause-seen
returns-clause-seen g c =
    access_made c.self.inside.machine c.pp_write-answer.new.self (PpWrite c.args.at c.args.word)
    c.pp_write-answer.result c.in_ok-answer.field-0 c.args.seen.now c.record_or_compare.new.seen refl
    c.pp_write-answer.ensures.after c.record_or_compare.ensures.seen c.in_ok-answer.was
