use Rattle.std.proofs.Common.{ap, refl, sym}
use Rattle.program_order.specs.declared.event.Event.TheVariants.{Exchange}
use Rattle.std.proofs.lemmas.Result.{err_from_is_err_and}
use Rattle.machine_lock.specs.Held.{Kept}
use Rattle.machine_lock.proofs.Laws.{exchange_logged, exchange_made, exchange_why, held_plain}
use Rattle.machine_lock.proofs.locked_machine.LockedMachine.exchange.Goals as goal

pub record_or_compare-requires-clause-logged : goal.record_or_compare-requires-clause-logged
record_or_compare-requires-clause-logged g c =
    exchange_logged c.self.inside.machine c.exchange-answer.new.self c.exchange-answer.result c.self.inside.pass.me
    c.self.invariant.seen.1 c.exchange-answer.ensures

pub returns-clause-seen : goal.returns-clause-seen
returns-clause-seen g c =
    exchange_made c.self.inside.machine c.exchange-answer.new.self c.args.self.now.processor.request
    c.exchange-answer.result c.in_ok-answer.field-0 c.args.seen.now c.record_or_compare.new.seen
    (ap (λ (k : Kept). k.processor.request) (sym c.self.view_is)) c.self.invariant.replay
    c.exchange-answer.ensures c.record_or_compare.ensures.current c.record_or_compare.ensures.seen c.in_ok-answer.was

pub returns-clause-event : goal.returns-clause-event
returns-clause-event g c =
    held_plain (record { processor = c.self.inside.machine; is_ended = c.self.inside.is_ended }) c.args.self.now
    c.exchange-answer.new.self Exchange c.exchange-answer.result c.in_ok-answer.field-0 refl c.self.view_is c.exchange-answer.ensures
    c.in_ok-answer.was

pub returns-in_err-answer-clause-seen : goal.returns-in_err-answer-clause-seen
returns-in_err-answer-clause-seen g c =
    let p = err_from_is_err_and c.from_residual.result c.from_residual.ensures.1 in
    rw (p.1, p.2) (exchange_why c.self.inside.machine c.exchange-answer.new.self c.args.self.now.processor.request
    c.exchange-answer.result c.in_err-answer.field-0.0 c.args.seen.now c.record_or_compare.new.seen
    (ap (λ (k : Kept). k.processor.request) (sym c.self.view_is)) c.self.invariant.replay
    c.exchange-answer.ensures c.record_or_compare.ensures.current c.record_or_compare.ensures.seen
    c.in_err-answer.was)
