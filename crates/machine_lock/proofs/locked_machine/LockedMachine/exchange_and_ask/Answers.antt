use Rattle.std.proofs.Common.{refl, sym, subst}
use Rattle.sequential.specs.Replay.{Exchanged}
use Rattle.program_order.specs.declared.event.Event.TheVariants.{Ask}
use Rattle.machine_lock.specs.CallerKnowledge.{IsMade, Known}
use Rattle.machine_lock.specs.Held.{made_or_refused}
use Rattle.machine_lock.proofs.Laws.{quiet_settled, same_seen}
use Rattle.machine_lock.proofs.locked_machine.LockedMachine.exchange_and_ask.Goals as goal

-- the request adds nothing to the caller's knowledge, since the exchange was the last step of the log
pub returns-in-Some-clause-seen : goal.returns-in-Some-clause-seen
returns-in-Some-clause-seen g c =
    let e = c.in_ok-exchange.ensures.seen in
    let same = same_seen c.exchange.new.self.processor c.ask.new.self.processor c.exchange.new.seen c.ask.new.seen
    c.exchange.ensures.current c.ask.ensures.current
    (quiet_settled c.exchange.new.self.processor c.ask.new.self.processor (Ask c.in-Some.at)
    (made_or_refused c.ask.result) refl c.ask.ensures.event.machine.after)
    c.ask.ensures.seen in
    (e.0, e.1, subst (λ (k : Known). IsMade (Exchanged e.0) c.args.seen.now k) (sym same) e.2)
