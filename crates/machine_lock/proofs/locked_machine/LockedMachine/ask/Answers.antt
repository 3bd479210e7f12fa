use Rattle.std.proofs.Common.{refl}
use Rattle.program_order.specs.declared.event.Event.TheVariants.{Ask}
use Rattle.machine_lock.proofs.Laws.{quiet_settled, kept_same, held_plain}
use Rattle.machine_lock.proofs.locked_machine.LockedMachine.ask.Goals as goal

-- the request isn't logged
pub compare-requires : goal.compare-requires
compare-requires g c = (
  c.self.invariant.seen.0,
  kept_same c.self.inside.machine c.ask-answer.new.self c.self.inside.pass.me c.self.inside.pass.me
      c.self.invariant.seen.1
      (quiet_settled c.self.inside.machine c.ask-answer.new.self (Ask c.args.at) c.ask-answer.result refl
      c.ask-answer.ensures.after)
      refl,
)

pub returns-clause-event : goal.returns-clause-event
returns-clause-event g c =
    held_plain (record { processor = c.self.inside.machine; is_ended = c.self.inside.is_ended }) c.args.self.now
    c.ask-answer.new.self (Ask c.args.at) c.ask-answer.result c.in_ok-answer.field-0 refl c.self.view_is c.ask-answer.ensures
    c.in_ok-answer.was
