use Rattle.std.proofs.Common.{refl}
use Rattle.program_order.specs.declared.event.Event.TheVariants.{Store}
use Rattle.machine_lock.proofs.Laws.{token_kept}
use Rattle.machine_lock.proofs.locked_machine.LockedMachine.store.Goals as goal

pub invariant_of-self : goal.invariant_of-self
invariant_of-self g c = record {
  replay = c.keeps_replay.ensures.replay;
  seen = (
    c.self.invariant.seen.0,
    token_kept c.self.inside.machine c.store-stored.new.self (Store c.args.token.seat.unit) c.self.inside.pass.me
        c.store-stored.result
        refl c.self.invariant.seen.1 c.store-stored.ensures.after,
  );
}
