use Rattle.std.proofs.lemmas.Result.{err_from_is_err_and}
use Rattle.std.proofs.Common.{◌∙◌, ap, refl, sym}
use Rattle.program_order.specs.declared.event.Event.TheVariants.{Return}
use Rattle.program_order.specs.Events.{allowed}
use Rattle.machine_lock.proofs.Laws.{held_plain, only_nothing, quiet_kept}
use Rattle.machine_lock.proofs.locked_machine.LockedMachine.return_load.Goals as goal

pub invariant_of-self : goal.invariant_of-self
invariant_of-self g c =
    quiet_kept c.self.inside.machine c.return_load-returned.new.self c.self.inside.pass (Return c.args.channel) c.return_load-returned.result refl
    c.return_load-returned.ensures c.self.invariant c.keeps_replay.ensures.replay

pub invariant_of-self-2 : goal.invariant_of-self-2
invariant_of-self-2 g c =
    quiet_kept c.self.inside.machine c.return_load-returned.new.self c.self.inside.pass (Return c.args.channel) c.return_load-returned.result refl
    c.return_load-returned.ensures c.self.invariant c.keeps_replay.ensures.replay

pub returns-clause-event : goal.returns-clause-event
returns-clause-event g c =
    held_plain (record { processor = c.self.inside.machine; is_ended = c.self.inside.is_ended }) c.args.self.now
    c.return_load-returned.new.self (Return c.args.channel) c.return_load-returned.result c.in_ok-returned.field-0 refl c.self.view_is
    c.return_load-returned.ensures c.in_ok-returned.was

pub returns-clause-channels : goal.returns-clause-channels
returns-clause-channels g c = λ h.
    let k = only_nothing c.self.inside.machine (Return c.args.channel) c.return_load-returned.result refl (c.keeps_limits.ensures.channels c.args.channel h)
    c.return_load-returned.ensures.answer in
    let q = sym c.in_ok-returned.was ∙ k in cc

pub returns-clause-no_channel : goal.returns-clause-no_channel
returns-clause-no_channel g c = λ h.
    let k = only_nothing c.self.inside.machine (Return c.args.channel) c.return_load-returned.result refl (ap (λ n. allowed c.self.inside.machine (Return n)) h ∙ c.keeps_limits.ensures.no_channel)
    c.return_load-returned.ensures.answer in
    let q = sym c.in_ok-returned.was ∙ k in cc

pub returns-in_err-returned-clause-channels : goal.returns-in_err-returned-clause-channels
returns-in_err-returned-clause-channels g c = λ h.
    let k = only_nothing c.self.inside.machine (Return c.args.channel) c.return_load-returned.result refl (c.keeps_limits.ensures.channels c.args.channel h)
    c.return_load-returned.ensures.answer in
    let p = err_from_is_err_and c.from_residual.result c.from_residual.ensures.1 in
    let q = sym c.in_err-returned.was ∙ k in
    let a = p.1 in let b = p.2 in cc

pub returns-in_err-returned-clause-no_channel : goal.returns-in_err-returned-clause-no_channel
returns-in_err-returned-clause-no_channel g c = λ h.
    let k = only_nothing c.self.inside.machine (Return c.args.channel) c.return_load-returned.result refl (ap (λ n. allowed c.self.inside.machine (Return n)) h ∙ c.keeps_limits.ensures.no_channel)
    c.return_load-returned.ensures.answer in
    let p = err_from_is_err_and c.from_residual.result c.from_residual.ensures.1 in
    let q = sym c.in_err-returned.was ∙ k in
    let a = p.1 in let b = p.2 in cc
