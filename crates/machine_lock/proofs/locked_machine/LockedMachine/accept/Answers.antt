use Rattle.std.proofs.lemmas.Result.{err_from_is_err_and}
use Rattle.std.proofs.Common.{◌∙◌, refl, sym}
use Rattle.program_order.specs.declared.event.Event.TheVariants.{Accept}
use Rattle.machine_lock.proofs.Laws.{held_plain, only_nothing, quiet_kept}
use Rattle.machine_lock.proofs.locked_machine.LockedMachine.accept.Goals as goal

pub invariant_of-self : goal.invariant_of-self
invariant_of-self g c =
    quiet_kept c.self.inside.machine c.accept-accepted.new.self c.self.inside.pass (Accept c.args.place) c.accept-accepted.result refl
    c.accept-accepted.ensures c.self.invariant c.keeps_replay.ensures.replay

pub invariant_of-self-2 : goal.invariant_of-self-2
invariant_of-self-2 g c =
    quiet_kept c.self.inside.machine c.accept-accepted.new.self c.self.inside.pass (Accept c.args.place) c.accept-accepted.result refl
    c.accept-accepted.ensures c.self.invariant c.keeps_replay.ensures.replay

pub returns-clause-event : goal.returns-clause-event
returns-clause-event g c =
    held_plain (record { processor = c.self.inside.machine; is_ended = c.self.inside.is_ended }) c.args.self.now
    c.accept-accepted.new.self (Accept c.args.place) c.accept-accepted.result c.in_ok-accepted.field-0 refl c.self.view_is
    c.accept-accepted.ensures c.in_ok-accepted.was

pub returns-clause-no_place : goal.returns-clause-no_place
returns-clause-no_place g c = λ h.
    let k = only_nothing c.self.inside.machine (Accept c.args.place) c.accept-accepted.result refl (c.keeps_limits.ensures.places c.args.place h)
    c.accept-accepted.ensures.answer in
    let q = sym c.in_ok-accepted.was ∙ k in cc

pub returns-in_err-accepted-clause-no_place : goal.returns-in_err-accepted-clause-no_place
returns-in_err-accepted-clause-no_place g c = λ h.
    let k = only_nothing c.self.inside.machine (Accept c.args.place) c.accept-accepted.result refl (c.keeps_limits.ensures.places c.args.place h)
    c.accept-accepted.ensures.answer in
    let p = err_from_is_err_and c.from_residual.result c.from_residual.ensures.1 in
    let q = sym c.in_err-accepted.was ∙ k in
    let a = p.1 in let b = p.2 in cc
