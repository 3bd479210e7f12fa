use Rattle.std.proofs.lemmas.Result.{err_from_is_err_and}
use Rattle.std.proofs.Common.{◌∙◌, refl, sym}
use Rattle.program_order.specs.declared.event.Event.TheVariants.{BankFree}
use Rattle.machine_lock.proofs.Laws.{held_plain, only_nothing, quiet_kept}
use Rattle.machine_lock.proofs.locked_machine.LockedMachine.bank_free.Goals as goal

pub invariant_of-self : goal.invariant_of-self
invariant_of-self g c =
    quiet_kept c.self.inside.machine c.bank_free-freed.new.self c.self.inside.pass (BankFree c.args.bank) c.bank_free-freed.result refl
    c.bank_free-freed.ensures c.self.invariant c.keeps_replay.ensures.replay

pub invariant_of-self-2 : goal.invariant_of-self-2
invariant_of-self-2 g c =
    quiet_kept c.self.inside.machine c.bank_free-freed.new.self c.self.inside.pass (BankFree c.args.bank) c.bank_free-freed.result refl
    c.bank_free-freed.ensures c.self.invariant c.keeps_replay.ensures.replay

pub returns-clause-event : goal.returns-clause-event
returns-clause-event g c =
    held_plain (record { processor = c.self.inside.machine; is_ended = c.self.inside.is_ended }) c.args.self.now
    c.bank_free-freed.new.self (BankFree c.args.bank) c.bank_free-freed.result c.in_ok-freed.field-0 refl c.self.view_is
    c.bank_free-freed.ensures c.in_ok-freed.was

pub returns-clause-no_bank : goal.returns-clause-no_bank
returns-clause-no_bank g c = λ h.
    let k = only_nothing c.self.inside.machine (BankFree c.args.bank) c.bank_free-freed.result refl (c.keeps_limits.ensures.banks c.args.bank h)
    c.bank_free-freed.ensures.answer in
    let q = sym c.in_ok-freed.was ∙ k in cc

pub returns-in_err-freed-clause-no_bank : goal.returns-in_err-freed-clause-no_bank
returns-in_err-freed-clause-no_bank g c = λ h.
    let k = only_nothing c.self.inside.machine (BankFree c.args.bank) c.bank_free-freed.result refl (c.keeps_limits.ensures.banks c.args.bank h)
    c.bank_free-freed.ensures.answer in
    let p = err_from_is_err_and c.from_residual.result c.from_residual.ensures.1 in
    let q = sym c.in_err-freed.was ∙ k in
    let a = p.1 in let b = p.2 in cc
