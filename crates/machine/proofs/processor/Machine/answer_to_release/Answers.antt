use Rattle.std.proofs.Common.{◌∙◌, refl, sym, Some, None}
use Rattle.instructions.specs.declared.refusal.Refusal.TheVariants.{Nothing}
use Rattle.in_flight.specs.Tests.{refusal_of, free_tests}
use Rattle.program_order.specs.declared.event.Done.TheVariants.{Made}
use Rattle.program_order.specs.declared.event.Event.TheVariants.{BankFree}
use Rattle.program_order.specs.Run.{done_by}
use Rattle.machine.specs.contracts.processor.Machine.{the_view}
use Rattle.machine.proofs.making.Making.{err_answer, free_judged, ok_answer}
use Rattle.machine.proofs.processor.Machine.answer_to_release.Goals as goal

pub returns-then-is_bank_busy : goal.returns-then-is_bank_busy
unfolding done_by free_tests refusal_of
returns-then-is_bank_busy c =
    ok_answer (the_view c.self.inside) c.args.self.now (BankFree c.args.bank) Made c.self.view_is
    (free_judged (the_view c.self.inside) c.args.bank None None
    (rw (sym c.is_bank_busy.ensures ∙ c.if-is_bank_busy.true) refl) refl) refl

pub returns-else-is_bank_busy : goal.returns-else-is_bank_busy
unfolding done_by free_tests refusal_of
returns-else-is_bank_busy c =
    err_answer (the_view c.self.inside) c.args.self.now (BankFree c.args.bank) Nothing c.self.view_is
    (free_judged (the_view c.self.inside) c.args.bank (Some Nothing) (Some Nothing)
    (rw (sym c.is_bank_busy.ensures ∙ c.if-is_bank_busy.false) refl) refl)
