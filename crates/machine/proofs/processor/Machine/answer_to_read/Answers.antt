use Rattle.std.proofs.Common.{◌∙◌, ap, sym}
use Rattle.program_order.specs.declared.event.Done.TheVariants.{Word}
use Rattle.program_order.specs.declared.event.Event.TheVariants.{PpRead}
use Rattle.program_order.specs.Events.{allowed, tests_of}
use Rattle.program_order.specs.Peripheral.{access_tests, word_read}
use Rattle.program_order.specs.Run.{done_by}
use Rattle.in_flight.specs.Tests.{refusal_of}
use Rattle.machine.specs.contracts.processor.Machine.{the_view}
use Rattle.machine.proofs.making.Making.{err_answer, ok_answer}
use Rattle.machine.proofs.processor.Machine.answer_to_read.Goals as goal

pub returns-in-Ok : goal.returns-in-Ok
unfolding allowed tests_of done_by word_read
returns-in-Ok c =
    ok_answer (the_view c.self.inside) c.args.self.now (PpRead c.args.at) (Word c.load.result) c.self.view_is
    (ap (λ n. refusal_of (access_tests c.self.inside.accessed c.self.inside.in_flight.pending n c.args.at))
    (sym c.size-size.ensures.value) ∙ c.in-Ok.ensures.answer)
    (ap Word c.load.ensures)

pub returns-in-Err : goal.returns-in-Err
unfolding allowed tests_of
returns-in-Err c =
    err_answer (the_view c.self.inside) c.args.self.now (PpRead c.args.at) c.in-Err.refusal c.self.view_is
    (ap (λ n. refusal_of (access_tests c.self.inside.accessed c.self.inside.in_flight.pending n c.args.at))
    (sym c.size-size.ensures.value) ∙ c.in-Err.ensures.answer)
