use Rattle.std.proofs.Common.{◌≡◌, ◌∙◌, ap, sym, Option, Some, None}
use Rattle.sequential.specs.declared.fetching.Fetched.{Fetched}
use Rattle.sequential.specs.State.{bounds_of}
use Rattle.sequential.specs.Step.{fetch}
use Rattle.in_flight.specs.Flight.{unit_taken}
use Rattle.in_flight.specs.Tests.{refusal_of, reservation_tests}
use Rattle.program_order.specs.declared.event.Done.TheVariants.{Issued}
use Rattle.program_order.specs.declared.event.Event.TheVariants.{Issue}
use Rattle.program_order.specs.declared.event.Note.{Note}
use Rattle.program_order.specs.Processor.{Processor}
use Rattle.program_order.specs.Run.{done_by, note_by}
use Rattle.machine.specs.contracts.processor.Machine.{the_view}
use Rattle.machine.proofs.making.Making.{err_answer, ok_answer, issue_judged, issue_refused}
use Rattle.machine.proofs.making.Making.{flight, issued_halting, issued_passing}
use Rattle.machine.proofs.processor.Machine.answer_to_issue.Goals as goal

-- the note of the fetched instruction is the note of the issue
noted : (w : Processor) (g : Fetched) (given : Option Note)
    → g ≡ fetch (bounds_of w.state) w.state.memory w.state.position → given ≡ note_by w g
    → Issued given ≡ done_by w Issue
unfolding done_by
noted w g given e h = ap Issued (h ∙ ap (note_by w) e)

pub returns-in-Err : goal.returns-in-Err
returns-in-Err c =
    err_answer (the_view c.self.inside) c.args.self.now Issue c.in-Err.refusal c.self.view_is
    (issue_refused (the_view c.self.inside) c.issues.result c.in-Err.refusal c.self.invariant.limit
    c.issues.ensures.total c.in-Err.ensures.answer)

pub returns-in-Ok-Halting : goal.returns-in-Ok-Halting
returns-in-Ok-Halting c =
    let s = issued_halting (the_view c.self.inside) c.self.inside.log c.in-Ok-Halting.field-0-0
    c.in-Ok-Halting.field-0-1 in
    ok_answer (the_view c.self.inside) c.args.self.now Issue (Issued None) c.self.view_is
    (issue_judged (the_view c.self.inside) c.issues.result _ None c.self.invariant.limit c.issues.ensures.total
    c.in-Ok-Halting.ensures.answer (ap (λ g. refusal_of (reservation_tests (the_view c.self.inside).pending g))
    c.in-Ok-Halting.field-0-is ∙ s.judged))
    (noted (the_view c.self.inside) _ None c.in-Ok-Halting.ensures.fetched
    (s.noted ∙ sym (ap (note_by (the_view c.self.inside)) c.in-Ok-Halting.field-0-is)))

pub returns-in-Ok-Passing : goal.returns-in-Ok-Passing
returns-in-Ok-Passing c =
    let s = issued_passing (the_view c.self.inside) c.self.inside.log c.in-Ok-Passing.field-0-0 in
    ok_answer (the_view c.self.inside) c.args.self.now Issue (Issued None) c.self.view_is
    (issue_judged (the_view c.self.inside) c.issues.result _ None c.self.invariant.limit c.issues.ensures.total
    c.in-Ok-Passing.ensures.answer (ap (λ g. refusal_of (reservation_tests (the_view c.self.inside).pending g))
    c.in-Ok-Passing.field-0-is ∙ s.judged))
    (noted (the_view c.self.inside) _ None c.in-Ok-Passing.ensures.fetched
    (s.noted ∙ sym (ap (note_by (the_view c.self.inside)) c.in-Ok-Passing.field-0-is)))

pub returns-in-Ok : goal.returns-in-Ok
unfolding note_by
returns-in-Ok c =
    ok_answer (the_view c.self.inside) c.args.self.now Issue
    (Issued (Some (record { unit = c.in-Ok.unit; number = c.in-Ok.number }))) c.self.view_is
    (issue_judged (the_view c.self.inside) c.issues.result _ None c.self.invariant.limit c.issues.ensures.total
    c.in-Ok-Taking.ensures.answer (ap (λ g. refusal_of (reservation_tests (the_view c.self.inside).pending g))
    c.in-Ok-Taking.field-0-is
    ∙ c.in-Ok.ensures.answer c.in-Ok-Taking.field-0-1))
    (noted (the_view c.self.inside) _ (Some (record { unit = c.in-Ok.unit; number = c.in-Ok.number }))
    c.in-Ok-Taking.ensures.fetched
    (ap (λ x. Some (record { unit = x; number = c.in-Ok.number })) c.in-Ok.ensures.reservation.0
    ∙ ap (λ x. Some (record { unit = unit_taken (flight (the_view c.self.inside)) c.in-Ok-Taking.instr; number = x }))
    c.in-Ok.ensures.reservation.1
    ∙ sym (ap (note_by (the_view c.self.inside)) c.in-Ok-Taking.field-0-is)))

pub returns-in-Err-may_reserve : goal.returns-in-Err-may_reserve
returns-in-Err-may_reserve c =
    err_answer (the_view c.self.inside) c.args.self.now Issue c.in-Err-may_reserve.refusal c.self.view_is
    (issue_judged (the_view c.self.inside) c.issues.result _ (Some c.in-Err-may_reserve.refusal)
    c.self.invariant.limit c.issues.ensures.total c.in-Ok-Taking.ensures.answer
    (ap (λ g. refusal_of (reservation_tests (the_view c.self.inside).pending g))
    c.in-Ok-Taking.field-0-is
    ∙ c.in-Err-may_reserve.ensures.answer c.in-Ok-Taking.field-0-1))
