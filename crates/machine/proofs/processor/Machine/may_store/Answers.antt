use Rattle.std.proofs.Common.{◌∙◌, ap, refl, sym, subst}
use Rattle.std.proofs.lemmas.Result.{err_from_is_err_and}
use Rattle.program_order.specs.declared.event.Event.TheVariants.{Store as StoreResult}
use Rattle.instructions.specs.Finding.{seek}
use Rattle.instructions.specs.Shape.{shape_of}
use Rattle.sequential.specs.Work.{reference_for}
use Rattle.in_flight.specs.Flight.{relocated}
use Rattle.in_flight.specs.Lookup.{stage_at}
use Rattle.in_flight.specs.Tests.{refusal_in}
use Rattle.in_flight.proofs.answering.Beside.{nothing_there}
use Rattle.machine.specs.contracts.processor.Machine.{the_view}
use Rattle.machine.specs.inner.Storing.{IsStoreOf}
use Rattle.program_order.specs.Events.{allowed}
use Rattle.machine.proofs.making.Making.{bounds_at, store_judged}
use Rattle.machine.proofs.making.Storing.{found_finished, reference_made, store_asked, unfinished}
use Rattle.machine.proofs.processor.Machine.may_store.Goals as goal

pub returns-in_default-clause-answer : goal.returns-in_default-clause-answer
returns-in_default-clause-answer c = ap (λ x. allowed x (StoreResult c.args.unit)) (sym c.self.view_is)
    ∙ store_judged (the_view c.self.inside) c.args.unit _ _ _ refl
    (nothing_there (seek (stage_at c.args.unit) (the_view c.self.inside).pending) _
    (sym c.find.ensures ∙ c.in_default.is)) refl

pub returns-in_default-answer : goal.returns-in_default-answer
returns-in_default-answer c = record {
  answer = ap (λ x. allowed x (StoreResult c.args.unit)) (sym c.self.view_is)
      ∙ store_judged (the_view c.self.inside) c.args.unit _ _ _ refl
      (unfinished _ (the_view c.self.inside).pending
      (seek (stage_at c.args.unit) (the_view c.self.inside).pending) c.in-Some.field-0
      (sym c.find.ensures ∙ c.in-Some.is) c.in_default-answer.not-Finished) refl;
  work = tt;
}

pub returns-in_err-may_store-clause-answer : goal.returns-in_err-may_store-clause-answer
returns-in_err-may_store-clause-answer c =
    let p = err_from_is_err_and c.from_residual.result c.from_residual.ensures.1 in
    let f = found_finished _ _ c.in-Some.field-0 c.in-Finished.value c.find.ensures c.in-Some.is c.in-Finished.is in
    let e = reference_made _ c.of-reference.result c.of-work.result c.in-Some.field-0.pending c.in-Finished.value
    c.of-reference.ensures c.of-work.ensures in
    rw (p.1, p.2)
    (ap (λ x. allowed x (StoreResult c.args.unit)) (sym c.self.view_is)
    ∙ store_asked (the_view c.self.inside) c.args.unit c.size-size.result c.in-Some.field-0.pending
    c.in-Finished.value c.of-reference.result (refusal_in c.may_store.result) _ f c.size-size.ensures.value e
    c.may_store.ensures (ap refusal_in c.in_err-may_store.was))

pub returns-clause-answer : goal.returns-clause-answer
returns-clause-answer c =
    let f = found_finished _ _ c.in-Some.field-0 c.in-Finished.value c.find.ensures c.in-Some.is c.in-Finished.is in
    let e = reference_made _ c.of-reference.result c.of-work.result c.in-Some.field-0.pending c.in-Finished.value
    c.of-reference.ensures c.of-work.ensures in
    ap (λ x. allowed x (StoreResult c.args.unit)) (sym c.self.view_is)
    ∙ store_asked (the_view c.self.inside) c.args.unit c.size-size.result c.in-Some.field-0.pending
    c.in-Finished.value c.of-reference.result (refusal_in c.may_store.result) _ f c.size-size.ensures.value e
    c.may_store.ensures (ap refusal_in c.in_ok-may_store.was)

pub returns-clause-work : goal.returns-clause-work
returns-clause-work c =
    let f = found_finished _ _ c.in-Some.field-0 c.in-Finished.value c.find.ensures c.in-Some.is c.in-Finished.is in
    let e = reference_made _ c.of-reference.result c.of-work.result c.in-Some.field-0.pending c.in-Finished.value
    c.of-reference.ensures c.of-work.ensures in
    subst (λ w. IsStoreOf w c.args.unit c.of-work.result c.of-reference.result) c.self.view_is
    (record {
      pending = c.in-Some.field-0.pending;
      value = c.in-Finished.value;
      found = f;
      works = c.of-work.ensures;
      refers = e ∙ ap (λ b. relocated b (reference_for (shape_of c.in-Some.field-0.pending.instr) c.in-Finished.value))
          (bounds_at (the_view c.self.inside) c.size-size.result c.size-size.ensures.value);
    })
