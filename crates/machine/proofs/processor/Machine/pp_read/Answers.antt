use Rattle.std.proofs.Common.{◌≡◌, ◌+◌, ◌∷◌, ◌++◌, [], ap, refl, ◌∙◌, None, List, arith}
use Rattle.std.proofs.lemmas.Result.{err_from_is_err_and}
use Rattle.in_flight.specs.Tests.{refusal_in}
use Rattle.sequential.specs.Log.{ends_issuing, issued}
use Rattle.sequential.specs.Replay.{LogStep, ReadAt}
use Rattle.program_order.specs.declared.event.Done.TheVariants.{Word}
use Rattle.program_order.specs.declared.event.Event.TheVariants.{PpRead}
use Rattle.program_order.specs.Run.{done_by, makes_room}
use Rattle.program_order.specs.Peripheral.{word_read}
use Rattle.program_order.specs.Events.{allowed, after, tests_of}
use Rattle.machine.specs.contracts.processor.Machine.{the_view}
use Rattle.machine.proofs.making.Made.{granted}
use Rattle.machine.proofs.making.Answering.{err_event, growth_event, ok_event}
use Rattle.machine.proofs.making.Making.{still_kept, access_judged, read_word_made, owed_at_most, numbered_other}
use Rattle.machine.proofs.processor.Machine.pp_read.Goals.{After-self-1}
use Rattle.machine.proofs.processor.Machine.pp_read.Goals as goal

pub returns-in_err-judge_access : goal.returns-in_err-judge_access
unfolding allowed tests_of
returns-in_err-judge_access c =
    let p = err_from_is_err_and c.from_residual.result c.from_residual.ensures.1 in
    rw (p.1, p.2) (err_event (the_view c.self.inside) c.args.self.now _ (PpRead c.args.at)
    c.in_err-judge_access.field-0.0 c.self.invariant c.self.view_is
    (access_judged (the_view c.self.inside) (PpRead c.args.at) c.args.at c.size-size.result _ _
    c.size-size.ensures.value refl c.judge_access.ensures.answer (ap refusal_in c.in_err-judge_access.was)) refl)

pub returns-then-is_err : goal.returns-then-is_err
unfolding allowed tests_of makes_room
returns-then-is_err c =
    growth_event (the_view c.self.inside) c.args.self.now _ (PpRead c.args.at) c.self.invariant
    c.self.view_is refl
    (access_judged (the_view c.self.inside) (PpRead c.args.at) c.args.at c.size-size.result _ _
    c.size-size.ensures.value refl c.judge_access.ensures.answer (ap refusal_in c.in_ok-judge_access.was))
    (ap (λ (l : List LogStep). record (the_view c.self.inside) { log = l }) c.reserve.ensures.steps ∙ c.self.view_is)

made_allowed : (c : After-self-1) → allowed (the_view c.self.inside) (PpRead c.args.at) ≡ None
unfolding allowed tests_of
made_allowed c =
    access_judged (the_view c.self.inside) (PpRead c.args.at) c.args.at c.size-size.result _ _
    c.size-size.ensures.value refl c.judge_access.ensures.answer (ap refusal_in c.in_ok-judge_access.was)

logged_after : (c : After-self-1) → c.read_at.new.self.steps ≡ c.self.inside.log.steps ++ ReadAt c.args.at ∷ []
logged_after c = c.read_at.ensures.steps ∙ ap (λ (l : List LogStep). l ++ ReadAt c.args.at ∷ []) c.reserve.ensures.steps

new_processor : (c : After-self-1)
    → record (the_view c.self.inside) {
      log = c.read_at.new.self.steps;
      accessed = c.self.inside.accessed + 1;
    } ≡ after (the_view c.self.inside) (PpRead c.args.at)
new_processor c = read_word_made (the_view c.self.inside) c.args.at c.read_at.new.self.steps (logged_after c)

pub invariant_of-self-2 : goal.invariant_of-self-2
unfolding issued
invariant_of-self-2 c =
    let made = granted c.reserve.result _ c.is_err.result c.is_err.ensures.value c.if-is_err.false
    c.reserve.ensures.room in
    let spent = c.read_at.ensures.room in
    still_kept (the_view c.self.inside) _ (PpRead c.args.at) c.self.inside.log c.read_at.new.self (made_allowed c)
    (new_processor c) c.self.invariant
    (owed_at_most (ends_issuing c.read_at.new.self.steps) c.self.inside.request c.read_at.new.self.room
    (omega (arith, made, spent)))
    (numbered_other c.self.inside.in_flight.last c.self.inside.log.steps c.read_at.new.self.steps
    (ReadAt c.args.at) refl (logged_after c) c.self.invariant.numbered) c.self.invariant.limit

pub returns : goal.returns
unfolding done_by word_read
returns c =
    ok_event (the_view c.self.inside) c.args.self.now _ (PpRead c.args.at) (Word c.load-word.result)
    c.self.invariant c.self.view_is (made_allowed c) (ap Word c.load-word.ensures) (new_processor c)
