use Rattle.std.proofs.Common.{◌≡◌, ◌+◌, ◌∷◌, ◌++◌, [], ap, refl, ◌∙◌, sym, None, List, ℕ, arith}
use Rattle.std.proofs.lemmas.Result.{err_from_is_err_and}
use Rattle.in_flight.specs.Tests.{refusal_in}
use Rattle.relocation.specs.Saved.{original}
use Rattle.sequential.specs.Log.{ends_issuing, issued}
use Rattle.sequential.specs.Replay.{LogStep, Wrote}
use Rattle.program_order.specs.declared.event.Done.TheVariants.{Made}
use Rattle.program_order.specs.declared.event.Event.TheVariants.{PpWrite}
use Rattle.program_order.specs.Run.{done_by, makes_room}
use Rattle.program_order.specs.Events.{allowed, after, tests_of}
use Rattle.machine.specs.contracts.processor.Machine.{the_view}
use Rattle.machine.proofs.making.Saving.{saved_size}
use Rattle.machine.proofs.making.Made.{granted}
use Rattle.machine.proofs.making.Answering.{err_event, growth_event, ok_event}
use Rattle.machine.proofs.making.Making.{still_kept, access_judged, write_word_made, owed_at_most, numbered_other}
use Rattle.machine.proofs.processor.Machine.pp_write.Goals.{After-self-1}
use Rattle.machine.proofs.processor.Machine.pp_write.Goals as goal

pub returns-in_err-judge_access : goal.returns-in_err-judge_access
unfolding allowed tests_of
returns-in_err-judge_access c =
    let p = err_from_is_err_and c.from_residual.result c.from_residual.ensures.1 in
    rw (p.1, p.2) (err_event (the_view c.self.inside) c.args.self.now _ (PpWrite c.args.at c.args.word)
    c.in_err-judge_access.field-0.0 c.self.invariant c.self.view_is
    (access_judged (the_view c.self.inside) (PpWrite c.args.at c.args.word) c.args.at c.size-size.result _ _
    c.size-size.ensures.value refl c.judge_access.ensures.answer (ap refusal_in c.in_err-judge_access.was)) refl)

pub returns-then-is_err : goal.returns-then-is_err
unfolding allowed tests_of makes_room
returns-then-is_err c =
    growth_event (the_view c.self.inside) c.args.self.now _ (PpWrite c.args.at c.args.word) c.self.invariant
    c.self.view_is refl
    (access_judged (the_view c.self.inside) (PpWrite c.args.at c.args.word) c.args.at c.size-size.result _ _
    c.size-size.ensures.value refl c.judge_access.ensures.answer (ap refusal_in c.in_ok-judge_access.was))
    (ap (λ (l : List LogStep). record (the_view c.self.inside) { log = l }) c.reserve.ensures.steps ∙ c.self.view_is)

made_allowed : (c : After-self-1) → allowed (the_view c.self.inside) (PpWrite c.args.at c.args.word) ≡ None
unfolding allowed tests_of
made_allowed c =
    access_judged (the_view c.self.inside) (PpWrite c.args.at c.args.word) c.args.at c.size-size.result _ _
    c.size-size.ensures.value refl c.judge_access.ensures.answer (ap refusal_in c.in_ok-judge_access.was)

logged_after : (c : After-self-1) → c.wrote.new.self.steps ≡ c.self.inside.log.steps ++ Wrote c.args.at c.args.word ∷ []
logged_after c = c.wrote.ensures.steps ∙ ap (λ (l : List LogStep). l ++ Wrote c.args.at c.args.word ∷ [])
    c.reserve.ensures.steps

new_processor : (c : After-self-1)
    → record (the_view c.self.inside) {
      state = c.perform.new.state;
      log = c.wrote.new.self.steps;
      accessed = c.self.inside.accessed + 1;
      boot_memory = original c.perform.new.saved c.perform.new.state.memory;
    } ≡ after (the_view c.self.inside) (PpWrite c.args.at c.args.word)
new_processor c =
    ap (λ (b : List ℕ). record (the_view c.self.inside) {
      state = c.perform.new.state;
      log = c.wrote.new.self.steps;
      accessed = c.self.inside.accessed + 1;
      boot_memory = b;
    }) c.perform.ensures.kept
    ∙ write_word_made (the_view c.self.inside) c.args.at c.args.word c.perform.new.state c.wrote.new.self.steps
    c.perform.ensures.after (logged_after c)

pub invariant_of-self-2 : goal.invariant_of-self-2
unfolding issued
invariant_of-self-2 c =
    let made = granted c.reserve.result _ c.is_err.result c.is_err.ensures.value c.if-is_err.false
    c.reserve.ensures.room in
    let spent = c.wrote.ensures.room in
    still_kept (the_view c.self.inside) _ (PpWrite c.args.at c.args.word) c.self.inside.log c.wrote.new.self
    (made_allowed c)
    (new_processor c) c.self.invariant
    (owed_at_most (ends_issuing c.wrote.new.self.steps) c.self.inside.request c.wrote.new.self.room
    (omega (arith, made, spent)))
    (numbered_other c.self.inside.in_flight.last c.self.inside.log.steps c.wrote.new.self.steps
    (Wrote c.args.at c.args.word) refl (logged_after c) c.self.invariant.numbered) c.self.invariant.limit

pub returns : goal.returns
unfolding done_by
returns c =
    ok_event (the_view c.self.inside) c.args.self.now _ (PpWrite c.args.at c.args.word) Made
    c.self.invariant c.self.view_is (made_allowed c) refl (new_processor c)

pub perform-requires-clause-sized : goal.perform-requires-clause-sized
perform-requires-clause-sized c =
    sym (saved_size (the_view c.self.inside) c.self.inside.saved c.self.invariant.replay refl)
