-- The statement of an event, from its answer and the machine after it.
use Rattle.std.proofs.Common.{◌≡◌, ◌∙◌, true, Some, None, ap, inl, inr, refl, subst, sym}
use Rattle.std.specs.Prelude.{Result, Ok, Err, MatchResult}
use Rattle.instructions.specs.declared.refusal.Refusal.{Refusal}
use Rattle.instructions.specs.declared.refusal.Refusal.TheVariants.{OutOfMemory}
use Rattle.sequential.specs.Log.{Logged}
use Rattle.in_flight.specs.Tests.{refusal_in}
use Rattle.program_order.specs.declared.event.Done.{Done}
use Rattle.program_order.specs.declared.event.Done.TheVariants.{Made}
use Rattle.program_order.specs.declared.event.Event.{Event}
use Rattle.program_order.specs.Events.{allowed, after}
use Rattle.program_order.specs.Invariant.{IsReplay}
use Rattle.program_order.specs.Processor.{Processor}
use Rattle.program_order.specs.Run.{IsAnswer, done_by, makes_room, settled}
use Rattle.program_order.specs.Telling.{IsNumbered}
use Rattle.program_order.proofs.keeping.Naming.{answer_named}
use Rattle.program_order.proofs.keeping.Numbering.{noted}
use Rattle.program_order.proofs.keeping.Telling.{answer_why, word_told}
use Rattle.program_order.proofs.reaching.Reached.{event_goes_on}
use Rattle.machine.specs.OneEvent.{IsEvent}
use Rattle.machine.specs.inner.View.{IsKept}
use Rattle.machine.proofs.making.Made.{made_answer, made_after}
use Rattle.machine.proofs.making.Making.{err_answer, err_after, ok_answer, ok_after}

pub is_event : (w v : Processor) (e : Event) (a : Result Done Refusal) → IsReplay w → IsNumbered w → IsAnswer w e a
    → v ≡ settled w e a → IsEvent w e a v
is_event w v e a r n h k = record {
  answer = h;
  after = k;
  named = answer_named w e a h;
  why = answer_why w e a h;
  noted = λ note. noted w v e a note r n h k;
  word = λ at i done. word_told w v at a done (subst (λ x. IsAnswer w x a) i h) (k ∙ ap (λ x. settled w x a) i);
  reached = event_goes_on w v e a h k;
}

-- ---- from the machine that the fields represent ----

kept_event : {log : Logged} (w old new : Processor) (e : Event) (a : Result Done Refusal) → IsKept w log → w ≡ old
    → IsAnswer old e a → new ≡ settled old e a → IsEvent old e a new
kept_event w old new e a k s h m =
    is_event old new e a (subst IsReplay s k.replay) (subst IsNumbered s k.numbers) h m

-- the event is made
pub ok_event : {log : Logged} (w old new : Processor) (e : Event) (d : Done) → IsKept w log → w ≡ old
    → allowed w e ≡ None → d ≡ done_by w e → new ≡ after w e → IsEvent old e (Ok d) new
ok_event w old new e d k s a i m =
    kept_event w old new e (Ok d) k s (inl (ok_answer w old e d s a i)) (ok_after w old new e d s m)

-- the event is refused
pub err_event : {log : Logged} (w old new : Processor) (e : Event) (r : Refusal) → IsKept w log → w ≡ old
    → allowed w e ≡ Some r → new ≡ old → IsEvent old e (Err r) new
err_event w old new e r k s a m =
    kept_event w old new e (Err r) k s (inl (err_answer w old e r s a)) (err_after old new e r m)

-- the log can't grow
pub growth_event : {log : Logged} (w old new : Processor) (e : Event) → IsKept w log → w ≡ old → makes_room e ≡ true
    → allowed w e ≡ None → new ≡ old → IsEvent old e (Err OutOfMemory) new
growth_event w old new e k s g a m =
    kept_event w old new e (Err OutOfMemory) k s
    (inr (record { want = refl; growing = g; otherwise_allowed = ap (λ x. allowed x e) (sym s) ∙ a }))
    (err_after old new e OutOfMemory m)

-- the answer says only that the event was made, or refuses it
pub made_event : {T : Type 0} {log : Logged} (w old new : Processor) (e : Event) (r : Result T Refusal)
    (a : Result Done Refusal) → IsKept w log → w ≡ old → Made ≡ done_by w e → allowed w e ≡ refusal_in r
    → MatchResult r (λ _. new ≡ after w e) (λ k. new ≡ w) → MatchResult r (λ _. a ≡ Ok Made) (λ k. a ≡ Err k)
    → IsEvent old e a new
made_event w old new e r a k s d g m h =
    kept_event w old new e a k s (inl (made_answer w old e r a s d g h)) (made_after w old new e r a s m h)
