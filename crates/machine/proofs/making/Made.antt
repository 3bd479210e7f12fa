-- Events whose answer says only that they were made: the answer, and the machine afterwards.
use Rattle.std.proofs.Common.{◌≡◌, ◌≤◌, Bool, false, sym, ap, ◌∙◌, subst, true≢false}
use Rattle.std.specs.Prelude.{Result, Ok, Err, MatchResult}
use Rattle.std.specs.Result.{is_err}
use Rattle.instructions.specs.declared.refusal.Refusal.{Refusal}
use Rattle.in_flight.specs.Tests.{refusal_in}
use Rattle.program_order.specs.declared.event.Done.{Done}
use Rattle.program_order.specs.declared.event.Done.TheVariants.{Made}
use Rattle.program_order.specs.declared.event.Event.{Event}
use Rattle.program_order.specs.Events.{allowed, after}
use Rattle.program_order.specs.Processor.{Processor}
use Rattle.program_order.specs.Run.{done_by, answer_of, settled}
use Rattle.sequential.specs.Log.{Logged, ends_issuing, issued}
use Rattle.machine.specs.inner.View.{owed, IsKept}
use Rattle.machine.proofs.making.Making.{err_answer, err_after, ok_answer, ok_after, still_kept}

-- the answer is the answer to the event
pub made_answer : {T : Type 0} (w v : Processor) (e : Event) (r : Result T Refusal) (a : Result Done Refusal) → w ≡ v
    → Made ≡ done_by w e → allowed w e ≡ refusal_in r → MatchResult r (λ _. a ≡ Ok Made) (λ k. a ≡ Err k)
    → a ≡ answer_of v e
made_answer w v e (Ok x) a s d g h = h ∙ ok_answer w v e Made s g d
made_answer w v e (Err k) a s d g h = h ∙ err_answer w v e k s g

-- the machine is the one after the event, or unchanged
pub made_after : {T : Type 0} (w v n : Processor) (e : Event) (r : Result T Refusal) (a : Result Done Refusal) → w ≡ v
    → MatchResult r (λ _. n ≡ after w e) (λ k. n ≡ w) → MatchResult r (λ _. a ≡ Ok Made) (λ k. a ≡ Err k)
    → n ≡ settled v e a
made_after w v n e (Ok x) a s m h = ok_after w v n e Made s m ∙ ap (settled v e) (sym h)
made_after w v n e (Err k) a s m h = err_after v n e k (m ∙ s) ∙ ap (settled v e) (sym h)

-- a made event leaves the machine after it, and a refused event leaves the machine unchanged
pub left_made : {T : Type 0} (w n : Processor) (e : Event) (r : Result T Refusal) (x : T) → r ≡ Ok x → n ≡ after w e
    → MatchResult r (λ _. n ≡ after w e) (λ k. n ≡ w)
left_made w n e r x i m = subst (λ r. MatchResult r (λ _. n ≡ after w e) (λ k. n ≡ w)) (sym i) m

pub left_refused : {T : Type 0} (w n : Processor) (e : Event) (r : Result T Refusal) (k : Refusal) → r ≡ Err k → n ≡ w
    → MatchResult r (λ _. n ≡ after w e) (λ k. n ≡ w)
left_refused w n e r k i m = subst (λ r. MatchResult r (λ _. n ≡ after w e) (λ k. n ≡ w)) (sym i) m

-- a fact that holds in both cases
pub either_way : {T A : Type 0} (r : Result T Refusal) → MatchResult r (λ _. A) (λ k. A) → A
either_way (Ok x) h = h
either_way (Err k) h = h

-- the machine is kept, whether the event was made or refused
pub kept_either : {T : Type 0} (w n : Processor) (e : Event) (log : Logged) (r : Result T Refusal)
    → allowed w e ≡ refusal_in r → MatchResult r (λ _. n ≡ after w e) (λ k. n ≡ w) → IsKept w log
    → owed (ends_issuing log.steps) n.request ≤ log.room → n.last ≤ issued n.log → n.budget ≤ 10000000 → IsKept n log
kept_either w n e log (Ok x) a m k room numbered limit = still_kept w n e log log a m k room numbered limit
kept_either w n e log (Err y) a m k room numbered limit = subst (λ x. IsKept x log) (sym m) k

-- the value of an answer that isn't a refusal
pub granted : {T : Type 0} {A : Type 0} (r : Result T Refusal) (Q : Refusal → Type 0) (b : Bool) → b ≡ is_err r
    → b ≡ false → MatchResult r (λ _. A) Q → A
granted (Ok x) Q b e n h = h
granted (Err k) Q b e n h = absurd (true≢false (sym e ∙ n))
