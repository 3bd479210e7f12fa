-- What a refusal says about the state that the log leads to.
use Rattle.std.proofs.Common.{◌≡◌, ◌⊎◌, ◌||◌, ℕ, Bool, true, false, List, [], ◌∷◌, Option, Some, None, refl}
use Rattle.std.proofs.Common.{sym, ap, ◌∙◌, subst, get_or, ⊎_elim, arith}
use Rattle.std.specs.Prelude.{◌&&◌, not, is_some, is_none, unwrap_or, Result, Ok, Err, IfErr}
use Rattle.instructions.specs.declared.refusal.Halt.{Halt}
use Rattle.instructions.specs.declared.refusal.Halt.TheVariants.{Stop}
use Rattle.instructions.specs.declared.refusal.Refusal.{Refusal}
use Rattle.instructions.specs.declared.refusal.Refusal.TheVariants.{Halted, Faulted, OutOfMemory, MidWord}
use Rattle.instructions.specs.Each.{Each}
use Rattle.sequential.specs.declared.fetching.Fetched.{Fetched}
use Rattle.sequential.specs.declared.state.State.{State}
use Rattle.sequential.specs.State.{Bounds, or_fault}
use Rattle.in_flight.specs.declared.pending.Pending.{Pending}
use Rattle.in_flight.specs.Lookup.{is_pending}
use Rattle.in_flight.specs.Tests.{Test, refusal_of, reservation_tests}
use Rattle.in_flight.proofs.asking.Finding.{refusal_none}
use Rattle.program_order.specs.declared.event.Done.{Done}
use Rattle.program_order.specs.declared.event.Done.TheVariants.{Word}
use Rattle.program_order.specs.declared.event.Event.{Event}
use Rattle.program_order.specs.declared.event.Event.TheVariants.{Issue, Exchange, PpRead}
use Rattle.program_order.specs.Complete.{complete}
use Rattle.program_order.specs.Events.{after, allowed, tests_of}
use Rattle.program_order.specs.Exchange.{exchange_tests}
use Rattle.program_order.specs.Issue.{issue_tests}
use Rattle.program_order.specs.Processor.{Processor, completed}
use Rattle.program_order.specs.Refusals.{may_refuse}
use Rattle.program_order.specs.Peripheral.{after_pp_read}
use Rattle.program_order.specs.Run.{IsAnswer, answer_of, done_by, settled}
use Rattle.program_order.specs.Telling.{IsWhy}
use Rattle.program_order.proofs.Opened.{refusals_by_event}
use Rattle.program_order.proofs.effects.Completing.{complete-change, complete-halted, each_all}
use Rattle.program_order.proofs.effects.OnePending.{finish_effects-or_fault}
use Rattle.program_order.proofs.keeping.Naming.{answered_err, one_of, refusal_named}
use Rattle.program_order.proofs.keeping.Numbering.{ok_done}
use Rattle.program_order.proofs.theorem.Theorem.{completed_read, drained_completed, made_allowed, not_pending}

-- ---- a fault stays to the completed state ----

complete-fault : (b : Bounds) (s : State) (ms : List Pending) → s.fault ≡ true → (complete b s ms).fault ≡ true
unfolding or_fault
complete-fault b s ms h =
    let m = complete-change b (λ x. or_fault x true) ms (each_all _ (λ m x. finish_effects-or_fault b x m true) ms) s in
    marked (complete b s ms) (complete b (or_fault s true) ms) (sym m) (ap (λ x. complete b x ms) (is_marked s h))
  where
    is_marked : (x : State) → x.fault ≡ true → or_fault x true ≡ x
    is_marked x e = ap (λ f. record x { fault = f || true }) e ∙ ap (λ f. record x { fault = f }) (sym e)

    or_true : (f : Bool) → (f || true) ≡ true
    or_true true = refl
    or_true false = refl

    marked : (x y : State) → or_fault x true ≡ y → y ≡ x → x.fault ≡ true
    marked x y e i = ap (λ (z : State). z.fault) (sym i ∙ sym e) ∙ or_true x.fault

-- ---- the first refusal ----

-- the first test refuses, or a later one
first_or_rest : (t : Test) (ts : List Test) (k : Refusal) → refusal_of (t ∷ ts) ≡ Some k
    → ((t.fails ≡ true) × (t.refusal ≡ k)) ⊎ ((t.fails ≡ false) × (refusal_of ts ≡ Some k))
unfolding refusal_of
first_or_rest t ts k h = grind arith

-- ---- an issue ----

unfoldable is_other : Refusal → Bool
is_other (Halted halt) = false
is_other Faulted = false
is_other _ = true

reservations_other : (ms : List Pending) (g : Fetched) → Each (λ t. is_other t.refusal ≡ true) (reservation_tests ms g)
unfolding reservation_tests is_other
reservations_other ms g = grind arith

halt_is : (o : Option Halt) (h : Halt) → is_some o ≡ true → Halted (unwrap_or o Stop) ≡ Halted h → o ≡ Some h
halt_is None h e i = absurd (cc)
halt_is (Some x) h e i = cc

issue_halted : (w : Processor) (h : Halt) → allowed w Issue ≡ Some (Halted h) → w.state.halt ≡ Some h
unfolding allowed tests_of issue_tests is_other
issue_halted w h e =
    ⊎_elim (λ x. halt_is w.state.halt h x.0 x.1)
    (λ x. ⊎_elim (λ y. let k = y.1 in absurd (cc))
    (λ y.
    let k = one_of is_other _ (Halted h) (refl, (refl, (refl, (refl, reservations_other w.pending _)))) y.1 in
    absurd (cc))
    (first_or_rest _ _ (Halted h) x.1))
    (first_or_rest _ _ (Halted h) e)

issue_faulted : (w : Processor) → allowed w Issue ≡ Some Faulted → w.state.fault ≡ true
unfolding allowed tests_of issue_tests is_other
issue_faulted w e =
    ⊎_elim (λ x. let k = x.1 in absurd (cc))
    (λ x. ⊎_elim (λ y. y.0)
    (λ y.
    let k = one_of is_other _ Faulted (refl, (refl, (refl, (refl, reservations_other w.pending _)))) y.1 in
    absurd (cc))
    (first_or_rest _ _ Faulted x.1))
    (first_or_rest _ _ Faulted e)

-- ---- an exchange ----

none_left : refusal_of [] ≡ Some MidWord → ⊥
unfolding refusal_of
none_left k = cc

record IsMidWord (w : Processor) : Type 0 where
  pub drained : w.pending ≡ []
  pub halt : w.state.halt ≡ None
  pub fault : w.state.fault ≡ false
  pub held : is_some w.state.position.held ≡ true

in_mid_word : (w : Processor) → is_pending w.pending ≡ false
    → (is_none w.state.halt && (not w.state.fault && is_some w.state.position.held)) ≡ true → IsMidWord w
in_mid_word w p h = grind (arith, not_pending w.pending p)

exchange_mid_word : (w : Processor) → allowed w Exchange ≡ Some MidWord → IsMidWord w
unfolding allowed tests_of exchange_tests
exchange_mid_word w e =
    ⊎_elim (λ x. let k = x.1 in absurd (cc))
    (λ x. ⊎_elim (λ y. let k = y.1 in absurd (cc))
    (λ y. ⊎_elim (λ z. in_mid_word w y.0 z.0) (λ z. absurd (none_left z.1)) (first_or_rest _ _ MidWord y.1))
    (first_or_rest _ _ MidWord x.1))
    (first_or_rest _ _ MidWord e)

-- ---- any event ----

halted_issue : (e : Event) (h : Halt) → may_refuse e (Halted h) ≡ true → e ≡ Issue
unfolding refusals_by_event
halted_issue e h i = grind arith

faulted_issue : (e : Event) → may_refuse e Faulted ≡ true → e ≡ Issue
unfolding refusals_by_event
faulted_issue e i = grind arith

mid_word_exchange : (e : Event) → may_refuse e MidWord ≡ true → e ≡ Exchange
unfolding refusals_by_event
mid_word_exchange e i = grind arith

why : (w : Processor) (e : Event) (k : Refusal) → allowed w e ≡ Some k → IsWhy (completed w) k
unfolding completed
why w e k a = record {
  halted = λ h i.
      let b : allowed w e ≡ Some (Halted h) = a ∙ ap Some i in
      let is = halted_issue e h (refusal_named w e (Halted h) b) in grind (arith, complete-halted, issue_halted);
  faulted = λ i.
      let b : allowed w e ≡ Some Faulted = a ∙ ap Some i in
      let is = faulted_issue e (refusal_named w e Faulted b) in grind (arith, complete-fault, issue_faulted);
  mid_word = λ i.
      let b : allowed w e ≡ Some MidWord = a ∙ ap Some i in
      let is = mid_word_exchange e (refusal_named w e MidWord b) in
      let m = exchange_mid_word w (ap (allowed w) (sym is) ∙ b) in grind (arith, drained_completed);
}

wanting : (s : State) (k : Refusal) → ◌≡◌ {A = Result Done Refusal} (Err k) (Err OutOfMemory) → IsWhy s k
wanting s k e = record { halted = λ h i. absurd (cc); faulted = λ i. absurd (cc); mid_word = λ i. absurd (cc) }

pub answer_why : (w : Processor) (e : Event) (a : Result Done Refusal) → IsAnswer w e a
    → IfErr a (λ k. IsWhy (completed w) k)
unfolding answer_of
answer_why w e a h = grind (arith, why, answered_err, wanting)

-- ---- what a made event tells ----

-- an exchange is made only if one was requested
pub exchange_asked : (w : Processor) → allowed w Exchange ≡ None → (n : ℕ) × (w.request ≡ Some n)
unfolding allowed tests_of exchange_tests
exchange_asked w h = by_request w.request refl (refusal_none _ h).0
  where
    by_request : (o : Option ℕ) → w.request ≡ o → is_none o ≡ false → (n : ℕ) × (w.request ≡ Some n)
    by_request None e k = absurd (cc)
    by_request (Some n) e k = (n, e)

-- the word that a peripheral processor read is in the state that the log leads to
pub word_told : (w v : Processor) (a : ℕ) (r : Result Done Refusal) (d : Done) → IsAnswer w (PpRead a) r
    → v ≡ settled w (PpRead a) r → r ≡ Ok d → d ≡ Word (get_or (completed v).memory a 0)
unfolding done_by settled after after_pp_read completed
word_told w v a r d i s o =
    let k : IsAnswer w (PpRead a) (Ok d) = subst (IsAnswer w (PpRead a)) o i in
    let free = made_allowed w (PpRead a) d k in cc (ok_done w (PpRead a) d k free, completed_read w a free)
