-- Several next events, one after another.
use Rattle.std.specs.Prelude.{◌≡◌, ◌≤◌, ◌<◌, ◌+◌, ◌-◌, ℕ, zero, suc, Bool, true, false, if◌then◌else◌, List, [], ◌∷◌, ◌++◌}
use Rattle.std.specs.Prelude.{length, Option, Some, None, Result, Ok, Err, is_none, slice_index_or, unwrap_or}
use native.Mathlib.Numerals.{unary_clauses}
use Rattle.std.proofs.Common.{refl, sym, ap, ◌∙◌, subst, true≢false, inl, inr, arith, length-append}
use Rattle.instructions.specs.declared.instr.Unit.{Unit as FunctionalUnit}
use Rattle.instructions.specs.declared.refusal.Refusal.{Refusal}
use Rattle.hopper.specs.Hopper.{bank_of}
use Rattle.in_flight.specs.declared.pending.Outstanding.TheVariants.{Entered, Accepted}
use Rattle.in_flight.specs.declared.pending.Pending.{Pending}
use Rattle.in_flight.specs.declared.pending.Phase.{Phase}
use Rattle.in_flight.specs.declared.pending.Phase.TheVariants.{Before, After}
use Rattle.in_flight.specs.declared.pending.Stage.TheVariants.{Unread, Read, Finished}
use Rattle.program_order.specs.declared.event.Done.{Done}
use Rattle.program_order.specs.declared.event.Event.{Event}
use Rattle.program_order.specs.declared.event.Event.TheVariants.{Issue, Exchange, Accept, BankFree}
use Rattle.program_order.specs.Drain.{next_in, next_of}
use Rattle.program_order.specs.Events.{after, allowed}
use Rattle.program_order.specs.Processor.{Processor}
use Rattle.program_order.specs.Reached.{GoesOn}
use Rattle.program_order.specs.Run.{IsAnswer, answer_by, answer_of, makes_room, settled, settled_all}
use Rattle.program_order.proofs.reaching.Reached.{goes_on, goes_on_then}
use Rattle.program_order.proofs.theorem.Theorem.{made_allowed}
use Rattle.embedding.specs.Advance.{Advances, GoesOnBySteps, NeverRests, rests_at, stepped, stepped_by, then_stepped}
use Rattle.embedding.specs.Keeping.{idle_event, next_event}

-- ---- one event ----

either_room : (b : Bool) (e f : Event) → makes_room e ≡ false → makes_room f ≡ false
    → makes_room (if b then e else f) ≡ false
either_room true e f h k = h
either_room false e f h k = k

in_room : (unit : FunctionalUnit) (phase : Phase) (busy : List Bool) → makes_room (next_in unit phase busy) ≡ false
unfolding next_in makes_room
in_room unit (Before Unread) busy = refl
in_room unit (Before (Read os)) busy = refl
in_room unit (Before (Finished v)) busy = refl
in_room unit (After (Entered p a access)) busy =
    either_room (slice_index_or busy (bank_of a) false) (BankFree (bank_of a)) (Accept p) refl refl
in_room unit (After (Accepted n word)) busy = refl

of_room : (pending : List Pending) (busy : List Bool) (idle : Event) → makes_room idle ≡ false
    → makes_room (unwrap_or (next_of pending busy) idle) ≡ false
unfolding next_of
of_room [] busy idle h = h
of_room (m ∷ ms) busy idle h = in_room m.unit m.phase busy

-- the next event needs no memory
next_room : (w : Processor) → makes_room (next_event w) ≡ false
unfolding makes_room
next_room w = of_room w.pending w.busy (idle_event w) (either_room _ Exchange Issue refl refl)

is_ok : Result Done Refusal → Bool
is_ok (Ok done) = true
is_ok (Err refusal) = false

ok_if : (done : Done) (o : Option Refusal) → is_none o ≡ is_ok (answer_by done o)
unfolding answer_by is_ok
ok_if done None = refl
ok_if done (Some refusal) = refl

-- a made event is one step
step_made : (w v : Processor) (e : Event) (done : Done) → e ≡ next_event w → IsAnswer w e (Ok done)
    → v ≡ settled w e (Ok done) → stepped w ≡ Some v
unfolding stepped settled
step_made w v e done n h s =
    let none : allowed w (next_event w) ≡ None = subst (λ x. allowed w x ≡ None) n (made_allowed w e done h) in
    ap (λ o. if is_none o then Some (after w (next_event w)) else None) none
    ∙ ap (λ x. Some (after w x)) (sym n) ∙ ap Some (sym s)

-- after a refused event there is no step
step_refused : (w : Processor) (e : Event) (refusal : Refusal) → e ≡ next_event w → IsAnswer w e (Err refusal)
    → stepped w ≡ None
unfolding stepped answer_of is_ok
step_refused w e refusal n (inl same) =
    let none : is_none (allowed w (next_event w)) ≡ false =
    subst (λ x. is_none (allowed w x) ≡ false) n (ok_if _ (allowed w e) ∙ ap is_ok (sym same)) in
    ap (λ b. if b then Some (after w (next_event w)) else None) none
step_refused w e refusal n (inr growth) =
    absurd (true≢false (sym growth.growing ∙ ap makes_room n ∙ next_room w))

-- ---- several ----

-- n events were made so far, and after none of them was the machine at rest at the address
pub record Going (most address : ℕ) (w v : Processor) (n : ℕ) : Type 0 where
  pub made : stepped_by n w ≡ Some v
  pub within : n ≤ most
  pub passed : NeverRests address n w
  pub onward : GoesOnBySteps w n v

pub going_none : (most address : ℕ) (w : Processor) → Going most address w w 0
unfolding stepped_by NeverRests settled_all
going_none most address w = record {
  made = refl;
  within = omega arith;
  passed = tt;
  onward = record { events = []; answers = []; counted = refl; reached = goes_on w w [] [] tt refl };
}

one_more : (w v x : Processor) (n : ℕ) (e : Event) (a : Result Done Refusal) → GoesOnBySteps w n v
    → GoesOn v (e ∷ []) (a ∷ []) x → GoesOnBySteps w (n + 1) x
one_more w v x n e a k h =
    let counted = k.counted in
    let more = length-append k.events (e ∷ []) in
    record {
      events = k.events ++ e ∷ [];
      answers = k.answers ++ a ∷ [];
      counted = omega (arith, counted, more);
      reached = goes_on_then w v x k.events (e ∷ []) k.answers (a ∷ []) k.reached h;
    }

one_made : (w v x : Processor) (n : ℕ) → stepped_by n w ≡ Some v → stepped v ≡ Some x → stepped_by (n + 1) w ≡ Some x
unfolding stepped_by then_stepped
one_made w v x n h k = simp unary_clauses (ap then_stepped h ∙ k)

some_same : (x y : Processor) → Some x ≡ Some y → x ≡ y
some_same x y h = cc

-- after one more event the machine isn't at rest at the address either
never_more : (address : ℕ) (w x : Processor) (n : ℕ) → NeverRests address n w → stepped_by (n + 1) w ≡ Some x
    → rests_at address x ≡ false → NeverRests address (n + 1) w
unfolding NeverRests
never_more address w x n h k r =
    simp unary_clauses (
      h,
      λ y m. subst (λ z. rests_at address z ≡ false)
          (some_same x y (sym (simp unary_clauses at k) ∙ m)) r,
    )

pub going_more : (most address : ℕ) (w v x : Processor) (n : ℕ) (e : Event) (a : Result Done Refusal) (done : Done)
    → Going most address w v n → n < most → e ≡ next_event v → IsAnswer v e a → x ≡ settled v e a
    → GoesOn v (e ∷ []) (a ∷ []) x → a ≡ Ok done → rests_at address x ≡ false → Going most address w x (n + 1)
going_more most address w v x n e a done k l i h s g o r =
    let made : stepped_by (n + 1) w ≡ Some x = one_made w v x n k.made
    (step_made v x e done i (subst (λ y. IsAnswer v e y) o h) (s ∙ ap (settled v e) o)) in
    record {
      made = made;
      within = omega (arith, l);
      passed = never_more address w x n k.passed made r;
      onward = one_more w v x n e a k.onward g;
    }

fewer : (address : ℕ) (n : ℕ) (w : Processor) → NeverRests address n w → NeverRests address (n - 1) w
unfolding NeverRests
fewer address zero w h = tt
fewer address (suc n) w h = simp unary_clauses (h.0)

pub all_made : (most address : ℕ) (w v : Processor) (n : ℕ) → Going most address w v n → most ≤ n
    → Advances most address w v most
all_made most address w v n k l =
    let within = k.within in
    let all : n ≡ most = omega (arith, within, l) in
    subst (λ m. Advances most address w v m) all (record {
      made = k.made;
      within = within;
      passed = fewer address n w k.passed;
      ended = inl all;
      onward = k.onward;
    })

pub rested : (most address : ℕ) (w v x : Processor) (n : ℕ) (e : Event) (a : Result Done Refusal) (done : Done)
    → Going most address w v n → n < most → e ≡ next_event v → IsAnswer v e a → x ≡ settled v e a
    → GoesOn v (e ∷ []) (a ∷ []) x → a ≡ Ok done → rests_at address x ≡ true → Advances most address w x (n + 1)
rested most address w v x n e a done k l i h s g o r =
    record {
      made = one_made w v x n k.made
          (step_made v x e done i (subst (λ y. IsAnswer v e y) o h) (s ∙ ap (settled v e) o));
      within = omega (arith, l);
      passed = subst (λ m. NeverRests address m w) (omega arith) k.passed;
      ended = inr (inl (omega arith, r));
      onward = one_more w v x n e a k.onward g;
    }

pub refused : (most address : ℕ) (w v x : Processor) (n : ℕ) (e : Event) (a : Result Done Refusal) (refusal : Refusal)
    → Going most address w v n → e ≡ next_event v → IsAnswer v e a → x ≡ settled v e a → a ≡ Err refusal
    → Advances most address w x n
unfolding settled
refused most address w v x n e a refusal k i h s o =
    let same : x ≡ v = s ∙ ap (settled v e) o in
    let none = step_refused v e refusal i (subst (λ y. IsAnswer v e y) o h) in
    subst (λ z. Advances most address w z n) (sym same) (record {
      made = k.made;
      within = k.within;
      passed = fewer address n w k.passed;
      ended = inr (inr none);
      onward = k.onward;
    })
