-- An issue is refused for its budget only after that many instructions were issued.
use Rattle.std.proofs.Common.{◌≡◌, ◌⊎◌, Bool, true, false, List, ◌∷◌, Some, cond, refl, sym}
use Rattle.std.proofs.Common.{◌∙◌, ap, inl, inr, ⊎_elim, arith, leb}
use Rattle.std.proofs.lemmas.Bool.{leb-true}
use Rattle.std.specs.Prelude.{Err}
use Rattle.instructions.specs.declared.refusal.Refusal.{Refusal}
use Rattle.instructions.specs.declared.refusal.Refusal.TheVariants.{Budget}
use Rattle.instructions.specs.Each.{Each}
use Rattle.sequential.specs.declared.fetching.Fetched.{Fetched}
use Rattle.sequential.specs.declared.fetching.Fetched.TheVariants.{Halting, Passing, Taking}
use Rattle.sequential.specs.Log.{issued}
use Rattle.in_flight.specs.declared.pending.Pending.{Pending}
use Rattle.in_flight.specs.Tests.{Test, refusal_of, reservation_tests}
use Rattle.program_order.specs.declared.event.Event.TheVariants.{Issue, Exchange}
use Rattle.program_order.specs.Events.{allowed, tests_of}
use Rattle.program_order.specs.Issue.{issue_tests}
use Rattle.program_order.specs.Invariant.{IsWithinBudget}
use Rattle.program_order.specs.Processor.{Processor}
use Rattle.program_order.specs.Refusals.{may_refuse, is_exchange_refusal}
use Rattle.program_order.specs.Run.{IsAnswer, answer_of}
use Rattle.program_order.proofs.keeping.Naming.{answered_err, one_of}

-- the first test refuses, or a later one
first_or_rest : (t : Test) (ts : List Test) (k : Refusal) → refusal_of (t ∷ ts) ≡ Some k
    → ((t.fails ≡ true) × (t.refusal ≡ k)) ⊎ (refusal_of ts ≡ Some k)
unfolding refusal_of
first_or_rest t ts k h = by_test t.fails refl h
  where
    by_test : (f : Bool) → t.fails ≡ f → cond f (Some t.refusal) (refusal_of ts) ≡ Some k
        → ((t.fails ≡ true) × (t.refusal ≡ k)) ⊎ (refusal_of ts ≡ Some k)
    by_test true e i = inl (e, cc)
    by_test false e i = inr i

unfoldable is_other : Refusal → Bool
is_other Budget = false
is_other _ = true

reservations_other : (ms : List Pending) (g : Fetched) → Each (λ t. is_other t.refusal ≡ true) (reservation_tests ms g)
unfolding reservation_tests is_other
reservations_other ms (Halting h position) = tt
reservations_other ms (Passing position) = tt
reservations_other ms (Taking i position) = (refl, (refl, tt))

used_up : (w : Processor) → allowed w Issue ≡ Some Budget → leb w.budget (issued w.log) ≡ true
unfolding allowed tests_of issue_tests is_other
used_up w e =
    ⊎_elim (λ x. let k = x.1 in absurd (cc))
    (λ x. ⊎_elim (λ y. let k = y.1 in absurd (cc))
    (λ y. ⊎_elim (λ z. z.0)
    (λ z.
    let k = one_of is_other _ Budget (refl, (refl, (refl, reservations_other w.pending _))) z in
    absurd (cc))
    (first_or_rest _ _ Budget y))
    (first_or_rest _ _ Budget x))
    (first_or_rest _ _ Budget e)

pub issue_budget : (w : Processor) (k : Refusal) → IsAnswer w Issue (Err k) → IsWithinBudget w → k ≡ Budget
    → issued w.log ≡ w.budget
unfolding answer_of
issue_budget w k (inl h) m b =
    let l = leb-true w.budget (issued w.log) (used_up w (answered_err _ (allowed w Issue) k h ∙ ap Some b)) in
    omega (arith, l, m)
issue_budget w k (inr r) m b = let o = r.want in absurd (cc)

-- an exchange is never refused for the budget
pub exchange_budget : (w : Processor) (k : Refusal) → may_refuse Exchange k ≡ true → k ≡ Budget
    → issued w.log ≡ w.budget
unfolding may_refuse is_exchange_refusal
exchange_budget w k n b = let m = sym (ap is_exchange_refusal b) ∙ n in absurd (cc)
