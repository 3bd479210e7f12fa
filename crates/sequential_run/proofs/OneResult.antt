-- A run has one result.
use Rattle.std.proofs.Common.{◌≡◌, ◌<◌, ◌≤◌, ◌-◌, ℕ, zero, suc, Bool, true, false, List}
use Rattle.std.proofs.Common.{refl, sym, ap, subst, ◌∙◌, arith, ltb, ltb-true, ltb-false}
use Rattle.sequential.specs.declared.state.State.{State}
use Rattle.sequential.specs.Replay.{LogStep}
use Rattle.sequential_run.specs.Turns.{Moment, Ends, next_turn, take_turn, turns, begun}
use Rattle.sequential_run.specs.Run.{EndsAt, IsSequentialRun}
use Rattle.sequential_run.proofs.Ordered.{one_order}
use Rattle.sequential_run.proofs.Turning.{more_turns}

-- ---- after the end nothing happens ----

stays : (budget n : ℕ) (m : Moment) → next_turn budget m ≡ Ends → turns budget n m ≡ m
unfolding turns take_turn
stays budget zero m e = refl
stays budget (suc n) m e = ap (λ t. turns budget n (take_turn m t)) e ∙ stays budget n m e

later_end : (budget : ℕ) (m a b : Moment) (i j : ℕ) → i ≤ j → turns budget i m ≡ a → turns budget j m ≡ b
    → next_turn budget a ≡ Ends → a ≡ b
later_end budget m a b i j l h k e = cc (stays budget (j - i) a e, more_turns budget i (j - i) j m (omega (arith, l)))

one_end : (budget : ℕ) (m a b : Moment) → EndsAt budget m a → EndsAt budget m b → a ≡ b
one_end budget m a b x y = by_order (ltb y.count x.count) refl
  where
    by_order : (t : Bool) → ltb y.count x.count ≡ t → a ≡ b
    by_order true l = sym (later_end budget m b a y.count x.count
        (let k : y.count < x.count = ltb-true y.count x.count l in omega (arith, k)) y.reached x.reached y.ends)
    by_order false l = search (arith, later_end, ltb-false)

-- ---- the law ----

pub one_result : (memory : List ℕ) (start : ℕ) (after : List (ℕ × ℕ)) (free : List ℕ) (budget : ℕ)
    (log other : List LogStep) (s t : State) → IsSequentialRun memory start after free budget log s
    → IsSequentialRun memory start after free budget other t → (log ≡ other) × (s ≡ t)
one_result memory start after free budget log other s t a b =
    let order = one_order a.asks b.asks a.ordered.in_order b.ordered.in_order
    (λ z. a.ordered.same z ∙ sym (b.ordered.same z)) in
    let last : a.last ≡ b.last = one_end budget (begun memory b.asks free) a.last b.last
    (subst (λ l. EndsAt budget (begun memory l free) a.last) order a.ends) b.ends in grind arith
