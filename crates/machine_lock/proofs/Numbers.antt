-- Reservations of steps at different positions have different numbers.
use Rattle.std.proofs.Common.{◌≡◌, ℕ, zero, suc, ◌<◌, ◌≤◌, true, Option, Some, None, List, [], ◌∷◌}
use Rattle.std.proofs.Common.{take, sym, ap, ◌∙◌, subst, arith, lt_of_not-le}
use native.Mathlib.Decide.{dec_le}
use Rattle.sequential.specs.declared.state.State.{State}
use Rattle.sequential.specs.Replay.{LogStep, boot, do_log_step}
use Rattle.sequential.specs.UnitIssues.{taken, then_taken}
use Rattle.machine_lock.specs.CallerKnowledge.{Known, is_in, AreApart, number_at, IsTaken, NumbersApart}

then_rises : (o : Option State) (f g : State → ℕ) → ((s : State) → f s ≤ g s) → then_taken o f ≤ then_taken o g
unfolding then_taken
then_rises None f g h = omega arith
then_rises (Some s) f g h = h s

-- the number of reservations doesn't fall as the log grows
rises : (s : State) (xs : List LogStep) (m n : ℕ) → m ≤ n → taken s (take m xs) ≤ taken s (take n xs)
unfolding taken
rises s xs zero n l = omega arith
rises s [] (suc m) n l = omega arith
rises s (x ∷ xs) (suc m) zero l = absurd (omega (arith, l))
rises s (x ∷ xs) (suc m) (suc n) l =
    let h = then_rises (do_log_step s x) (λ t. taken t (take m xs)) (λ t. taken t (take n xs))
    (λ t. rises t xs m n (omega (arith, l))) in
    omega (arith, h)

later : (memory : List ℕ) (log : List LogStep) (p q : ℕ) → p < q → IsTaken memory log q
    → number_at memory log p < number_at memory log q
later memory log p q less e = let h = rises (boot memory) log (suc p) q (omega (arith, less)) in omega (arith, h, e)

pub numbers_apart : (one other : Known) → AreApart one.mine other.mine → NumbersApart one other
numbers_apart one other apart p q a b e f same = by_order (dec_le p q) (dec_le q p)
  where
    by_order : Dec (p ≤ q) → Dec (q ≤ p) → ⊥
    by_order (yes l) (yes r) = let is : p ≡ q = omega arith in apart q (subst (λ k. is_in k one.mine ≡ true) is a) b
    by_order (yes l) (no r) = let less = later one.booted.memory one.log p q (lt_of_not-le r) f in omega
        (arith, less, same)
    by_order (no l) _ = let less = later one.booted.memory one.log q p (lt_of_not-le l) e in omega (arith, less, same)

pub apart_by : (a b x y : List ℕ) → a ≡ x → b ≡ y → AreApart x y → AreApart a b
apart_by a b x y e f h p i j = h p (ap (is_in p) (sym e) ∙ i) (ap (is_in p) (sym f) ∙ j)
