-- The instructions of a log that go to a unit, counted step by step.
use Rattle.std.specs.Prelude.{option_and_then}
use Rattle.std.proofs.Common.{◌≡◌, ◌+◌, List, [], ◌∷◌, ◌++◌, Option, Some, None, arith}
use Rattle.sequential.specs.declared.state.State.{State}
use Rattle.sequential.specs.Replay.{LogStep, do_log_step, replay}
use Rattle.sequential.specs.UnitIssues.{taken_at, then_taken, taken}

-- one more step after a replay that reached a state
pub taken-push : (s t : State) (xs : List LogStep) (x : LogStep) → replay s xs ≡ Some t
    → taken s (xs ++ x ∷ []) ≡ taken s xs + taken_at t x
unfolding taken replay then_taken
taken-push s t [] x h = grind arith
taken-push s t (y ∷ ys) x h = behind (do_log_step s y) (λ u. taken-push u t ys x) h
  where
    behind : (o : Option State)
        → ((u : State) → replay u ys ≡ Some t → taken u (ys ++ x ∷ []) ≡ taken u ys + taken_at t x)
        → option_and_then (λ u. replay u ys) o ≡ Some t
        → taken_at s y + then_taken o (λ u. taken u (ys ++ x ∷ []))
        ≡ taken_at s y + then_taken o (λ u. taken u ys) + taken_at t x
    behind None ih k = cc
    behind (Some u) ih k = let e = ih u k in omega (arith, e)
