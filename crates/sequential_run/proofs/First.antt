-- The first request of a list.
use Rattle.std.proofs.Common.{◌≡◌, ℕ, ◌<◌, List, [], ◌∷◌, length, slice_index_or, sym, ap, arith}

pub first_of : (asks : List (ℕ × ℕ)) (first : ℕ × ℕ) → 0 < length asks → first ≡ slice_index_or asks 0 first
    → (rest : List (ℕ × ℕ)) × (asks ≡ first ∷ rest)
first_of [] first h e = absurd (omega (arith, h))
first_of (ask ∷ asks) first h e = (asks, ap (λ x. x ∷ asks) (sym e))
