-- Digits without leading zeros.
use Rattle.std.proofs.Common.{◌≡◌, ℕ, ◌≤◌, List, [], ◌∷◌, length, refl, arith}
use Rattle.device_text.specs.Pieces.{trimmed}

pub short_trimmed : (xs : List ℕ) → length xs ≤ 1 → trimmed xs ≡ xs
short_trimmed [] h = refl
short_trimmed (x ∷ []) h = refl
short_trimmed (x ∷ y ∷ more) h = absurd (omega arith)
