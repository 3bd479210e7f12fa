-- The parts of a text between separators.
use Rattle.std.proofs.Common.{◌≡◌, ℕ, ◌+◌, ◌-◌, ◌≤◌, cond, eqb, ltb, List, [], ◌∷◌, length, take, drop, Some, None}
use Rattle.std.proofs.Common.{arith}
use Rattle.std.proofs.lemmas.Bool.Decides.{nat_tests}
use Rattle.std.specs.List.{slice_split, position}
use Rattle.std.proofs.lemmas.List.Splits.{slice_split_first, slice_split_none}
use Rattle.std.proofs.lemmas.List.Quantifiers.{position-Some}
use Rattle.std.proofs.lemmas.List.Sums.{position_or_len_is, fails_before_first}
use Rattle.std.proofs.lemmas.List.{take_rest}

-- the part before the first separator, and the parts after it
pub split_found : (c : ℕ) (xs : List ℕ) (i : ℕ) → position (λ b. eqb b c) xs ≡ Some i
    → slice_split (λ b. eqb b c) xs ≡ take i xs
    ∷ slice_split (λ b. eqb b c) (take (length xs - (i + 1)) (drop (i + 1) xs))
split_found c xs i e = grind (arith, position-Some, position_or_len_is, take_rest, slice_split_first)

none_past : (p n : ℕ) → cond (ltb p n) (Some p) None ≡ None → n ≤ p
none_past p n e = grind (arith, nat_tests)

pub split_missing : (c : ℕ) (xs : List ℕ) → position (λ b. eqb b c) xs ≡ None → slice_split (λ b. eqb b c) xs ≡ xs ∷ []
split_missing c xs e = grind (arith, none_past, slice_split_none, fails_before_first)
