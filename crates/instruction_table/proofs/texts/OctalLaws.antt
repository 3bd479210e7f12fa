-- Lemmas on `octal` of specs/Octal.antt.
use Rattle.std.proofs.Common.{ℕ, ◌≡◌, ◌+◌, ◌/◌, ◌%◌, ◌^◌, ◌<◌, ◌≤◌, false, eqb, [], ◌∷◌, ◌++◌, length, map}
use Rattle.std.proofs.Common.{refl, ◌∙◌, ap, arith}
use Rattle.std.proofs.lemmas.Bool.Decides.{nat_tests}
use Rattle.std.proofs.lemmas.List.{map-append, length-map, length_push}
use Rattle.std.proofs.lemmas.Int.Digits.{digits_of_step, length-digits_of-le}
use Rattle.std.specs.Int.Digits.{digits_of}
use Rattle.instruction_table.specs.Octal.{octal}

-- the case of a number above 0
octal_digits : (n : ℕ) → 0 < n → octal n ≡ map (λ d. 48 + d) (digits_of 8 n)
unfolding octal
octal_digits n some = let t : eqb n 0 ≡ false = grind (arith, nat_tests) in rw t refl

pub octal_step : (n : ℕ) → 8 ≤ n → octal n ≡ octal (n / 8) ++ (48 + n % 8) ∷ []
octal_step n large = grind (arith, octal_digits, digits_of_step, map-append)

pub octal_small : (n : ℕ) → n < 8 → octal n ≡ (48 + n % 8) ∷ []
unfolding octal
octal_small n below = grind (arith, octal_digits, digits_of_step)

-- the length of a number's octal text
pub octal_length : (k n : ℕ) → 0 < k → n < 8 ^ k → length (octal n) ≤ k
unfolding octal
octal_length k n some below = grind (arith, octal_digits, length-map, length-digits_of-le)

-- one step of the recursion, and the length that remains
pub octal_ends : (n : ℕ) → 8 ≤ n → (octal n ≡ octal (n / 8) ++ (48 + n % 8) ∷ [])
    × (length (octal n) ≡ length (octal (n / 8)) + 1)
octal_ends n large = (octal_step n large, ap length (octal_step n large) ∙ length_push (octal (n / 8)) (48 + n % 8))

pub octal_length_6 : (n : ℕ) → n < 2 ^ 18 → length (octal n) ≤ 6
octal_length_6 n small = octal_length 6 n (omega arith) small

pub octal_length_2 : (n : ℕ) → n < 64 → length (octal n) ≤ 2
octal_length_2 n small = octal_length 2 n (omega arith) small
