-- The digits of a number.
use Rattle.std.proofs.Common.{◌≡◌, ℕ, suc, ◌+◌, ◌*◌, ◌^◌, ◌<◌, ◌≤◌, true, List, [], ◌∷◌, length}
use Rattle.std.proofs.Common.{take, get_or, refl, arith, length-take}
use Rattle.std.proofs.lemmas.List.Folds.{list_all_more}
use Rattle.std.specs.List.{list_all}
use Rattle.std.specs.Char.{is_digit, digit_value}
use Rattle.std.specs.Str.Parse.{digits_value, AllDigits}
use Rattle.std.proofs.Math.Nat.{pow-le-pow_right, pow-suc, mul-le-mul_right}
use Rattle.std.proofs.lemmas.Bool.{ltb-true, lt-ltb, and_parts}
use Rattle.std.proofs.lemmas.Int.Digits.{digits_value-lt, digits_value_more}

pub all_digits : (base : ℕ) (cs : List ℕ) → list_all (λ c. is_digit c base) cs ≡ true → AllDigits base cs
all_digits base [] e = tt
all_digits base (c ∷ cs) e = let h = and_parts (is_digit c base) _ e in (ltb-true _ _ h.0, all_digits base cs h.1)

-- the value has room for one more digit
pub room : (base most v d : ℕ) (cs : List ℕ) → 2 ≤ base → base ^ most ≤ 2 ^ 64 → length cs < most
    → list_all (λ c. is_digit c base) cs ≡ true → v ≡ digits_value base cs → d < base → v * base + d < 2 ^ 64
room base most v d cs low fits few digits is small =
    let below : digits_value base cs < base ^ length cs = digits_value-lt base cs (all_digits base cs digits) in
    let positive : 0 < base = omega arith in
    let shorter : suc (length cs) ≤ most = omega arith in
    let power : base ^ suc (length cs) ≤ base ^ most = pow-le-pow_right positive shorter in
    let product : base ^ suc (length cs) ≡ base ^ length cs * base = pow-suc base (length cs) in
    let up : suc v ≤ base ^ length cs = omega arith in
    let times : suc v * base ≤ base ^ length cs * base = mul-le-mul_right base up in
    omega (arith, power, product, times)

-- room for one more digit at position i of a text
pub room_at : (base most v d b i : ℕ) (text : List ℕ) → 2 ≤ base → base ^ most ≤ 2 ^ 64 → length text ≤ most
    → i < length text → list_all (λ c. is_digit c base) (take i text) ≡ true → v ≡ digits_value base (take i text)
    → d < base → b ≡ base → v * b + d < 2 ^ 64
room_at base most v d b i text low fits few inside digits is small same =
    let short : length (take i text) < most = simp length-take (omega arith) in
    let all = room base most v d (take i text) low fits short digits is small in
    rw same all

-- the digits up to and including position i
pub digits_on : (base i c : ℕ) (text : List ℕ) → i < length text → list_all (λ c. is_digit c base) (take i text) ≡ true
    → c ≡ get_or text i 0 → digit_value c < base → list_all (λ c. is_digit c base) (take (i + 1) text) ≡ true
digits_on base i c text inside digits is small =
    let is_one : is_digit (get_or text i 0) base ≡ true = rw (← is) (lt-ltb _ _ small) in
    rw (list_all_more (λ c. is_digit c base) text i 0 inside, digits, is_one) refl

pub value_on : (base i v c b d : ℕ) (text : List ℕ) → i < length text → v ≡ digits_value base (take i text)
    → c ≡ get_or text i 0 → b ≡ base → d ≡ digit_value c → v * b + d ≡ digits_value base (take (i + 1) text)
value_on base i v c b d text inside is at same digit =
    rw (digits_value_more base text i inside, ← at, ← is, same, digit) refl

-- a number with k digits is below the base to the power k
pub value_below : (base most v : ℕ) (text : List ℕ) → 2 ≤ base → length text ≤ most
    → list_all (λ c. is_digit c base) text ≡ true → v ≡ digits_value base text → v < base ^ most
value_below base most v text low few digits is =
    let below : digits_value base text < base ^ length text = digits_value-lt base text (all_digits base text digits) in
    let positive : 0 < base = omega arith in
    let power : base ^ length text ≤ base ^ most = pow-le-pow_right positive few in
    omega (arith, below, power, is)
