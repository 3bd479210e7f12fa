-- The ordered requests of a run: there is one order, and it has as many requests as were given.
use Rattle.std.proofs.Common.{◌≡◌, ◌<◌, ◌≤◌, ℕ, suc, Bool, true, false, ◌&&◌, not, cond, List, [], ◌∷◌, length, refl}
use Rattle.std.proofs.Common.{sym, ap, ◌∙◌, arith, ltb, ◌==◌, Less, Equal, Greater}
use Rattle.std.specs.Prelude.{drop, slice_index_or}
use Rattle.std.specs.List.{filter}
use Rattle.std.specs.Ordering.{nat_cmp, is_lt}
use Rattle.std.specs.List.Sorted.{ties}
use Rattle.std.proofs.lemmas.List.Sorted.{IsNonDecreasingBy-drop}
use Rattle.sequential_run.specs.Requests.{IsInOrder, KeepsTies}

-- ---- requests after equally many instructions ----

-- two requests come after the same number of instructions
abbrev pub tie : ℕ × ℕ → ℕ × ℕ → Bool
tie x z = ties (λ a b. is_lt (nat_cmp a.1 b.1)) x z

lt_of : (b e : Bool) → is_lt (cond b Less (cond e Equal Greater)) ≡ b
lt_of b e = grind arith

tie_is : (x z : ℕ × ℕ) → tie x z ≡ (not (ltb x.1 z.1) && not (ltb z.1 x.1))
tie_is x z = ap (λ b. not b && not (is_lt (nat_cmp z.1 x.1))) (lt_of (ltb x.1 z.1) (x.1 == z.1))
    ∙ ap (λ b. not (ltb x.1 z.1) && not b) (lt_of (ltb z.1 x.1) (z.1 == x.1))

pub tied : (x z : ℕ × ℕ) → x.1 ≡ z.1 → tie x z ≡ true
tied x z e = grind arith

tie_key : (x z : ℕ × ℕ) → tie x z ≡ true → x.1 ≡ z.1
tie_key x z h = grind arith

-- a request of the list comes after at least as many instructions as the least one
least : (xs : List (ℕ × ℕ)) (low : ℕ) (z : ℕ × ℕ)
    → ((k : ℕ) (d : ℕ × ℕ) → k < length xs → low ≤ (slice_index_or xs k d).1)
    → 0 < length (filter (tie z) xs) → low ≤ z.1
least [] low z h l = absurd (omega (arith, l))
least (x ∷ xs) low z h l = by_tie (tie z x) refl l (λ m. least xs low z (λ k d n. h (suc k) d (omega (arith, n))) m)
  where
    by_tie : (b : Bool) → tie z x ≡ b → 0 < length (cond b (x ∷ filter (tie z) xs) (filter (tie z) xs))
        → (0 < length (filter (tie z) xs) → low ≤ z.1) → low ≤ z.1
    by_tie true e l more =
        let a : low ≤ x.1 = h 0 x (omega arith) in let b : z.1 ≡ x.1 = tie_key z x e in omega (arith, a, b)
    by_tie false e l more = more l

least_of : (x : ℕ × ℕ) (xs : List (ℕ × ℕ)) (z : ℕ × ℕ) → IsInOrder (x ∷ xs) → 0 < length (filter (tie z) (x ∷ xs))
    → x.1 ≤ z.1
least_of x xs z o l = least (x ∷ xs) x.1 z (λ k d n. o 0 k d (omega arith) n) l

kept_first : (x : ℕ × ℕ) (xs : List (ℕ × ℕ)) (z : ℕ × ℕ) → tie z x ≡ true
    → filter (tie z) (x ∷ xs) ≡ x ∷ filter (tie z) xs
kept_first x xs z e = ap (λ b. cond b (x ∷ filter (tie z) xs) (filter (tie z) xs)) e

head_of : ℕ × ℕ → List (ℕ × ℕ) → ℕ × ℕ
head_of d [] = d
head_of d (x ∷ xs) = x

-- ---- one order ----

pub one_order : (xs ys : List (ℕ × ℕ)) → IsInOrder xs → IsInOrder ys
    → ((z : ℕ × ℕ) → filter (tie z) xs ≡ filter (tie z) ys) → xs ≡ ys
unfolding head_of
one_order [] [] o p h = refl
one_order [] (y ∷ ys) o p h = grind (arith, kept_first y ys y (tied y y refl), tied y y refl)
one_order (x ∷ xs) [] o p h = grind (arith, kept_first x xs x (tied x x refl), tied x x refl)
one_order (x ∷ xs) (y ∷ ys) o p h =
    let own = kept_first x xs x (tied x x refl) in
    let other = kept_first y ys y (tied y y refl) in
    let a : length (filter (tie x) (y ∷ ys)) ≡ suc (length (filter (tie x) xs)) = ap length (sym (h x) ∙ own) in
    let b : length (filter (tie y) (x ∷ xs)) ≡ suc (length (filter (tie y) ys)) = ap length (h y ∙ other) in
    let low : y.1 ≤ x.1 = least_of y ys x p (omega (arith, a)) in
    let high : x.1 ≤ y.1 = least_of x xs y o (omega (arith, b)) in
    let e : x ≡ y = ap (head_of x) (sym own ∙ h x ∙ kept_first y ys x (tied x y (omega (arith, low, high)))) in
    let tails : (z : ℕ × ℕ) → filter (tie z) xs ≡ filter (tie z) ys = grind arith in
    ap (λ t. t ∷ xs) e
    ∙ ap (λ l. y ∷ l) (one_order xs ys (IsNonDecreasingBy-drop (λ ask. ask.1) 1 (x ∷ xs) o)
    (IsNonDecreasingBy-drop (λ ask. ask.1) 1 (y ∷ ys) p) tails)

-- the request for the first package, after no instruction, comes first
pub start_first : (start : ℕ) (after xs : List (ℕ × ℕ)) → IsInOrder xs
    → ((z : ℕ × ℕ) → filter (tie z) xs ≡ filter (tie z) ((start, 0) ∷ after))
    → (rest : List (ℕ × ℕ)) × (xs ≡ (start, 0) ∷ rest)
unfolding head_of
start_first start after [] o h =
    let z : ℕ × ℕ = (start, 0) in grind (arith, kept_first z after z (tied z z refl), tied z z refl)
start_first start after (x ∷ xs) o h =
    let z : ℕ × ℕ = (start, 0) in
    let other = kept_first z after z (tied z z refl) in
    let a : length (filter (tie z) (x ∷ xs)) ≡ suc (length (filter (tie z) after)) = ap length (h z ∙ other) in
    grind (arith, least_of, head_of, kept_first, tied)

-- ---- as many as were given ----

apart : true ≡ false → ⊥
apart h = cc

-- the list without the first request that comes after as many instructions as this one
without : ℕ × ℕ → List (ℕ × ℕ) → List (ℕ × ℕ)
without z [] = []
without z (x ∷ xs) = cond (tie z x) xs (x ∷ without z xs)

one_less : (z : ℕ × ℕ) (xs : List (ℕ × ℕ)) → 0 < length (filter (tie z) xs) → length xs ≡ suc (length (without z xs))
unfolding without
one_less z [] l = absurd (omega (arith, l))
one_less z (x ∷ xs) l = search (arith, one_less z xs, without)

tie_first : (y z x : ℕ × ℕ) → y.1 ≡ z.1 → tie y x ≡ tie z x
tie_first y z x e = tie_is y x ∙ ap (λ n. not (ltb n x.1) && not (ltb x.1 n)) e ∙ sym (tie_is z x)

tie_second : (y z x : ℕ × ℕ) → z.1 ≡ x.1 → tie y x ≡ tie y z
tie_second y z x e = tie_is y x ∙ ap (λ n. not (ltb y.1 n) && not (ltb n y.1)) (sym e) ∙ sym (tie_is y z)

-- the list with one such request less
rest_of : Bool → List (ℕ × ℕ) → List (ℕ × ℕ)
rest_of true l = drop 1 l
rest_of false l = l

ties_without : (y z : ℕ × ℕ) (xs : List (ℕ × ℕ))
    → filter (tie y) (without z xs) ≡ rest_of (tie y z) (filter (tie y) xs)
unfolding without rest_of
ties_without y z [] = grind arith
ties_without y z (x ∷ xs) = by_ties (tie y z) (tie z x) (tie y x) refl refl refl (ties_without y z xs)
  where
    by_ties : (a b c : Bool) → tie y z ≡ a → tie z x ≡ b → tie y x ≡ c
        → filter (tie y) (without z xs) ≡ rest_of a (filter (tie y) xs)
        → filter (tie y) (cond b xs (x ∷ without z xs))
        ≡ rest_of a (cond c (x ∷ filter (tie y) xs) (filter (tie y) xs))
    by_ties true true true d e f more = refl
    by_ties true true false d e f more = absurd (apart (sym e ∙ sym (tie_first y z x (tie_key y z d)) ∙ f))
    by_ties true false true d e f more = absurd (apart (sym f ∙ tie_first y z x (tie_key y z d) ∙ e))
    by_ties true false false d e f more = grind arith
    by_ties false true true d e f more = absurd (apart (sym f ∙ tie_second y z x (tie_key z x e) ∙ d))
    by_ties false true false d e f more = refl
    by_ties false false c d e f more = grind arith

-- two lists with the same requests for each number of instructions have the same length
pub same_count : (xs ys : List (ℕ × ℕ)) → ((z : ℕ × ℕ) → filter (tie z) xs ≡ filter (tie z) ys)
    → length xs ≡ length ys
unfolding rest_of
same_count [] [] h = refl
same_count [] (y ∷ ys) h = grind (arith, kept_first y ys y (tied y y refl), tied y y refl)
same_count (x ∷ xs) ys h =
    let own : x ∷ filter (tie x) xs ≡ filter (tie x) ys = sym (kept_first x xs x (tied x x refl)) ∙ h x in
    let some : suc (length (filter (tie x) xs)) ≡ length (filter (tie x) ys) = ap length own in
    let less : length ys ≡ suc (length (without x ys)) = one_less x ys (omega (arith, some)) in
    let rest : length xs ≡ length (without x ys) = same_count xs (without x ys)
    (λ z. by_tie z (tie z x) refl ∙ sym (ties_without z x ys)) in
    omega (arith, less, rest)
  where
    by_tie : (z : ℕ × ℕ) (b : Bool) → tie z x ≡ b → filter (tie z) xs ≡ rest_of (tie z x) (filter (tie z) ys)
    by_tie z b e = grind arith

-- an ordered list has as many requests as were given
pub kept_count : (given asks : List (ℕ × ℕ)) → KeepsTies given asks → length asks ≡ length given
kept_count given asks same = same_count asks given same
