-- Free places: which of the four is free, and that as many are taken as references wait.
use Rattle.std.proofs.Common.{◌≡◌, ◌≢◌, ◌<◌, ◌≤◌, ◌+◌, ℕ, zero, suc, Bool, true, false, cond, List, [], ◌∷◌, Option}
use Rattle.std.proofs.Common.{Some, None, refl, sym, ap, ◌∙◌, subst, eqb, length, arith}
use Rattle.std.specs.Prelude.{◌||◌, is_none, MatchOption}
use Rattle.std.proofs.lemmas.Bool.{eqb-false, ne_eqb}
use Rattle.instructions.specs.Each.{Each, Pairs}
use Rattle.instructions.proofs.Lists.{any_of_each, each_of_any}
use Rattle.hopper.specs.declared.entered.Entered.{Entered}
use Rattle.hopper.specs.Hopper.{first_place, free_place}
use Rattle.hopper.specs.Queue.{stands_at, is_taken, place_for}

-- ---- a free place ----

pub first_same : (f g : ℕ → Bool) → ((p : ℕ) → f p ≡ g p) → (ps : List ℕ) → first_place f ps ≡ first_place g ps
unfolding first_place
first_same f g h [] = refl
first_same f g h (p ∷ ps) = grind (arith, first_same f g h ps)

first_free : (f : ℕ → Bool) (P : ℕ → Type 0) (ps : List ℕ) (p : ℕ) → Each P ps → first_place f ps ≡ Some p
    → P p × (f p ≡ false)
unfolding first_place
first_free f P [] p h e = cc
first_free f P (q ∷ ps) p h e = by_test (λ l. first_free f P ps p h.1 l) (f q) refl e
  where
    by_test : (first_place f ps ≡ Some p → P p × (f p ≡ false)) → (b : Bool) → f q ≡ b
        → cond b (first_place f ps) (Some q) ≡ Some p → P p × (f p ≡ false)
    by_test rest true k l = rest l
    by_test rest false k l = let d : q ≡ p = cc in (subst P d h.0, subst (λ x. f x ≡ false) d k)

-- it is one of the four places, and no reference waits there
pub place_free : (es : List Entered) (p : ℕ) → place_for es ≡ Some p → (p < 4) × Each (λ e. e.place ≢ p) es
unfolding place_for free_place is_taken stands_at
place_free es p h =
    let r = first_free (is_taken es) (λ q. q < 4) (0 ∷ 1 ∷ 2 ∷ 3 ∷ []) p
    (omega arith, (omega arith, (omega arith, (omega arith, tt)))) h in
    (r.0, each_of_any (stands_at p) (λ e. e.place ≢ p) (λ e. eqb-false e.place p) es r.1)

free_first : (f : ℕ → Bool) (p : ℕ) (ps : List ℕ) → f p ≡ false → first_place f (p ∷ ps) ≡ Some p
unfolding first_place
free_first f p ps h = ap (λ b. cond b (first_place f ps) (Some p)) h

-- the result of a search through the four places, or that none is free
abbrev pub FindsFree : (ℕ → Bool) → Option ℕ → Type 0
FindsFree f r = MatchOption r ((k : ℕ) → 0 ≤ k → k < 4 → f k ≡ true)
    (λ p. (0 ≤ p) × (p < 4) × (f p ≡ false) × ((k : ℕ) → 0 ≤ k → k < p → f k ≡ true))

-- the search finds the lowest-numbered free place
pub found_is : (f : ℕ → Bool) (r : Option ℕ) → FindsFree f r → r ≡ free_place f
unfolding free_place first_place
found_is f None h = grind arith
found_is f (Some zero) h = sym (free_first f 0 (1 ∷ 2 ∷ 3 ∷ []) h.2)
found_is f (Some (suc zero)) h = grind arith
found_is f (Some (suc (suc zero))) h = grind arith
found_is f (Some (suc (suc (suc zero)))) h = grind arith
found_is f (Some (suc (suc (suc (suc n))))) h = absurd (omega (arith, h.1))

-- ---- how many are taken ----

-- 1 for a taken place, 0 for a free one
abbrev one : Bool → ℕ
one b = cond b 1 0

one_at_most : (b : Bool) → one b ≤ 1
one_at_most true = omega arith
one_at_most false = omega arith

-- the number of taken places
abbrev taken_places : (ℕ → Bool) → ℕ
taken_places f = one (f 0) + one (f 1) + one (f 2) + one (f 3)

one_more : (n : ℕ) (f : ℕ → Bool) → n < 4 → f n ≡ false → taken_places (λ p. eqb n p || f p) ≡ suc (taken_places f)
one_more zero f h e = let k : one (f 0) ≡ 0 = ap one e in omega (arith, k)
one_more (suc zero) f h e = let k : one (f 1) ≡ 0 = ap one e in omega (arith, k)
one_more (suc (suc zero)) f h e = let k : one (f 2) ≡ 0 = ap one e in omega (arith, k)
one_more (suc (suc (suc zero))) f h e = let k : one (f 3) ≡ 0 = ap one e in omega (arith, k)
one_more (suc (suc (suc (suc n)))) f h e = absurd (omega (arith, h))

-- each waiting reference takes one place
taken_counted : (es : List Entered) → Each (λ e. e.place < 4) es → Pairs (λ d e. d.place ≢ e.place) es
    → taken_places (is_taken es) ≡ length es
unfolding is_taken stands_at
taken_counted [] h d = refl
taken_counted (e ∷ es) h d =
    one_more e.place (is_taken es) h.0
    (any_of_each (stands_at e.place) (λ x. e.place ≢ x.place) (λ x k. ne_eqb x.place e.place (λ q. k (sym q))) es d.0)
    ∙ ap suc (taken_counted es h.1 d.1)

none_free : (a b c d : Bool)
    → is_none {T = ℕ} (cond a (cond b (cond c (cond d None (Some 3)) (Some 2)) (Some 1)) (Some 0))
    ≡ eqb (one a + one b + one c + one d) 4
none_free true true true true = refl
none_free true true true false = refl
none_free true true false d = grind arith
none_free true false c d = grind arith
none_free false b c d = grind arith

-- if four references wait, all places are taken
pub full_is : (es : List Entered) → Each (λ e. e.place < 4) es → Pairs (λ d e. d.place ≢ e.place) es
    → is_none (place_for es) ≡ eqb (length es) 4
unfolding place_for free_place first_place
full_is es h d = simp (none_free, taken_counted)

-- if a place is free, there is room for one more reference
pub room_for_one : (es : List Entered) (p : ℕ) → Each (λ e. e.place < 4) es → Pairs (λ d e. d.place ≢ e.place) es
    → place_for es ≡ Some p → length es < 4
room_for_one es p h d e = grind (arith, taken_counted, one_at_most, full_is, eqb-false)
