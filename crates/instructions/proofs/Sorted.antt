-- The ordered list, after one position is read, changed or emptied.
use Rattle.std.proofs.Common.{◌≡◌, ◌≢◌, ℕ, zero, suc, ◌<◌, ◌≤◌, Bool, true, false, cond, List, [], ◌∷◌, ◌++◌, Option}
use Rattle.std.proofs.Common.{Some, None, refl, ap, ◌∙◌, ltb, length, set, get_or, arith}
use Rattle.std.specs.Prelude.{◌||◌, ◌&&◌}
use Rattle.std.proofs.lemmas.Bool.{ltb-true, ltb-false, lt-ltb, le-ltb, or_from}
use Rattle.std.specs.List.{list_any}
use Rattle.instructions.specs.Each.{Each, Pairs}
use Rattle.instructions.specs.Order.{insert_by, sort_by, somes}
use Rattle.instructions.proofs.Lists.{each_right, each_map}

-- ---- tests ----

any_insert : {K : Type 0} (key : K → ℕ) (f : K → Bool) (x : K) (ys : List K)
    → list_any f (insert_by key x ys) ≡ (f x || list_any f ys)
unfolding insert_by
any_insert key f x [] = refl
any_insert key f x (y ∷ ys) = grind (arith, any_insert key f x ys)

-- a test over the ordered list is a test over the positions
pub any_sort : {K : Type 0} (key : K → ℕ) (f : K → Bool) (xs : List K) → list_any f (sort_by key xs) ≡ list_any f xs
unfolding sort_by
any_sort key f [] = refl
any_sort key f (x ∷ xs) = any_insert key f x (sort_by key xs) ∙ ap (λ z. f x || z) (any_sort key f xs)

-- each element has a lower number than the elements after it
abbrev pub IsIncreasing : {K : Type 0} → (K → ℕ) → List K → Type 0
IsIncreasing key xs = Pairs (λ a b. key a < key b) xs

none_above : {K : Type 0} (key : K → ℕ) (f : K → Bool) (n : ℕ) (ls : List K) → Each (λ x. n ≤ key x) ls
    → list_any (λ x. ltb (key x) n && f x) ls ≡ false
none_above key f n [] h = refl
none_above key f n (x ∷ ls) h = or_from _ _ (ap (λ b. b && f x) (le-ltb (key x) n h.0)) (none_above key f n ls h.1)

-- a test over the earlier elements is a test over all elements with a lower number
pub any_earlier : {K : Type 0} (key : K → ℕ) (f : K → Bool) (es : List K) (m : K) (ls : List K)
    → IsIncreasing key (es ++ m ∷ ls) → list_any (λ x. ltb (key x) (key m) && f x) (es ++ m ∷ ls) ≡ list_any f es
any_earlier key f [] m ls h =
    none_above key f (key m) (m ∷ ls)
    (omega arith, each_map (λ x. key m < key x) (λ x. key m ≤ key x) (λ x k. omega arith) ls h.0)
any_earlier key f (e ∷ es) m ls h =
    ap (λ b. (b && f e) || list_any (λ x. ltb (key x) (key m) && f x) (es ++ m ∷ ls))
    (lt-ltb (key e) (key m) (each_right (λ b. key e < key b) es (m ∷ ls) h.0).0)
    ∙ ap (λ z. f e || z) (any_earlier key f es m ls h.1)

-- ---- the list in order, around one element ----

-- the front of an ordered list, up to a number, and the rest
unfoldable pub below : {K : Type 0} → (K → ℕ) → ℕ → List K → List K
below key n [] = []
below key n (y ∷ ys) = cond (ltb n (key y)) [] (y ∷ below key n ys)

unfoldable pub above : {K : Type 0} → (K → ℕ) → ℕ → List K → List K
above key n [] = []
above key n (y ∷ ys) = cond (ltb n (key y)) (y ∷ ys) (above key n ys)

-- the position at which an element is inserted
pub insert_splits : {K : Type 0} (key : K → ℕ) (x : K) (ys : List K) → insert_by key x ys ≡ below key (key x) ys ++ x
    ∷ above key (key x) ys
unfolding insert_by below above
insert_splits key x [] = refl
insert_splits key x (y ∷ ys) = grind (arith, insert_splits key x ys)

pub below-above : {K : Type 0} (key : K → ℕ) (n : ℕ) (ys : List K) → ys ≡ below key n ys ++ above key n ys
unfolding below above
below-above key n [] = refl
below-above key n (y ∷ ys) = grind (arith, below-above key n ys)

-- the order in which two elements are inserted doesn't matter
insert_comm : {K : Type 0} (key : K → ℕ) (x y : K) (zs : List K) → key x ≢ key y
    → insert_by key x (insert_by key y zs) ≡ insert_by key y (insert_by key x zs)
unfolding insert_by
insert_comm key x y [] ne = grind arith
insert_comm key x y (z ∷ zs) ne = grind (arith, insert_comm key x y zs ne)

-- an element among the positions can be inserted last
pub sort_around : {K : Type 0} (key : K → ℕ) (fs : List K) (m : K) (bs : List K) → Each (λ a. key a ≢ key m) fs
    → sort_by key (fs ++ m ∷ bs) ≡ insert_by key m (sort_by key (fs ++ bs))
unfolding sort_by
sort_around key [] m bs h = refl
sort_around key (a ∷ fs) m bs h = ap (insert_by key a) (sort_around key fs m bs h.1) ∙ insert_comm key a m _ h.0

-- ---- an order from positions that differ ----

insert_each : {K : Type 0} (key : K → ℕ) (P : K → Type 0) (x : K) (ys : List K) → P x → Each P ys
    → Each P (insert_by key x ys)
unfolding insert_by
insert_each key P x [] p h = (p, tt)
insert_each key P x (y ∷ ys) p h = grind (arith, insert_each key P x ys p h.1)

pub sort_each : {K : Type 0} (key : K → ℕ) (P : K → Type 0) (xs : List K) → Each P xs → Each P (sort_by key xs)
unfolding sort_by
sort_each key P [] h = tt
sort_each key P (x ∷ xs) h = insert_each key P x (sort_by key xs) h.0 (sort_each key P xs h.1)

-- a property of the element and of each element of the list holds after the insertion
each_inserted : {K : Type 0} (key : K → ℕ) (P : K → Type 0) (x : K) (ys : List K) → Each P (insert_by key x ys) → P x
    × Each P ys
unfolding insert_by
each_inserted key P x [] h = (h.0, tt)
each_inserted key P x (y ∷ ys) h = grind (arith, each_inserted key P x ys)

pub each_sorted : {K : Type 0} (key : K → ℕ) (P : K → Type 0) (xs : List K) → Each P (sort_by key xs) → Each P xs
unfolding sort_by
each_sorted key P [] h = tt
each_sorted key P (x ∷ xs) h = let r = each_inserted key P x (sort_by key xs) h in (r.0, each_sorted key P xs r.1)

insert_increasing : {K : Type 0} (key : K → ℕ) (x : K) (ys : List K) → Each (λ y. key x ≢ key y) ys
    → IsIncreasing key ys → IsIncreasing key (insert_by key x ys)
unfolding insert_by
insert_increasing key x [] ne h = (tt, tt)
insert_increasing key x (y ∷ ys) ne h =
    grind (arith, insert_increasing key x ys ne.1 h.1, each_map, insert_each, ltb-true, ltb-false)

-- positions with different numbers make an increasing list
pub sort_increasing : {K : Type 0} (key : K → ℕ) (xs : List K) → Pairs (λ a b. key a ≢ key b) xs
    → IsIncreasing key (sort_by key xs)
unfolding sort_by
sort_increasing key [] h = tt
sort_increasing key (x ∷ xs) h =
    insert_increasing key x (sort_by key xs) (sort_each key (λ y. key x ≢ key y) xs h.0) (sort_increasing key xs h.1)

-- an element with a number above all others goes to the end
pub insert_last : {K : Type 0} (key : K → ℕ) (x : K) (ys : List K) → Each (λ y. key y < key x) ys
    → insert_by key x ys ≡ ys ++ x ∷ []
unfolding insert_by
insert_last key x [] h = refl
insert_last key x (y ∷ ys) h = grind (arith, insert_last key x ys h.1)

-- ---- a list of positions ----

pub any_somes : {K : Type 0} (f : K → Bool) (g : Option K → Bool) → g None ≡ false → ((x : K) → g (Some x) ≡ f x)
    → (os : List (Option K)) → list_any g os ≡ list_any f (somes os)
unfolding somes
any_somes f g none some [] = refl
any_somes f g none some (None ∷ os) = ap (λ b. b || list_any g os) none ∙ any_somes f g none some os
any_somes f g none some (Some x ∷ os) =
    ap (λ b. b || list_any g os) (some x) ∙ ap (λ z. f x || z) (any_somes f g none some os)

-- the elements before and after a position
unfoldable pub before_place : {K : Type 0} → List (Option K) → ℕ → List K
before_place [] i = []
before_place (o ∷ os) zero = []
before_place (None ∷ os) (suc i) = before_place os i
before_place (Some x ∷ os) (suc i) = x ∷ before_place os i

unfoldable pub after_place : {K : Type 0} → List (Option K) → ℕ → List K
after_place [] i = []
after_place (o ∷ os) zero = somes os
after_place (None ∷ os) (suc i) = after_place os i
after_place (Some x ∷ os) (suc i) = after_place os i

-- filling a position, whatever it held
pub somes-set_some : {K : Type 0} (os : List (Option K)) (i : ℕ) (y : K) → i < length os
    → somes (set os i (Some y)) ≡ before_place os i ++ y ∷ after_place os i
unfolding somes before_place after_place
somes-set_some [] i y h = absurd (omega arith)
somes-set_some (None ∷ os) zero y h = refl
somes-set_some (Some x ∷ os) zero y h = refl
somes-set_some (None ∷ os) (suc i) y h = somes-set_some os i y (omega arith)
somes-set_some (Some x ∷ os) (suc i) y h = ap (λ l. x ∷ l) (somes-set_some os i y (omega arith))

-- emptying a position
pub somes-set_none : {K : Type 0} (os : List (Option K)) (i : ℕ) → i < length os
    → somes (set os i None) ≡ before_place os i ++ after_place os i
unfolding somes before_place after_place
somes-set_none [] i h = absurd (omega arith)
somes-set_none (None ∷ os) zero h = refl
somes-set_none (Some x ∷ os) zero h = refl
somes-set_none (None ∷ os) (suc i) h = somes-set_none os i (omega arith)
somes-set_none (Some x ∷ os) (suc i) h = ap (λ l. x ∷ l) (somes-set_none os i (omega arith))

-- a filled position
pub somes-at : {K : Type 0} (os : List (Option K)) (i : ℕ) (x : K) → get_or os i None ≡ Some x
    → somes os ≡ before_place os i ++ x ∷ after_place os i
unfolding somes before_place after_place
somes-at [] i x h = cc
somes-at (None ∷ os) zero x h = cc
somes-at (Some y ∷ os) zero x h = let e : y ≡ x = cc in ap (λ z. z ∷ somes os) e
somes-at (None ∷ os) (suc i) x h = somes-at os i x h
somes-at (Some y ∷ os) (suc i) x h = ap (λ l. y ∷ l) (somes-at os i x h)

-- an empty position
pub somes-empty : {K : Type 0} (os : List (Option K)) (i : ℕ) → get_or os i None ≡ None → i < length os
    → somes os ≡ before_place os i ++ after_place os i
unfolding somes before_place after_place
somes-empty [] i h l = absurd (omega arith)
somes-empty (None ∷ os) zero h l = refl
somes-empty (Some y ∷ os) zero h l = cc
somes-empty (None ∷ os) (suc i) h l = somes-empty os i h (omega arith)
somes-empty (Some y ∷ os) (suc i) h l = ap (λ z. y ∷ z) (somes-empty os i h (omega arith))
