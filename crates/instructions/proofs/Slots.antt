-- Items kept in slots (units, hopper places and channels as one list): each is in its own slot. In order of their
-- numbers, one item is removed, added or found.
use Rattle.std.proofs.Common.{◌≡◌, ◌≢◌, ℕ, zero, suc, ◌<◌, ◌≤◌, ◌+◌, List, [], ◌∷◌, ◌++◌, Option, Some}
use Rattle.std.proofs.Common.{None, refl, sym, ap, ◌∙◌, subst, length, set, get_or, arith}
use Rattle.std.proofs.lemmas.List.{set-get_or}
use Rattle.instructions.specs.Each.{Each, Pairs}
use Rattle.instructions.specs.Finding.{seek}
use Rattle.instructions.specs.Order.{insert_by, sort_by, somes, IsInSlots}
use Rattle.instructions.proofs.Finding.{seek_around, seek_nobody}
use Rattle.instructions.proofs.Lists.{each_left, each_right, each_append, each_map, pairs_before}
use Rattle.instructions.proofs.Lists.{pairs_right, pairs_without, pairs_insert}
use Rattle.instructions.proofs.Sorted.{below, above, insert_splits, insert_last, below-above, sort_around, sort_each}
use Rattle.instructions.proofs.Sorted.{before_place, after_place, somes-at, somes-set_some, somes-set_none, somes-empty}

pub within : {K : Type 0} (os : List (Option K)) (i : ℕ) (x : K) → get_or os i None ≡ Some x → i < length os
within [] i x h = cc
within (o ∷ os) zero x h = omega arith
within (o ∷ os) (suc i) x h = let k : i < length os = within os i x h in omega arith

-- the content of a slot, whatever default a read beyond the last slot gives
pub slot_any : {K : Type 0} (os : List (Option K)) (i : ℕ) (o : Option K) → i < length os
    → get_or os i None ≡ get_or os i o
slot_any [] i o h = absurd (omega arith)
slot_any (x ∷ os) zero o h = refl
slot_any (x ∷ os) (suc i) o h = slot_any os i o (omega arith)

-- no two items have the same number
abbrev pub HasOwnKeys : {K : Type 0} → (K → ℕ) → List K → Type 0
HasOwnKeys key xs = Pairs (λ a b. key a ≢ key b) xs

-- the other items, after one is removed
pub others_differ : {K : Type 0} (key : K → ℕ) (os : List (Option K)) (i : ℕ) (m : K) → get_or os i None ≡ Some m
    → HasOwnKeys key (somes os) → Each (λ x. key x ≢ key m) (somes (set os i None))
others_differ key os i m h own =
    let split = subst (HasOwnKeys key) (somes-at os i m h) own in
    subst (Each (λ x. key x ≢ key m)) (sym (somes-set_none os i (within os i m h)))
    (each_append (λ x. key x ≢ key m) (before_place os i) (after_place os i)
    (pairs_before (λ a b. key a ≢ key b) (before_place os i) m (after_place os i) split)
    (each_map (λ x. key m ≢ key x) (λ x. key x ≢ key m) (λ x k. λ e. k (sym e)) (after_place os i)
    (pairs_right (λ a b. key a ≢ key b) (before_place os i) (m ∷ after_place os i) split).0))

pub own_taken : {K : Type 0} (key : K → ℕ) (os : List (Option K)) (i : ℕ) (m : K) → get_or os i None ≡ Some m
    → HasOwnKeys key (somes os) → HasOwnKeys key (somes (set os i None))
own_taken key os i m h own =
    subst (HasOwnKeys key) (sym (somes-set_none os i (within os i m h)))
    (pairs_without (λ a b. key a ≢ key b) (before_place os i) m (after_place os i)
    (subst (HasOwnKeys key) (somes-at os i m h) own))

pub own_put : {K : Type 0} (key : K → ℕ) (os : List (Option K)) (i : ℕ) (m : K) → get_or os i None ≡ None
    → i < length os → Each (λ x. key x ≢ key m) (somes os) → HasOwnKeys key (somes os)
    → HasOwnKeys key (somes (set os i (Some m)))
own_put key os i m h l d own =
    grind (
      arith,
      somes-empty,
      somes-set_some,
      pairs_insert,
      before_place,
      after_place,
      each_left,
      each_map,
      each_right,
    )

-- removing an item from its slot
pub sort_take : {K : Type 0} (key : K → ℕ) (os : List (Option K)) (i : ℕ) (m : K) → get_or os i None ≡ Some m
    → HasOwnKeys key (somes os) → sort_by key (somes os) ≡ insert_by key m (sort_by key (somes (set os i None)))
sort_take key os i m h own =
    ap (sort_by key) (somes-at os i m h)
    ∙ sort_around key (before_place os i) m (after_place os i)
    (pairs_before (λ a b. key a ≢ key b) (before_place os i) m (after_place os i)
    (subst (HasOwnKeys key) (somes-at os i m h) own))
    ∙ ap (λ l. insert_by key m (sort_by key l)) (sym (somes-set_none os i (within os i m h)))

-- putting an item into an empty slot
pub sort_put : {K : Type 0} (key : K → ℕ) (os : List (Option K)) (i : ℕ) (m : K) → get_or os i None ≡ None
    → i < length os → Each (λ x. key x ≢ key m) (somes os)
    → sort_by key (somes (set os i (Some m))) ≡ insert_by key m (sort_by key (somes os))
sort_put key os i m h l d =
    let e = somes-empty os i h l in
    ap (sort_by key) (somes-set_some os i m l)
    ∙ sort_around key (before_place os i) m (after_place os i)
    (each_left (λ x. key x ≢ key m) (before_place os i) (after_place os i) (subst (Each (λ x. key x ≢ key m)) e d))
    ∙ ap (λ q. insert_by key m (sort_by key q)) (sym e)

-- the ordered list with the item and without it
pub taken_with : {K : Type 0} (key : K → ℕ) (os : List (Option K)) (i : ℕ) (m : K) → get_or os i None ≡ Some m
    → HasOwnKeys key (somes os) → sort_by key (somes os) ≡ below key (key m) (sort_by key (somes (set os i None))) ++ m
    ∷ above key (key m) (sort_by key (somes (set os i None)))
taken_with key os i m h own = sort_take key os i m h own ∙ insert_splits key m (sort_by key (somes (set os i None)))

pub taken_without : {K : Type 0} (key : K → ℕ) (n : ℕ) (os : List (Option K)) (i : ℕ)
    → sort_by key (somes (set os i None)) ≡ below key n (sort_by key (somes (set os i None)))
    ++ above key n (sort_by key (somes (set os i None)))
taken_without key n os i = below-above key n (sort_by key (somes (set os i None)))

-- moving an item from one slot to another, under the same number
pub moved_with : {K : Type 0} (key : K → ℕ) (os : List (Option K)) (i j : ℕ) (m m' : K) → get_or os i None ≡ Some m
    → key m' ≡ key m → get_or (set os i None) j None ≡ None → j < length (set os i None) → HasOwnKeys key (somes os)
    → sort_by key (somes (set (set os i None) j (Some m'))) ≡ below key (key m) (sort_by key (somes (set os i None)))
    ++ m' ∷ above key (key m) (sort_by key (somes (set os i None)))
moved_with key os i j m m' h e f l own =
    sort_put key (set os i None) j m' f l
    (each_map (λ x. key x ≢ key m) (λ x. key x ≢ key m') (λ x k. λ q. k (q ∙ e)) (somes (set os i None))
    (others_differ key os i m h own))
    ∙ insert_splits key m' (sort_by key (somes (set os i None)))
    ∙ ap (λ n. below key n (sort_by key (somes (set os i None))) ++ m'
    ∷ above key n (sort_by key (somes (set os i None)))) e

-- an item with a number above all others goes to the end
pub sort_new : {K : Type 0} (key : K → ℕ) (os : List (Option K)) (i : ℕ) (m : K) → get_or os i None ≡ None
    → i < length os → Each (λ x. key x < key m) (somes os)
    → sort_by key (somes (set os i (Some m))) ≡ sort_by key (somes os) ++ m ∷ []
sort_new key os i m h l d = grind (arith, sort_put, each_map, insert_last, sort_each)

-- ---- each in its own slot ----

in_slots_from : {K : Type 0} (slot_of : K → ℕ) (os : List (Option K)) (k v : ℕ) → v < k → IsInSlots slot_of k os
    → Each (λ y. slot_of y ≢ v) (somes os)
unfolding somes
in_slots_from slot_of [] k v h s = tt
in_slots_from slot_of (None ∷ os) k v h s = in_slots_from slot_of os (suc k) v (omega arith) s
in_slots_from slot_of (Some x ∷ os) k v h s =
    (λ e. let q : slot_of x ≡ k = s.0 in omega (arith, e, q, h), in_slots_from slot_of os (suc k) v (omega arith) s.1)

-- no other item is in that slot
pub in_slots_others : {K : Type 0} (slot_of : K → ℕ) (os : List (Option K)) (k i v : ℕ) → v ≡ k + i
    → IsInSlots slot_of k os → Each (λ y. slot_of y ≢ v) (somes (set os i None))
unfolding somes
in_slots_others slot_of [] k i v e s = tt
in_slots_others slot_of (None ∷ os) k zero v e s = in_slots_from slot_of os (suc k) v (omega (arith, e)) s
in_slots_others slot_of (Some x ∷ os) k zero v e s = in_slots_from slot_of os (suc k) v (omega (arith, e)) s.1
in_slots_others slot_of (None ∷ os) k (suc i) v e s = in_slots_others slot_of os (suc k) i v (omega (arith, e)) s
in_slots_others slot_of (Some x ∷ os) k (suc i) v e s = (
  λ q. let p : slot_of x ≡ k = s.0 in omega (arith, e, q, p),
  in_slots_others slot_of os (suc k) i v (omega (arith, e)) s.1,
)

-- no item is in an empty slot
pub in_slots_nobody : {K : Type 0} (slot_of : K → ℕ) (os : List (Option K)) (i : ℕ) → get_or os i None ≡ None
    → IsInSlots slot_of 0 os → Each (λ y. slot_of y ≢ i) (somes os)
in_slots_nobody slot_of os i h s =
    subst (λ l. Each (λ y. slot_of y ≢ i) (somes l)) (ap (set os i) (sym h) ∙ set-get_or os i None)
    (in_slots_others slot_of os 0 i i (omega arith) s)

pub in_slots_here : {K : Type 0} (slot_of : K → ℕ) (os : List (Option K)) (k i : ℕ) (x : K) → get_or os i None ≡ Some x
    → IsInSlots slot_of k os → slot_of x ≡ k + i
in_slots_here slot_of [] k i x h s = cc
in_slots_here slot_of (None ∷ os) k zero x h s = cc
in_slots_here slot_of (Some y ∷ os) k zero x h s =
    let e : y ≡ x = cc in let q : slot_of y ≡ k = s.0 in ap slot_of (sym e) ∙ q ∙ omega arith
in_slots_here slot_of (None ∷ os) k (suc i) x h s = in_slots_here slot_of os (suc k) i x h s ∙ omega arith
in_slots_here slot_of (Some y ∷ os) k (suc i) x h s = in_slots_here slot_of os (suc k) i x h s.1 ∙ omega arith

pub in_slots_empty : {K : Type 0} (slot_of : K → ℕ) (os : List (Option K)) (k i : ℕ) → IsInSlots slot_of k os
    → IsInSlots slot_of k (set os i None)
in_slots_empty slot_of [] k i s = tt
in_slots_empty slot_of (None ∷ os) k zero s = s
in_slots_empty slot_of (Some x ∷ os) k zero s = s.1
in_slots_empty slot_of (None ∷ os) k (suc i) s = in_slots_empty slot_of os (suc k) i s
in_slots_empty slot_of (Some x ∷ os) k (suc i) s = (s.0, in_slots_empty slot_of os (suc k) i s.1)

pub in_slots_fill : {K : Type 0} (slot_of : K → ℕ) (os : List (Option K)) (k i : ℕ) (y : K) → slot_of y ≡ k + i
    → IsInSlots slot_of k os → IsInSlots slot_of k (set os i (Some y))
in_slots_fill slot_of [] k i y e s = tt
in_slots_fill slot_of (None ∷ os) k zero y e s = (e ∙ omega arith, s)
in_slots_fill slot_of (Some x ∷ os) k zero y e s = (e ∙ omega arith, s.1)
in_slots_fill slot_of (None ∷ os) k (suc i) y e s = in_slots_fill slot_of os (suc k) i y (e ∙ omega arith) s
in_slots_fill slot_of (Some x ∷ os) k (suc i) y e s = (s.0, in_slots_fill slot_of os (suc k) i y (e ∙ omega arith) s.1)

-- a slot that none of the items has is empty
pub slot_empty : {K : Type 0} (slot_of : K → ℕ) (os : List (Option K)) (k i v : ℕ) → v ≡ k + i → IsInSlots slot_of k os
    → Each (λ y. slot_of y ≢ v) (somes os) → get_or os i None ≡ None
unfolding somes
slot_empty slot_of [] k i v e s h = refl
slot_empty slot_of (None ∷ os) k zero v e s h = refl
slot_empty slot_of (Some x ∷ os) k zero v e s h = absurd (h.0 (let q : slot_of x ≡ k = s.0 in q ∙ omega (arith, e)))
slot_empty slot_of (None ∷ os) k (suc i) v e s h = slot_empty slot_of os (suc k) i v (omega (arith, e)) s h
slot_empty slot_of (Some x ∷ os) k (suc i) v e s h = slot_empty slot_of os (suc k) i v (omega (arith, e)) s.1 h.1

-- each slot's number is below the number of slots
pub slots_below : {K : Type 0} (slot_of : K → ℕ) (os : List (Option K)) (k n : ℕ) → k + length os ≤ n
    → IsInSlots slot_of k os → Each (λ y. slot_of y < n) (somes os)
unfolding somes
slots_below slot_of [] k n h s = tt
slots_below slot_of (None ∷ os) k n h s = slots_below slot_of os (suc k) n (omega (arith, h)) s
slots_below slot_of (Some x ∷ os) k n h s =
    (let q : slot_of x ≡ k = s.0 in omega (arith, h, q), slots_below slot_of os (suc k) n (omega (arith, h)) s.1)

-- ---- the one in a slot, in order ----

-- the items before a slot, and the items after it
abbrev pub before_slot : {K : Type 0} → (K → ℕ) → List (Option K) → ℕ → K → List K
before_slot key os i x = below key (key x) (sort_by key (somes (set os i None)))

abbrev pub after_slot : {K : Type 0} → (K → ℕ) → List (Option K) → ℕ → K → List K
after_slot key os i x = above key (key x) (sort_by key (somes (set os i None)))

pub each_before : {K : Type 0} (key : K → ℕ) (P : K → Type 0) (os : List (Option K)) (i : ℕ) (x : K)
    → Each P (somes (set os i None)) → Each P (before_slot key os i x)
each_before key P os i x h = each_left P (before_slot key os i x) (after_slot key os i x)
    (subst (Each P) (below-above key (key x) (sort_by key (somes (set os i None))))
    (sort_each key P (somes (set os i None)) h))

pub found_there : {K W : Type 0} (key : K → ℕ) (f : K → Option W) (os : List (Option K)) (i : ℕ) (m : K) (answer : W)
    → get_or os i None ≡ Some m → HasOwnKeys key (somes os) → f m ≡ Some answer
    → Each (λ y. f y ≡ None) (somes (set os i None))
    → seek f (sort_by key (somes os))
    ≡ Some (record { earlier = before_slot key os i m; item = m; answer = answer; later = after_slot key os i m })
found_there key f os i m answer h own e s =
    ap (seek f) (taken_with key os i m h own)
    ∙ seek_around f (before_slot key os i m) m answer (after_slot key os i m)
    (each_before key (λ y. f y ≡ None) os i m s) e

pub found_nobody : {K W : Type 0} (key : K → ℕ) (f : K → Option W) (os : List (Option K))
    → Each (λ y. f y ≡ None) (somes os) → seek f (sort_by key (somes os)) ≡ None
found_nobody key f os s = seek_nobody f (sort_by key (somes os)) (sort_each key (λ y. f y ≡ None) (somes os) s)

-- ---- each, and how many, when a slot is filled or emptied ----

pub each_taken : {K : Type 0} (P : K → Type 0) (os : List (Option K)) (i : ℕ) → Each P (somes os)
    → Each P (somes (set os i None))
unfolding somes
each_taken P [] i k = tt
each_taken P (None ∷ os) zero k = k
each_taken P (Some x ∷ os) zero k = k.1
each_taken P (None ∷ os) (suc i) k = each_taken P os i k
each_taken P (Some x ∷ os) (suc i) k = (k.0, each_taken P os i k.1)
