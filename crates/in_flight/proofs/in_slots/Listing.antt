-- The pending instructions as one list: each is inserted by its number, beginning with the last slot.
use Rattle.std.proofs.Common.{◌≡◌, ◌<◌, ◌≤◌, ◌+◌, ℕ, zero, suc, Bool, true, false, cond, List, [], ◌∷◌, ◌++◌, Option}
use Rattle.std.proofs.Common.{Some, None, refl, ap, ◌∙◌, ltb, length, drop, get_or, add-one, arith}
use Rattle.std.specs.Prelude.{not}
use Rattle.std.specs.List.{insert, position, position_or_len}
use Rattle.std.proofs.lemmas.Bool.{ltb-false}
use Rattle.std.proofs.lemmas.Option.{same_Some}
use Rattle.instructions.specs.Order.{insert_by, sort_by, somes}
use Rattle.in_flight.specs.declared.pending.Pending.{Pending}
use Rattle.in_flight.specs.inner.Slots.{number_of, slots, in_order, with_slot, with_slots}

-- ---- one instruction ----

above : Pending → List Pending → ℕ
above x ys = position_or_len (λ y. ltb x.number y.number) ys

inserted_above : (x : Pending) (ys : List Pending) → insert ys (above x ys) x ≡ insert_by number_of x ys
unfolding insert_by number_of above
inserted_above x [] = refl
inserted_above x (y ∷ ys) = by_test (ltb x.number y.number) (inserted_above x ys)
  where
    by_test : (b : Bool) → insert ys (above x ys) x ≡ insert_by number_of x ys
        → insert (y ∷ ys) (cond (not b) (1 + above x ys) 0) x ≡ cond b (x ∷ y ∷ ys) (y ∷ insert_by number_of x ys)
    by_test true e = refl
    by_test false e =
        let next : 1 + above x ys ≡ suc (above x ys) = omega arith in
        ap (λ n. insert (y ∷ ys) n x) next ∙ ap (λ l. y ∷ l) e

pub inserted_at : (x : Pending) (ys : List Pending) (i : ℕ) → position (λ y. ltb x.number y.number) ys ≡ Some i
    → insert ys i x ≡ insert_by number_of x ys
unfolding above
inserted_at x ys i h = grind (arith, above, inserted_above, same_Some)

after_all : (x : Pending) (ys : List Pending) (n : ℕ) → length ys ≤ n → ys ++ x ∷ [] ≡ insert ys n x
after_all x [] zero h = refl
after_all x [] (suc n) h = refl
after_all x (y ∷ ys) zero h = absurd (omega (arith, h))
after_all x (y ∷ ys) (suc n) h = ap (λ l. y ∷ l) (after_all x ys n (omega (arith, h)))

pub inserted_last : (x : Pending) (ys : List Pending) → position (λ y. ltb x.number y.number) ys ≡ None
    → ys ++ x ∷ [] ≡ insert_by number_of x ys
unfolding above
inserted_last x ys h = by_test (ltb (above x ys) (length ys)) refl h
  where
    by_test : (b : Bool) → ltb (above x ys) (length ys) ≡ b → cond b (Some (above x ys)) None ≡ None
        → ys ++ x ∷ [] ≡ insert_by number_of x ys
    by_test true q e = cc
    by_test false q e = after_all x ys (above x ys) (ltb-false _ _ q) ∙ inserted_above x ys

-- ---- all slots ----

step : (os : List (Option Pending)) (i : ℕ) (o d : Option Pending) (ms : List Pending) → i < length os
    → o ≡ get_or os i d → with_slot o (with_slots (drop (suc i) os) ms) ≡ with_slots (drop i os) ms
unfolding with_slots
step [] i o d ms h e = absurd (omega (arith, h))
step (p ∷ os) zero o d ms h e = ap (λ q. with_slot q (with_slots os ms)) e
step (p ∷ os) (suc i) o d ms h e = step os i o d ms (omega (arith, h)) e

pub one_more : (os : List (Option Pending)) (i j : ℕ) (o d : Option Pending) (ms before after : List Pending)
    → j < length os → i ≡ j + 1 → o ≡ get_or os j d → before ≡ with_slots (drop i os) ms
    → after ≡ with_slot o before → after ≡ with_slots (drop j os) ms
one_more os i j o d ms before after h k e b a = rw (a, b, k, add-one j, step os j o d ms h e)

pub none_yet : (os : List (Option Pending)) (ms : List Pending) → ms ≡ with_slots (drop (length os) os) ms
unfolding with_slots
none_yet [] ms = refl
none_yet (o ∷ os) ms = none_yet os ms

with_append : (os ps : List (Option Pending)) (ms : List Pending)
    → with_slots os (with_slots ps ms) ≡ with_slots (os ++ ps) ms
unfolding with_slots
with_append [] ps ms = refl
with_append (o ∷ os) ps ms = ap (with_slot o) (with_append os ps ms)

with_sorted : (os : List (Option Pending)) → with_slots os [] ≡ sort_by number_of (somes os)
unfolding with_slots with_slot sort_by somes
with_sorted [] = refl
with_sorted (None ∷ os) = with_sorted os
with_sorted (Some x ∷ os) = ap (insert_by number_of x) (with_sorted os)

pub all_slots : (units places channels : List (Option Pending))
    → with_slots units (with_slots places (with_slots channels [])) ≡ in_order (slots units places channels)
unfolding slots
all_slots units places channels = grind (arith, with_append, with_sorted)
