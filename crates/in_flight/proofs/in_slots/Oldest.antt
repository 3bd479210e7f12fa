-- The pending instruction with the lowest number, from the slots.
use Rattle.std.proofs.Common.{◌≡◌, ◌<◌, ◌≤◌, ◌+◌, ℕ, zero, suc, List, [], ◌∷◌, ◌++◌, Option}
use Rattle.std.proofs.Common.{Some, None, refl, sym, ap, ◌∙◌, drop, get_or, length, add-one, arith}
use Rattle.instructions.specs.Order.{insert_by, sort_by, somes}
use Rattle.in_flight.specs.declared.pending.Pending.{Pending}
use Rattle.in_flight.specs.inner.Slots.{number_of, slots, in_order, lower_of, lowest_of}
use Rattle.in_flight.specs.Lookup.{first_of}

lower_none : (o : Option Pending) → lower_of o None ≡ o
unfolding lower_of
lower_none o = grind arith

lower_assoc : (o p q : Option Pending) → lower_of o (lower_of p q) ≡ lower_of (lower_of o p) q
unfolding lower_of
lower_assoc o p q = grind arith

lowest-append : (os ps : List (Option Pending)) → lowest_of (os ++ ps) ≡ lower_of (lowest_of os) (lowest_of ps)
unfolding lower_of lowest_of
lowest-append [] ps = cc
lowest-append (o ∷ os) ps = ap (lower_of o) (lowest-append os ps) ∙ lower_assoc o (lowest_of os) (lowest_of ps)

first_inserted : (x : Pending) (ys : List Pending)
    → first_of (insert_by number_of x ys) ≡ lower_of (Some x) (first_of ys)
unfolding insert_by number_of first_of lower_of
first_inserted x ys = grind arith

lowest_sorted : (os : List (Option Pending)) → lowest_of os ≡ first_of (sort_by number_of (somes os))
unfolding sort_by somes lowest_of first_of lower_of
lowest_sorted [] = refl
lowest_sorted (None ∷ os) = lowest_sorted os
lowest_sorted (Some x ∷ os) = grind (arith, lowest_sorted os, first_inserted)

pub first_pending : (units places channels : List (Option Pending))
    → lower_of (lowest_of units) (lower_of (lowest_of places) (lowest_of channels))
    ≡ first_of (in_order (slots units places channels))
unfolding slots
first_pending units places channels =
    ap (lower_of (lowest_of units)) (sym (lowest-append places channels))
    ∙ sym (lowest-append units (places ++ channels))
    ∙ lowest_sorted (units ++ (places ++ channels))

-- ---- over the slots ----

lowest_next : (found next : Option Pending) (os : List (Option Pending)) (i : ℕ) (o d l : Option Pending)
    → i < length os → next ≡ lower_of found o → o ≡ get_or os i d → lower_of found (lowest_of (drop i os)) ≡ l
    → lower_of next (lowest_of (drop (suc i) os)) ≡ l
unfolding lowest_of
lowest_next found next [] i o d l h e k q = absurd (omega (arith, h))
lowest_next found next (p ∷ os) zero o d l h e k q = grind (arith, lower_assoc)
lowest_next found next (p ∷ os) (suc i) o d l h e k q = lowest_next found next os i o d l (omega (arith, h)) e k q

pub lowest_more : (found next : Option Pending) (os : List (Option Pending)) (i : ℕ) (o d l : Option Pending)
    → i < length os → next ≡ lower_of found o → o ≡ get_or os i d → lower_of found (lowest_of (drop i os)) ≡ l
    → lower_of next (lowest_of (drop (i + 1) os)) ≡ l
lowest_more found next os i o d l h e k q = rw (add-one i, lowest_next found next os i o d l h e k q)

pub lowest_done : (found : Option Pending) (os : List (Option Pending)) (i : ℕ) (l : Option Pending) → length os ≤ i
    → lower_of found (lowest_of (drop i os)) ≡ l → found ≡ l
unfolding lowest_of
lowest_done found [] zero l h q = sym (lower_none found) ∙ q
lowest_done found [] (suc i) l h q = sym (lower_none found) ∙ q
lowest_done found (p ∷ os) zero l h q = absurd (omega (arith, h))
lowest_done found (p ∷ os) (suc i) l h q = lowest_done found os i l (omega (arith, h)) q
