-- A question that only the item in one slot answers: the item that the search finds, and its replacement.
use Rattle.std.proofs.Common.{◌≡◌, ◌≢◌, ℕ, List, ◌++◌, Option, Some, None, get_or, arith}
use Rattle.instructions.specs.Finding.{seek, put_back, replaced}
use Rattle.instructions.specs.Order.{sort_by, somes, IsInSlots}
use Rattle.instructions.proofs.Lists.{each_map}
use Rattle.instructions.proofs.Slots.{HasOwnKeys, in_slots_others, in_slots_nobody, in_slots_here}
use Rattle.instructions.proofs.Slots.{before_slot, after_slot, found_there, found_nobody}

-- the item in this slot answers the question, and no other item does
pub record IsOfSlot {K W : Type 0} (slot_of : K → ℕ) (ask : K → Option W) (slot : ℕ) : Type 0 where
  pub here : (m : K) → slot_of m ≡ slot → (x : W) × (ask m ≡ Some x)
  pub others : (m : K) → slot_of m ≢ slot → ask m ≡ None

-- each item is in its own slot, and no two items have the same number
pub record AreSlots {K : Type 0} (slot_of key : K → ℕ) (os : List (Option K)) : Type 0 where
  pub stands : IsInSlots slot_of 0 os
  pub own : HasOwnKeys key (somes os)

pub asked_found : {K W : Type 0} (slot_of key : K → ℕ) (ask : K → Option W) (os : List (Option K)) (i : ℕ) (m : K)
    → IsOfSlot slot_of ask i → AreSlots slot_of key os → get_or os i None ≡ Some m → (x : W) × (ask m ≡ Some x)
    × (seek ask (sort_by key (somes os))
    ≡ Some (record { earlier = before_slot key os i m; item = m; answer = x; later = after_slot key os i m }))
asked_found slot_of key ask os i m q s h = grind (arith, in_slots_here, found_there, each_map, in_slots_others)

pub asked_nobody : {K W : Type 0} (slot_of key : K → ℕ) (ask : K → Option W) (os : List (Option K)) (i : ℕ)
    → IsOfSlot slot_of ask i → AreSlots slot_of key os → get_or os i None ≡ None
    → seek ask (sort_by key (somes os)) ≡ None
asked_nobody slot_of key ask os i q s h = grind (arith, found_nobody, each_map, in_slots_nobody)

-- replacing the item at its position is replacing it in the list
pub asked_view : {K W : Type 0} (slot_of key : K → ℕ) (ask : K → Option W) (os : List (Option K)) (i : ℕ) (m : K)
    (g : K → List K) (ms : List K) → IsOfSlot slot_of ask i → AreSlots slot_of key os → get_or os i None ≡ Some m
    → ms ≡ before_slot key os i m ++ (g m ++ after_slot key os i m)
    → ms ≡ replaced (seek ask (sort_by key (somes os))) (sort_by key (somes os)) g
unfolding replaced put_back
asked_view slot_of key ask os i m g ms q s h e = grind (arith, asked_found slot_of key ask os i m q s h)
