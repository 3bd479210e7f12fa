-- The hopper's four places, the banks of addresses, and the references that keep their order.
-- Source: Thornton, stunt box; 60100000, central memory. Ours: that a reference takes the lowest-numbered free place,
-- and which references keep their order.
use Rattle.std.specs.Prelude.{ℕ, ◌%◌, Bool, true, false, ◌==◌, ◌&&◌, ◌||◌, if◌then◌else◌, List, [], ◌∷◌, Option}
use Rattle.std.specs.Prelude.{Some, None}
use Rattle.relocation.specs.declared.area.Access.{Access}
use Rattle.relocation.specs.declared.area.Access.TheVariants.{Load, Store}

-- the bank of an absolute address: its low five bits
unfoldable pub bank_of : ℕ → ℕ
bank_of address = address % 32

-- the access is a store
unfoldable pub is_store : Access → Bool
is_store (Load n) = false
is_store (Store word) = true

-- two references keep the order in which they entered: both are to the same absolute address, and at least one of them
-- stores
unfoldable pub keep_order : ℕ → Access → ℕ → Access → Bool
keep_order address access other_address other_access =
    (is_store access || is_store other_access) && other_address == address

-- an access at an absolute address is a store to the given address
unfoldable pub stores_to : ℕ → ℕ → Access → Bool
stores_to given address (Load n) = false
stores_to given address (Store word) = address == given

-- the first of these places that isn't taken
unfoldable pub first_place : (ℕ → Bool) → List ℕ → Option ℕ
first_place taken [] = None
first_place taken (p ∷ ps) = if taken p then first_place taken ps else Some p

-- the lowest-numbered free place of the four
unfoldable pub free_place : (ℕ → Bool) → Option ℕ
free_place taken = first_place taken (0 ∷ 1 ∷ 2 ∷ 3 ∷ [])
