-- Facts about an instruction that follow from its phase alone.
use Rattle.std.proofs.Common.{◌≡◌, ℕ, Bool, false, List, [], Option, Some, None, arith}
use Rattle.std.specs.Prelude.{◌+◌, ◌&&◌, ◌||◌, ◌==◌, not}
use Rattle.instructions.specs.declared.instr.Reg.{Reg}
use Rattle.instructions.specs.Shape.{Shape, shape_of, has_store}
use Rattle.relocation.specs.declared.area.Access.TheVariants.{Load as LoadInto, Store as StoreWord}
use Rattle.hopper.specs.Hopper.{stores_to}
use Rattle.scoreboard.specs.Reservations as reservation
use Rattle.scoreboard.specs.Reservations.{is_reserved, returning_to}
use Rattle.in_flight.specs.declared.pending.Outstanding.{Outstanding}
use Rattle.in_flight.specs.declared.pending.Outstanding.TheVariants.{Entered, Accepted}
use Rattle.in_flight.specs.declared.pending.Phase.{Phase}
use Rattle.in_flight.specs.declared.pending.Phase.TheVariants.{Before, After}
use Rattle.in_flight.specs.declared.pending.Pending.{Pending}
use Rattle.in_flight.specs.Pending.{returning, occupancy_of, reservation_of, is_branch, stores_in, delays_fetch}
use Rattle.in_flight.specs.inner.OwnSlots.{unit_slot}
use Rattle.instructions.specs.declared.instr.Unit.{Unit as FunctionalUnit}

unfoldable pub to_come_in : Shape → Phase → List Reg
to_come_in h p = reservation.to_come_in h (occupancy_of p)

unfoldable pub target_of : Outstanding → List Reg
target_of l = returning_to (returning l)

unfoldable pub reads_in : List Reg → Phase → List Reg
reads_in rs p = reservation.reads_in rs (occupancy_of p)

unfoldable pub before_and : Bool → Phase → Bool
before_and f p = is_reserved (occupancy_of p) && f

unfoldable pub may_store_in : Bool → ℕ → Phase → Bool
may_store_in f a (Before t) = f
may_store_in f a (After (Entered place b (StoreWord w))) = b == a
may_store_in f a (After (Entered place b (LoadInto n))) = false
may_store_in f a (After (Accepted n w)) = false

-- whether the instruction may still store to that absolute address
unfoldable pub may_store : ℕ → Pending → Bool
may_store a m = may_store_in (has_store (shape_of m.instr)) a m.phase

-- the registers that an optional outstanding reference writes
unfoldable pub targets_left : Option Outstanding → List Reg
targets_left None = []
targets_left (Some l) = target_of l

-- the slot of a pending instruction: 0 to 6 for units, 7 to 10 for places, 11 to 15 for channels
unfoldable pub slot_in : FunctionalUnit → Phase → ℕ
slot_in unit (Before t) = unit_slot unit
slot_in unit (After (Entered place a access)) = 7 + place
slot_in unit (After (Accepted n word)) = 10 + n

unfoldable pub slot_of : Pending → ℕ
slot_of m = slot_in m.unit m.phase

may_store_none : (f g : Bool) (a : ℕ) (p : Phase)
    → (((is_reserved (occupancy_of p) && f) && not g) || stores_in a p) ≡ false
    → (is_reserved (occupancy_of p) && g) ≡ false → may_store_in f a p ≡ false
unfolding occupancy_of is_reserved stores_in stores_to may_store_in
may_store_none f g a p h k = grind arith

-- an instruction that delays no fetch of a word and is no branch doesn't store to that word
pub stores_nothing : (a : ℕ) (m : Pending) → delays_fetch a m ≡ false → is_branch m ≡ false → may_store a m ≡ false
unfolding delays_fetch is_branch reservation_of reservation.has_store_turn reservation.is_branch may_store
stores_nothing a m h k = grind (arith, may_store_none)
