-- Pending instructions in slots, and the list that the slots represent. Source: ours.
use Rattle.std.specs.Prelude.{◌≡◌, ◌≢◌, ◌<◌, ◌+◌, ℕ, Bool, true, false, nat_lt, if◌then◌else◌, List, [], ◌∷◌, ◌++◌}
use Rattle.std.specs.Prelude.{Option, Some, None, length, set}
use Rattle.instructions.specs.declared.instr.Unit.{Unit as FunctionalUnit}
use Rattle.scoreboard.specs.Units.{unit_number}
use Rattle.instructions.specs.Each.{Each, Pairs}
use Rattle.instructions.specs.Order.{insert_by, sort_by, somes, IsInSlots}
use Rattle.in_flight.specs.declared.pending.Outstanding.{Outstanding}
use Rattle.in_flight.specs.declared.pending.Outstanding.TheVariants.{Entered, Accepted}
use Rattle.in_flight.specs.declared.pending.Phase.{Phase}
use Rattle.in_flight.specs.declared.pending.Phase.TheVariants.{Before, After}
use Rattle.in_flight.specs.declared.pending.Pending.{Pending}
use Rattle.in_flight.specs.Lookup.{in_phase}

-- the number of the instruction's reservation
unfoldable pub number_of : Pending → ℕ
number_of m = m.number

-- units have the slots 0 to 9, places of the hopper 10 to 13, channels 14 to 21; there is no slot 22
unfoldable pub slot_in : FunctionalUnit → Phase → ℕ
slot_in unit (Before t) = unit_number unit
slot_in unit (After (Entered place a access)) = if nat_lt place 4 then 10 + place else 22
slot_in unit (After (Accepted n word)) = if nat_lt n 8 then 14 + n else 22

-- the slot of a pending instruction
unfoldable pub slot_of : Pending → ℕ
slot_of m = slot_in m.unit m.phase

-- the slots in the order of their numbers: units, places of the hopper, channels
unfoldable pub slots : List (Option Pending) → List (Option Pending) → List (Option Pending) → List (Option Pending)
slots units places channels = units ++ (places ++ channels)

-- the instructions in these slots, in issue order
abbrev pub in_order : List (Option Pending) → List Pending
in_order os = sort_by number_of (somes os)

-- each pending instruction is in the slot of its unit, place or channel
pub record IsRight (units places channels : List (Option Pending)) : Type 0 where
  -- ten units, four places of the hopper and eight channels
  pub all_units : length units ≡ 10
  pub all_places : length places ≡ 4
  pub all_channels : length channels ≡ 8
  pub stands : IsInSlots slot_of 0 (slots units places channels)
  -- no two instructions have the same number
  pub own : Pairs (λ x y. number_of x ≢ number_of y) (somes (slots units places channels))

-- none of the instructions is in this slot
abbrev pub AreElsewhere : ℕ → List Pending → Type 0
AreElsewhere slot ms = Each (λ m. slot_of m ≢ slot) ms

-- the slot of the rest exists and is free
abbrev pub HasRoom : Option Outstanding → List Pending → Type 0
HasRoom None ms = Unit {0}
HasRoom (Some (Entered place a access)) ms = (place < 4) × AreElsewhere (10 + place) ms
HasRoom (Some (Accepted n word)) ms = (n < 8) × AreElsewhere (14 + n) ms

-- the place or the channel of the rest is one of so many
abbrev pub IsWithin : ℕ → ℕ → Outstanding → Type 0
IsWithin places channels (Entered place a access) = place < places
IsWithin places channels (Accepted n word) = n < channels

-- the hopper's places after an instruction with this rest, if there is one, has moved into its place
unfoldable pub places_with : List (Option Pending) → Pending → Option Outstanding → List (Option Pending)
places_with places m None = places
places_with places m (Some (Entered place a access)) =
    set places place (Some (in_phase m (After (Entered place a access))))
places_with places m (Some (Accepted n word)) = places

-- the channels after a load with this rest, if there is one, has moved into its channel
unfoldable pub channels_with : List (Option Pending) → Pending → Option Outstanding → List (Option Pending)
channels_with channels m None = channels
channels_with channels m (Some (Entered place a access)) = channels
channels_with channels m (Some (Accepted n word)) = set channels n (Some (in_phase m (After (Accepted n word))))

-- nothing is pending
unfoldable pub has_none : List Pending → Bool
has_none [] = true
has_none (m ∷ ms) = false

-- the instruction with the lower number
unfoldable pub lower_of : Option Pending → Option Pending → Option Pending
lower_of None o = o
lower_of (Some a) None = Some a
lower_of (Some a) (Some b) = if nat_lt a.number b.number then Some a else Some b

-- the instruction with the lowest number in the slots
unfoldable pub lowest_of : List (Option Pending) → Option Pending
lowest_of [] = None
lowest_of (o ∷ os) = lower_of o (lowest_of os)

-- the list after the instruction in this slot, if there is one, was inserted by its number
unfoldable pub with_slot : Option Pending → List Pending → List Pending
with_slot None ms = ms
with_slot (Some m) ms = insert_by number_of m ms

-- the list after the instructions in these slots were inserted, beginning with the last slot
unfoldable pub with_slots : List (Option Pending) → List Pending → List Pending
with_slots [] ms = ms
with_slots (o ∷ os) ms = with_slot o (with_slots os ms)
