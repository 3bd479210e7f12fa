-- The instruction in flight that an event names, and what replaces it. Source: ours.
use Rattle.std.specs.Prelude.{ℕ, Bool, true, false, ◌==◌, if◌then◌else◌, List, [], ◌∷◌, ◌++◌, Option, Some, None}
use Rattle.std.specs.Prelude.{is_some}
use Rattle.instructions.specs.declared.instr.Unit.{Unit as FunctionalUnit}
use Rattle.instructions.specs.Finding.{Found}
use Rattle.hopper.specs.Queue.{place_for as free_in}
use Rattle.hopper.specs.declared.entered.Entered.{Entered as HasEntered}
use Rattle.scoreboard.specs.Units.{same_unit}
use Rattle.in_flight.specs.declared.pending.Arrival.{Arrival}
use Rattle.hopper.specs.declared.reference.Reference.{Reference}
use Rattle.in_flight.specs.declared.pending.Outstanding.{Outstanding}
use Rattle.in_flight.specs.declared.pending.Outstanding.TheVariants.{Entered, Accepted}
use Rattle.in_flight.specs.declared.pending.Pending.{Pending}
use Rattle.in_flight.specs.declared.pending.Phase.{Phase}
use Rattle.in_flight.specs.declared.pending.Phase.TheVariants.{Before, After}
use Rattle.in_flight.specs.declared.pending.Stage.{Stage}
use Rattle.in_flight.specs.declared.slots.Located.{Located}

-- the stage of an instruction in this phase, if its store event is still to come
unfoldable pub stage_in : Phase → Option Stage
stage_in (Before t) = Some t
stage_in (After l) = None

-- the stage of the instruction that holds the unit
unfoldable pub stage_at : FunctionalUnit → Pending → Option Stage
stage_at unit m = if same_unit m.unit unit then stage_in m.phase else None

-- the reference of an instruction in this phase, if it waits in the place with this number
unfoldable pub entry_in : ℕ → Phase → Option Reference
entry_in p (Before t) = None
entry_in p (After (Entered place a access)) = if place == p then Some
    (record { address = a; access = access }) else None
entry_in p (After (Accepted n word)) = None

-- the reference of an instruction, if it waits in this hopper place
unfoldable pub entry_at : ℕ → Pending → Option Reference
entry_at p m = entry_in p m.phase

-- the load of an instruction in this phase, if it waits in the channel with this number
unfoldable pub arrival_in : ℕ → Phase → Option Arrival
arrival_in c (Before t) = None
arrival_in c (After (Entered place a access)) = None
arrival_in c (After (Accepted n word)) = if n == c then Some (record { channel = n; word = word }) else None

-- the load of an instruction, if it waits in this channel
unfoldable pub arrival_at : ℕ → Pending → Option Arrival
arrival_at c m = arrival_in c m.phase

-- the instruction that was found, with the answer of the search
unfoldable pub located : {K : Type 0} → Option (Found Pending K) → Option (Located K)
located None = None
located (Some f) = Some (record { pending = f.item; answer = f.answer })

-- the oldest pending instruction
unfoldable pub first_of : List Pending → Option Pending
first_of [] = None
first_of (m ∷ ms) = Some m

-- there is a pending instruction
unfoldable pub is_pending : List Pending → Bool
is_pending [] = false
is_pending (m ∷ ms) = true

-- ---- places of the hopper ----

-- the instruction's reference waits in this hopper place
unfoldable pub in_place : ℕ → Pending → Bool
in_place p m = is_some (entry_at p m)

-- the reference of an instruction in this phase, if it waits in the hopper
unfoldable pub waiting_in : Phase → List HasEntered
waiting_in (Before t) = []
waiting_in (After (Entered place a access)) =
    record { place = place; reference = record { address = a; access = access } } ∷ []
waiting_in (After (Accepted n word)) = []

-- the references of the pending instructions that wait in the hopper
unfoldable pub waiting : List Pending → List HasEntered
waiting [] = []
waiting (m ∷ ms) = waiting_in m.phase ++ waiting ms

-- the lowest-numbered of the four hopper places that is free
unfoldable pub place_for : List Pending → Option ℕ
place_for ms = free_in (waiting ms)

-- ---- what replaces an instruction ----

-- the instruction, now in this phase
unfoldable pub in_phase : Pending → Phase → Pending
in_phase m phase = record m { phase = phase }

-- the instruction after its store event, pending as long as something is left of it
unfoldable pub kept : Pending → Option Outstanding → List Pending
kept m None = []
kept m (Some l) = in_phase m (After l) ∷ []

-- the rest is a reference that enters the hopper
unfoldable pub enters : Option Outstanding → Bool
enters None = false
enters (Some (Entered place a access)) = true
enters (Some (Accepted n word)) = false
