-- Several next events of a machine by one call. Source: ours.
use Rattle.std.specs.Prelude.{◌≡◌, ◌⊎◌, ◌≤◌, ◌<◌, ◌-◌, ◌==◌, ◌&&◌, ℕ, zero, suc, Bool, true, false, not, if◌then◌else◌}
use Rattle.std.specs.Prelude.{List, length, Option, Some, None, is_none, Result, ⊤}
use Rattle.instructions.specs.declared.refusal.Refusal.{Refusal}
use Rattle.in_flight.specs.Lookup.{is_pending}
use Rattle.program_order.specs.declared.event.Done.{Done}
use Rattle.program_order.specs.declared.event.Event.{Event}
use Rattle.program_order.specs.Events.{allowed, after}
use Rattle.program_order.specs.Processor.{Processor}
use Rattle.program_order.specs.Reached.{GoesOn}
use Rattle.embedding.specs.Keeping.{next_event}

-- nothing is pending, and the next instruction is the first one in the word at this address
abbrev pub rests_at : ℕ → Processor → Bool
rests_at address w =
    not (is_pending w.pending) && (w.state.position.p == address && w.state.position.parcel == 0)

-- the machine after its next event, if that event may be made
unfoldable pub stepped : Processor → Option Processor
stepped w = if is_none (allowed w (next_event w)) then Some (after w (next_event w)) else None

-- the same of a machine that there may be
unfoldable pub then_stepped : Option Processor → Option Processor
then_stepped None = None
then_stepped (Some w) = stepped w

-- the machine after this many next events, if each may be made
unfoldable pub stepped_by : ℕ → Processor → Option Processor
stepped_by zero w = Some w
stepped_by (suc n) w = then_stepped (stepped_by n w)

-- these are events and answers with which the theorem holds for the machine after them
pub record GoesOnBySteps (w : Processor) (count : ℕ) (v : Processor) : Type 0 where
  pub events : List Event
  pub answers : List (Result Done Refusal)
  pub counted : length events ≡ count
  pub reached : GoesOn w events answers v

-- after none of this many next events does the machine rest at the address
unfoldable pub NeverRests : ℕ → ℕ → Processor → Type 0
NeverRests address zero w = ⊤
NeverRests address (suc n) w = NeverRests address n w
    × ((x : Processor) → stepped_by (suc n) w ≡ Some x → rests_at address x ≡ false)

-- of at most `most` next events `count` were made. No more were made, because these are all, because the machine rests
-- at the address after the last one, or because the next one may not be made. If it rests there at first, it goes on
pub record Advances (most address : ℕ) (w v : Processor) (count : ℕ) : Type 0 where
  pub made : stepped_by count w ≡ Some v
  pub within : count ≤ most
  -- after no event but the last does the machine rest at the address
  pub passed : NeverRests address (count - 1) w
  pub ended : (count ≡ most) ⊎ (((0 < count) × (rests_at address v ≡ true)) ⊎ (stepped v ≡ None))
  pub onward : GoesOnBySteps w count v
