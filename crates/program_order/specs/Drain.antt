-- Runs of the events that work on pending instructions, and how much work is left. Source: ours.
use Rattle.std.specs.Prelude.{◌≡◌, ◌≤◌, ◌+◌, ◌==◌, ℕ, Bool, true, false, if◌then◌else◌, List, [], ◌∷◌, Option, Some}
use Rattle.std.specs.Prelude.{None, is_some, length, slice_index_or}
use Rattle.std.specs.List.{list_any}
use Rattle.instructions.specs.Shape.{Shape, Sets, Loads, Stores, Jumps, Links, shape_of}
use Rattle.instructions.specs.declared.instr.Unit.{Unit as FunctionalUnit}
use Rattle.relocation.specs.declared.area.Access.TheVariants.{Load as LoadInto, Store as StoreWord}
use Rattle.hopper.specs.Hopper.{bank_of}
use Rattle.program_order.specs.declared.event.Event.{Event}
use Rattle.program_order.specs.declared.event.Event.TheVariants.{Issue, Read, Finish, Store, Accept, Return, BankFree}
use Rattle.program_order.specs.declared.event.Event.TheVariants.{Ask, Exchange, PpRead, PpWrite}
use Rattle.in_flight.specs.declared.pending.Stage.{Stage}
use Rattle.in_flight.specs.declared.pending.Stage.TheVariants.{Unread, Read as HasRead, Finished}
use Rattle.in_flight.specs.declared.pending.Outstanding.{Outstanding}
use Rattle.in_flight.specs.declared.pending.Outstanding.TheVariants.{Entered, Accepted}
use Rattle.in_flight.specs.declared.pending.Phase.{Phase}
use Rattle.in_flight.specs.declared.pending.Phase.TheVariants.{Before, After}
use Rattle.in_flight.specs.declared.pending.Pending.{Pending}
use Rattle.in_flight.specs.Lookup.{arrival_at, in_place, stage_at}
use Rattle.program_order.specs.Processor.{Processor}
use Rattle.program_order.specs.Events.{allowed, after}

-- ---- what an event works on ----

-- the instruction holds this unit, before its store event
unfoldable pub holds_unit : FunctionalUnit → Pending → Bool
holds_unit unit m = is_some (stage_at unit m)

-- the instruction's load waits in this channel
unfoldable pub in_channel : ℕ → Pending → Bool
in_channel c m = is_some (arrival_at c m)

-- the reference of an instruction in this phase waits in the hopper for this bank
unfoldable pub waits_for_in : ℕ → Phase → Bool
waits_for_in bank (Before t) = false
waits_for_in bank (After (Entered place a access)) = bank_of a == bank
waits_for_in bank (After (Accepted n word)) = false

-- the instruction's reference waits in the hopper for this bank
unfoldable pub waits_for : ℕ → Pending → Bool
waits_for bank m = waits_for_in bank m.phase

-- the event works on what is pending: on the instruction in a unit, the reference in a place of the hopper or the
-- load in a channel, or on a bank for which a reference waits. An issue, an exchange, a request for one and a
-- peripheral access don't
unfoldable pub works_on : List Pending → Event → Bool
works_on ms (Read u) = list_any (holds_unit u) ms
works_on ms (Finish u) = list_any (holds_unit u) ms
works_on ms (Store u) = list_any (holds_unit u) ms
works_on ms (Accept p) = list_any (in_place p) ms
works_on ms (Return c) = list_any (in_channel c) ms
works_on ms (BankFree k) = list_any (waits_for k) ms
works_on ms _ = false

-- the events are allowed one after another, and each works on what is then pending
abbrev pub Accepts : Processor → List Event → Type 0
Accepts w [] = Unit {0}
Accepts w (e ∷ events) =
    (allowed w e ≡ None) × (works_on w.pending e ≡ true) × Accepts (after w e) events

-- the machine after these events
unfoldable pub leads_to : Processor → List Event → Processor
leads_to w [] = w
leads_to w (e ∷ events) = leads_to (after w e) events

-- this many such events, at most forty, lead from the first machine to the second
pub record Works (w v : Processor) (count : ℕ) : Type 0 where
  pub events : List Event
  pub accepted : Accepts w events
  pub leads : v ≡ leads_to w events
  pub counted : length events ≡ count
  pub limit : count ≤ 40

-- what work on the pending instructions never changes: it issues nothing, asks for no exchange, makes none and accesses
-- no word for a peripheral processor; what was given at boot, and whether the seats were given out, is unchanged
pub record KeepsAccounts (w v : Processor) : Type 0 where
  pub log : v.log ≡ w.log
  pub request : v.request ≡ w.request
  pub budget : v.budget ≡ w.budget
  pub asked : v.asked ≡ w.asked
  pub accessed : v.accessed ≡ w.accessed
  pub last : v.last ≡ w.last
  pub boot_memory : v.boot_memory ≡ w.boot_memory
  pub seats_given : v.seats_given ≡ w.seats_given

-- ---- the next event ----

-- the next event of an instruction that waits for no other: a busy bank is freed before its reference is accepted
unfoldable pub next_in : FunctionalUnit → Phase → List Bool → Event
next_in unit (Before Unread) busy = Read unit
next_in unit (Before (HasRead os)) busy = Finish unit
next_in unit (Before (Finished v)) busy = Store unit
next_in unit (After (Entered place a access)) busy =
    if slice_index_or busy (bank_of a) false then BankFree (bank_of a) else Accept place
next_in unit (After (Accepted n word)) busy = Return n

-- the next event of the oldest pending instruction
unfoldable pub next_of : List Pending → List Bool → Option Event
next_of [] busy = None
next_of (m ∷ ms) busy = Some (next_in m.unit m.phase busy)

-- ---- how much work is left ----

-- the most events after the store event: the release of a bank and an acceptance, and for a load its return
unfoldable pub reference_cost : Shape → ℕ
reference_cost (Sets rs) = 0
reference_cost (Loads n) = 3
reference_cost (Stores n) = 2
reference_cost Jumps = 0
reference_cost Links = 2

-- how many of the unit's events are left: read, finish and store for an instruction that waits
unfoldable pub stage_cost : Stage → ℕ
stage_cost Unread = 3
stage_cost (HasRead os) = 2
stage_cost (Finished v) = 1

-- the most events of a reference that waits in the hopper, or of a load that waits in its channel
unfoldable pub outstanding_cost : Outstanding → ℕ
outstanding_cost (Entered place a (LoadInto n)) = 3
outstanding_cost (Entered place a (StoreWord word)) = 2
outstanding_cost (Accepted n word) = 1

-- the most events of an instruction of this shape in this phase
unfoldable pub phase_cost : Shape → Phase → ℕ
phase_cost shape (Before t) = stage_cost t + reference_cost shape
phase_cost shape (After l) = outstanding_cost l

-- the most events that a pending instruction still takes
unfoldable pub cost : Pending → ℕ
cost m = phase_cost (shape_of m.instr) m.phase

-- the most events that all pending instructions still take
unfoldable pub work_left : List Pending → ℕ
work_left [] = 0
work_left (m ∷ ms) = cost m + work_left ms
