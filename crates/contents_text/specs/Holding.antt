-- The pending instructions that hold an event back, as lines of text. Source: ours, over Thornton's conflicts.
use Rattle.std.specs.Prelude.{ℕ, Bool, true, false, ◌&&◌, ◌||◌, if◌then◌else◌, List, [], ◌∷◌, Option, Some, None}
use Rattle.std.specs.Prelude.{◌++◌, codes, decimal, Result, Ok, Err}
use Rattle.std.specs.List.{concat, flat_map}
use Rattle.instructions.specs.Finding.{seek}
use Rattle.instructions.specs.declared.instr.Unit.{Unit as FunctionalUnit}
use Rattle.instructions.specs.declared.instr.Unit.TheVariants.{Increment1, Increment2}
use Rattle.instructions.specs.declared.refusal.Refusal.{Refusal}
use Rattle.instructions.specs.declared.refusal.Refusal.TheVariants as refusals
use Rattle.sequential.specs.State.{absolute, bounds_of}
use Rattle.scoreboard.specs.declared.reservation.Reservation.{Reservation}
use Rattle.scoreboard.specs.Reservations.{comes, holds, reads_it}
use Rattle.scoreboard.specs.Units.{same_unit}
use Rattle.hopper.specs.declared.reference.Reference.{Reference}
use Rattle.in_flight.specs.declared.pending.Pending.{Pending}
use Rattle.in_flight.specs.declared.slots.Located.{Located}
use Rattle.in_flight.specs.Lookup.{arrival_at, entry_at, located, stage_at}
use Rattle.in_flight.specs.Pending.{delays_access, delays_fetch, has_turn, holds_back, is_before, is_branch}
use Rattle.in_flight.specs.Pending.{is_entered, reservation_of}
use Rattle.program_order.specs.declared.event.Done.{Done}
use Rattle.program_order.specs.declared.event.Event.{Event}
use Rattle.program_order.specs.declared.event.Event.TheVariants as events
use Rattle.program_order.specs.Processor.{Processor}
use Rattle.program_order.specs.Run.{answer_of}
use Rattle.job_deck.specs.AnswerText.{answer_line}

-- ---- the instruction that the event names ----

-- the number of the instruction that was found; 0, which no reservation has, if none was found
abbrev pub number_in : {K : Type 0} → Option (Located K) → ℕ
number_in None = 0
number_in (Some found) = found.pending.number

-- the number of the instruction in the event's unit, place of the hopper or channel; 0 if there is none
abbrev pub number_at : List Pending → Event → ℕ
number_at pending (events.Read u) = number_in (located (seek (stage_at u) pending))
number_at pending (events.Finish u) = number_in (located (seek (stage_at u) pending))
number_at pending (events.Store u) = number_in (located (seek (stage_at u) pending))
number_at pending (events.Accept p) = number_in (located (seek (entry_at p) pending))
number_at pending (events.Return c) = number_in (located (seek (arrival_at c) pending))
number_at pending other = 0

-- ---- the conflicts with one pending instruction ----

-- the instruction delays a fetch from this absolute address, if there is one
abbrev pub delays_fetch_of : Option ℕ → Pending → Bool
delays_fetch_of None m = false
delays_fetch_of (Some a) m = delays_fetch a m

-- the instruction holds a unit of the kind whose lower-numbered unit this is
abbrev pub holds_kind : FunctionalUnit → Reservation → Bool
holds_kind unit reservation =
    holds unit reservation || (same_unit unit Increment1 && holds Increment2 reservation)

-- the instruction holds back the reference that was found, if one was
abbrev pub holds_found : Option (Located Reference) → Pending → Bool
holds_found None m = false
holds_found (Some found) m = holds_back found.answer.address found.answer.access m

-- the instruction holds back the reference in the event's place of the hopper
abbrev pub holds_reference : List Pending → Event → Pending → Bool
holds_reference pending (events.Accept p) m = holds_found (located (seek (entry_at p) pending)) m
holds_reference pending other m = false

-- the instruction delays the peripheral access of the event
abbrev pub delays_event : Event → Pending → Bool
delays_event (events.PpRead a) m = delays_access a m
delays_event (events.PpWrite a word) m = delays_access a m
delays_event other m = false

-- ---- the instructions that hold an event back ----

-- the instruction was issued before the one that the event names
abbrev pub is_earlier : Processor → Event → Pending → Bool
is_earlier w event m = is_before (number_at w.pending event) m

-- the instruction holds the event back, which was refused for this reason
abbrev pub holds_event : Processor → Event → Refusal → Pending → Bool
holds_event w event refusals.BranchPending m = is_branch m
holds_event w event refusals.FetchWait m = delays_fetch_of (absolute (bounds_of w.state) w.state.position.p) m
holds_event w event (refusals.UnitBusy unit) m = holds_kind unit (reservation_of m)
holds_event w event (refusals.ResultReserved register) m = comes register (reservation_of m)
holds_event w event (refusals.OperandAwaited register) m =
    is_earlier w event m && comes register (reservation_of m)
holds_event w event (refusals.ResultHeld register) m = is_earlier w event m && reads_it register (reservation_of m)
holds_event w event refusals.HopperFull m = is_entered m
holds_event w event refusals.OutOfTurn m = is_earlier w event m && has_turn m
holds_event w event refusals.OlderAtAddress m = is_earlier w event m && holds_reference w.pending event m
holds_event w event refusals.NotDrained m = true
holds_event w event refusals.PeripheralWait m = delays_event event m
holds_event w event other m = false

-- the line of an instruction that holds the event back: the number of its reservation. Any other has no line
abbrev pub holder_line : Processor → Event → Refusal → Pending → List ℕ
holder_line w event refusal m =
    if holds_event w event refusal m then concat (decimal m.number ∷ codes "\n" ∷ []) else []

-- the lines of the pending instructions that hold the event back, in issue order
abbrev pub holders_text : Processor → Event → Refusal → List ℕ
holders_text w event refusal = flat_map (holder_line w event refusal) w.pending

-- the same for an event with this answer; there are none if the event isn't refused
abbrev pub holders_of : Processor → Event → Result Done Refusal → List ℕ
holders_of w event (Ok done) = []
holders_of w event (Err refusal) = holders_text w event refusal

-- the judgement of an event: the line of the answer that it would get, and the numbers of the instructions that hold it
-- back
abbrev pub judgement_text : Processor → Event → List ℕ
judgement_text w event = answer_line (answer_of w event) ++ holders_of w event (answer_of w event)
