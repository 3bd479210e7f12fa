-- The refusals of events that depend on the instructions in flight: the first that applies. Source: Thornton,
-- scoreboard and stunt box; 60100000, unit and register conflicts and central memory. The order of the tests and the
-- turn of references are ours.
use Rattle.std.specs.Prelude.{ℕ, Bool, true, false, not, ◌&&◌, if◌then◌else◌, List, [], ◌∷◌, Option, Some, None}
use Rattle.std.specs.Prelude.{is_none, Result, Ok, Err, slice_index_or}
use Rattle.std.specs.List.{list_any}
use Rattle.instructions.specs.declared.instr.Instr.{Instr}
use Rattle.instructions.specs.declared.instr.Reg.TheVariants.{X}
use Rattle.instructions.specs.declared.instr.Unit.{Unit as FunctionalUnit}
use Rattle.instructions.specs.declared.instr.UnitKind.{UnitKind}
use Rattle.instructions.specs.declared.refusal.Refusal.{Refusal}
use Rattle.instructions.specs.declared.refusal.Refusal.TheVariants.{UnitBusy, ResultReserved, OperandAwaited}
use Rattle.instructions.specs.declared.refusal.Refusal.TheVariants.{ResultHeld, HopperFull, OutOfTurn, BankBusy}
use Rattle.instructions.specs.declared.refusal.Refusal.TheVariants.{OlderAtAddress, Nothing}
use Rattle.instructions.specs.Finding.{Found}
use Rattle.instructions.specs.Shape.{shape_of, sets_of, results, has_reference}
use Rattle.instructions.specs.Operands.{uses, sources_of}
use Rattle.hopper.specs.Hopper.{bank_of}
use Rattle.scoreboard.specs.Conflicts as conflict
use Rattle.scoreboard.specs.Conflicts.{first_such, result_reserved, operand_awaited, result_held, out_of_turn}
use Rattle.scoreboard.specs.Units.{first_unit}
use Rattle.sequential.specs.declared.fetching.Fetched.{Fetched}
use Rattle.sequential.specs.declared.fetching.Fetched.TheVariants.{Halting, Passing, Taking}
use Rattle.in_flight.specs.declared.pending.Arrival.{Arrival}
use Rattle.hopper.specs.declared.reference.Reference.{Reference}
use Rattle.in_flight.specs.declared.pending.Pending.{Pending}
use Rattle.in_flight.specs.declared.pending.Stage.{Stage}
use Rattle.in_flight.specs.declared.pending.Stage.TheVariants.{Unread, Read as HasRead, Finished}
use Rattle.in_flight.specs.Lookup.{place_for}
use Rattle.in_flight.specs.Pending.{reservation_of, awaited, to_be_read, holds_back}

-- a refusal, and whether it applies
pub record Test : Type 0 where
  pub fails : Bool
  pub refusal : Refusal

-- the first refusal that applies
unfoldable pub refusal_of : List Test → Option Refusal
refusal_of [] = None
refusal_of (t ∷ ts) = if t.fails then Some t.refusal else refusal_of ts

-- E15, nothing: there is nothing that the event could act on
unfoldable pub nothing : List Test
nothing = record { fails = true; refusal = Nothing } ∷ []

-- the tests of the instruction that was found; E15, nothing, if none was found
unfoldable pub tests_found : {K : Type 0} → Option (Found Pending K) → (Found Pending K → List Test) → List Test
tests_found None f = nothing
tests_found (Some x) f = f x

-- the refusal, if there is one
abbrev pub refusal_in : {K : Type 0} → Result K Refusal → Option Refusal
refusal_in (Ok x) = None
refusal_in (Err k) = Some k

-- ---- issue ----

-- the unit that an instruction takes: the lower-numbered free one of its kind, if there is one
abbrev pub unit_for : List Pending → Option UnitKind → Option FunctionalUnit
unit_for ms kind = conflict.unit_for reservation_of ms kind

-- first order: E7, unit busy, if no unit of the kind is free; E8, result reserved, if a result register is a result
-- still to come (a pass and a halt take no unit)
unfoldable pub reservation_tests : List Pending → Fetched → List Test
reservation_tests ms (Halting h place) = []
reservation_tests ms (Passing place) = []
reservation_tests ms (Taking i place) =
    record { fails = is_none (unit_for ms (uses i).unit); refusal = UnitBusy (first_unit (uses i).unit) }
    ∷ record {
      fails = result_reserved reservation_of ms (results (shape_of i));
      refusal = ResultReserved (first_such (awaited ms) (results (shape_of i)));
    }
    ∷ []

-- ---- the events of a unit ----

-- E9, operand awaited (second order): an operand is a result still to come of an earlier instruction; E15, nothing, if
-- the operands were read before
unfoldable pub read_tests : Stage → List Pending → Instr → List Test
read_tests Unread earlier i =
    record {
      fails = operand_awaited reservation_of earlier (sources_of i);
      refusal = OperandAwaited (first_such (awaited earlier) (sources_of i));
    } ∷ []
read_tests (HasRead os) earlier i = nothing
read_tests (Finished v) earlier i = nothing

-- E10, result held (third order); E11, hopper full: a reference would enter and no place is free; E12, out of turn: an
-- earlier reference has not reached its store event
abbrev pub store_conflicts : List Pending → List Pending → Instr → Bool → List Test
store_conflicts ms earlier i entering =
    record {
      fails = result_held reservation_of earlier (sets_of (shape_of i));
      refusal = ResultHeld (first_such (to_be_read earlier) (sets_of (shape_of i)));
    }
    ∷ record { fails = entering && is_none (place_for ms); refusal = HopperFull }
    ∷ record { fails = has_reference (shape_of i) && out_of_turn reservation_of earlier; refusal = OutOfTurn }
    ∷ []

-- ---- the events of memory ----

-- E13, bank busy; E14, older at address: an older reference to the same address waits, and at least one of the two is
-- a store
unfoldable pub accept_tests : List Bool → List Pending → Reference → List Test
accept_tests busy earlier entry =
    record { fails = slice_index_or busy (bank_of entry.address) false; refusal = BankBusy (bank_of entry.address) }
    ∷ record { fails = list_any (holds_back entry.address entry.access) earlier; refusal = OlderAtAddress }
    ∷ []

-- E10, result held (third order): an earlier instruction still has to read the X register of the load
unfoldable pub return_tests : List Pending → Arrival → List Test
return_tests earlier arrival =
    record { fails = to_be_read earlier (X arrival.channel); refusal = ResultHeld (X arrival.channel) } ∷ []

-- E15, nothing: the bank is not busy
unfoldable pub free_tests : List Bool → ℕ → List Test
free_tests busy bank = record { fails = not (slice_index_or busy bank false); refusal = Nothing } ∷ []
