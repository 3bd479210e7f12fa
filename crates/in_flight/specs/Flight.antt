-- The instructions in flight: the pending instructions, with the board and the hopper that judge them. Source: ours.
use Rattle.std.specs.Prelude.{◌≡◌, ℕ, suc, Bool, true, List, [], ◌∷◌, ◌++◌, Option, Some, None, unwrap_or}
use Rattle.std.specs.Prelude.{slice_index_or}
use Rattle.instructions.specs.declared.instr.Instr.{Instr}
use Rattle.instructions.specs.declared.instr.Unit.{Unit as FunctionalUnit}
use Rattle.instructions.specs.declared.instr.Unit.TheVariants.{Branch}
use Rattle.instructions.specs.Shape.{Shape, has_reference}
use Rattle.instructions.specs.Operands.{uses}
use Rattle.relocation.specs.declared.area.Access.{Access}
use Rattle.relocation.specs.declared.area.Access.TheVariants.{Load, Store}
use Rattle.scoreboard.specs.Answers.{Standing}
use Rattle.scoreboard.specs.Issued.{channel_of}
use Rattle.hopper.specs.Queue.{Queue}
use Rattle.sequential.specs.declared.work.ProgramReference.{ProgramReference}
use Rattle.sequential.specs.State.{Bounds, absolute}
use Rattle.in_flight.specs.declared.referring.Relocated.{Relocated}
use Rattle.in_flight.specs.declared.pending.Outstanding.{Outstanding}
use Rattle.in_flight.specs.declared.pending.Outstanding.TheVariants.{Entered, Accepted}
use Rattle.in_flight.specs.declared.pending.Pending.{Pending}
use Rattle.in_flight.specs.declared.pending.Phase.TheVariants.{Before}
use Rattle.in_flight.specs.declared.pending.Stage.TheVariants.{Unread}
use Rattle.in_flight.specs.Pending.{left_to_return}
use Rattle.in_flight.specs.Tests.{unit_for}
use Rattle.in_flight.specs.Lookup.{enters}

-- the instructions in flight that the pending instructions, the board and the hopper represent
pub record Flight : Type 0 where
  -- the instructions with an effect still to come, in issue order
  pub pending : List Pending
  -- whether each bank is busy, by its number
  pub busy : List Bool
  -- the number of the last reservation
  pub last : ℕ

-- these pending instructions, with the hopper's busy banks and the board's last number
abbrev pub flight_of : List Pending → Queue → Standing → Flight
flight_of ms queue standing = record { pending = ms; busy = queue.busy; last = standing.last }

-- ---- the rest of a unit's instruction after its store event ----

-- a reference in range enters a place; a load out of range has +0 in its channel; of a store out of range nothing is
-- left
unfoldable pub entering : ℕ → Option ℕ → Access → Option Outstanding
entering place (Some a) access = Some (Entered place a access)
entering place None (Load n) = Some (Accepted n 0)
entering place None (Store word) = None

-- a reference by its absolute address, if there is one
unfoldable pub relocated : Bounds → Option ProgramReference → Option Relocated
relocated b None = None
relocated b (Some r) = Some (record { address = absolute b r.address; access = r.access })

-- the rest of an instruction with this reference, if it makes one
unfoldable pub outstanding_of : ℕ → Option Relocated → Option Outstanding
outstanding_of place None = None
outstanding_of place (Some r) = entering place r.address r.access

-- the reference fits an instruction of this shape
pub record IsRestOf (shape : Shape) (rest : Option Relocated) : Type 0 where
  -- the load that is still to return, if any, is this shape's, in the channel of its X register
  pub returns : left_to_return (outstanding_of 0 rest) ≡ channel_of shape
  -- only an instruction with a reference leaves one that enters the hopper
  pub refers : enters (outstanding_of 0 rest) ≡ true → has_reference shape ≡ true

-- the rest of an instruction after its reference was accepted: a load has its word from memory in its channel
abbrev pub left_by : List ℕ → ℕ → Access → Option Outstanding
left_by memory a (Load n) = Some (Accepted n (slice_index_or memory a 0))
left_by memory a (Store w) = None

-- ---- a reservation ----

-- the unit that an instruction takes
abbrev pub unit_taken : Flight → Instr → FunctionalUnit
unit_taken f i = unwrap_or (unit_for f.pending (uses i).unit) Branch

-- the instructions in flight after one more was issued, which waits in its unit
abbrev pub reserved_in : Flight → Instr → ℕ → Flight
reserved_in f i at = record f {
  pending = f.pending ++ record {
    instr = i;
    at = at;
    number = suc f.last;
    unit = unit_taken f i;
    phase = Before Unread;
  } ∷ [];
  last = suc f.last;
}

-- other pending instructions, with the same busy banks and the same last number
abbrev pub with_pending : Flight → List Pending → Flight
with_pending f ms = record f { pending = ms }
