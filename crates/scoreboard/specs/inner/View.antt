-- The fields of a board, the list of instructions that they represent, and the invariant.
-- Source: Thornton, scoreboard, for the fields; the list that they represent is ours.
use Rattle.std.specs.Prelude.{◌≡◌, ◌≢◌, ◌≤◌, ◌+◌, ℕ, true, false, ◌&&◌, List, [], ◌∷◌, ◌++◌, Option, Some, None, length}
use Rattle.std.specs.Prelude.{slice_index_or}
use Rattle.instructions.specs.declared.instr.Reg.{Reg}
use Rattle.instructions.specs.declared.instr.Unit.{Unit as FunctionalUnit}
use Rattle.instructions.specs.Operands.{uses, sources_of}
use Rattle.scoreboard.specs.declared.reservation.Occupancy.{Occupancy}
use Rattle.scoreboard.specs.declared.reservation.Occupancy.TheVariants.{Reserved, Left}
use Rattle.scoreboard.specs.Reservations.{comes}
use Rattle.scoreboard.specs.Units.{unit_number, may_take}
use Rattle.scoreboard.specs.declared.issued.Issued.{Issued}
use Rattle.scoreboard.specs.declared.writer.Writer.{Writer}
use Rattle.scoreboard.specs.declared.writers.Writers.{Writers}
use Rattle.scoreboard.specs.Answers.{Standing}
use Rattle.instructions.specs.Each.{Each, Pairs}
use Rattle.scoreboard.specs.Issued.{number_of, writer_of, writer_before}
use Rattle.instructions.specs.Order.{sort_by, somes, IsInSlots}
use Rattle.scoreboard.specs.Writers.{IsRegister, writer_at}

-- the instructions in the slots, units first
unfoldable pub in_slots : List (Option Issued) → List (Option Issued) → List Issued
in_slots units channels = somes (units ++ channels)

-- the board that the fields represent: the instructions in the slots in the order of their numbers, and the last number
abbrev pub standing_of : List (Option Issued) → List (Option Issued) → ℕ → Standing
standing_of units channels last = record { issued = sort_by number_of (in_slots units channels); last = last }

-- the slot of an occupancy: units have the slots 0 to 9 by their numbers, and channels 10 to 17; there is no slot 18
unfoldable pub slot_in : FunctionalUnit → Occupancy → ℕ
slot_in unit (Reserved has_read) = unit_number unit
slot_in unit (Left (Some n)) = 10 + n
slot_in unit (Left None) = 18

-- the slot of an issued instruction
unfoldable pub slot_of : Issued → ℕ
slot_of x = slot_in x.reservation.unit x.reservation.occupancy

-- the two have different numbers, and no result still to come in common
pub record IsOther (x y : Issued) : Type 0 where
  pub number : number_of x ≢ number_of y
  pub results : (r : Reg) → (comes r x.reservation && comes r y.reservation) ≡ false

-- the instruction was issued to a unit of its kind
abbrev pub IsOfKind : Issued → Type 0
IsOfKind x = may_take (uses x.reservation.instr).unit x.reservation.unit ≡ true

-- each operand has its producer: the writer of the operand's register, if it has one
abbrev pub AreProducers : (Reg → Option Writer) → List Reg → List (Option Writer) → Type 0
AreProducers f [] ps = Unit {0}
AreProducers f (r ∷ rs) [] = ⊥
AreProducers f (r ∷ rs) (p ∷ ps) = (p ≡ f r) × AreProducers f rs ps

-- the invariant of the fields of a board
pub record IsRight (units channels : List (Option Issued)) (producers : List (List (Option Writer)))
    (writers : Writers) (last : ℕ) : Type 0 where
  -- there are ten units, eight channels, and producers for each of the ten units
  pub all_units : length units ≡ 10
  pub all_channels : length channels ≡ 8
  pub all_producers : length producers ≡ 10
  -- each register has a writer or none
  pub all_writers : (length writers.x ≡ 8) × (length writers.a ≡ 8) × (length writers.b ≡ 8)
  -- each instruction is in its own slot
  pub stands : IsInSlots slot_of 0 (units ++ channels)
  -- no two instructions have a number or a result still to come in common, and no number is above the last
  pub apart : Pairs IsOther (in_slots units channels)
  pub counted : Each (λ x. x.number ≤ last) (in_slots units channels)
  -- each instruction was issued to a unit of its kind
  pub kinds : Each IsOfKind (in_slots units channels)
  -- the writer of each register is its writer among all these instructions
  pub written : (r : Reg) → IsRegister r → writer_at writers r ≡ writer_of (in_slots units channels) r
  -- the producer of each operand is the writer of its register among the instructions with a lower number
  pub produced : (i : ℕ) (x : Issued) → slice_index_or units i None ≡ Some x
      → AreProducers (writer_before x.number (in_slots units channels)) (sources_of x.reservation.instr)
      (slice_index_or producers i [])
