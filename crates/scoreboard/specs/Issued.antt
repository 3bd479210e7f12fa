-- An issued instruction with its number, and the writer of a register among issued instructions.
-- Source: Thornton, scoreboard (result designators). The numbers, and that a load channel is a writer, are ours.
use Rattle.std.specs.Prelude.{ℕ, nat_lt, if◌then◌else◌, List, [], ◌∷◌, Option, Some, None}
use Rattle.instructions.specs.declared.instr.Reg.{Reg}
use Rattle.instructions.specs.declared.instr.Reg.TheVariants.{X}
use Rattle.instructions.specs.declared.instr.Unit.{Unit as FunctionalUnit}
use Rattle.instructions.specs.RegisterLists.{is_in}
use Rattle.instructions.specs.Shape.{Shape, Sets, Loads, Stores, Jumps, Links, shape_of, sets_of}
use Rattle.instructions.specs.Operands.{reg_eq}
use Rattle.scoreboard.specs.declared.reservation.Occupancy.{Occupancy}
use Rattle.scoreboard.specs.declared.reservation.Occupancy.TheVariants.{Reserved, Left}
use Rattle.scoreboard.specs.declared.reservation.Reservation.{Reservation}
use Rattle.scoreboard.specs.declared.writer.Writer.{Writer}
use Rattle.scoreboard.specs.declared.writer.Writer.TheVariants.{OfUnit, OfChannel}
use Rattle.scoreboard.specs.declared.issued.Issued.{Issued}

-- the instruction, its unit and its progress
unfoldable pub reservation_of : Issued → Reservation
reservation_of x = x.reservation

-- the number of its reservation
unfoldable pub number_of : Issued → ℕ
number_of x = x.number

-- the channel of a load: the number of its X register
unfoldable pub channel_of : Shape → Option ℕ
channel_of (Sets rs) = None
channel_of (Loads n) = Some n
channel_of (Stores n) = None
channel_of Jumps = None
channel_of Links = None

-- the channel of this number, if the register is its own X register
unfoldable pub written_by_channel : Reg → Option ℕ → Option Writer
written_by_channel r None = None
written_by_channel r (Some n) = if reg_eq r (X n) then Some (OfChannel n) else None

-- the writer of a register for an instruction: before the store event, the unit for a register that the event writes,
-- and the channel for a load's X register; after it, only the channel
unfoldable pub written_in : Reg → FunctionalUnit → Shape → Occupancy → Option Writer
written_in r unit shape (Reserved has_read) =
    if is_in (sets_of shape) r then Some (OfUnit unit) else written_by_channel r (channel_of shape)
written_in r unit shape (Left returning) = written_by_channel r returning

-- the writer of the register for this instruction: its unit at the store event, or the channel of its load
unfoldable pub written_by : Reg → Issued → Option Writer
written_by r x = written_in r x.reservation.unit (shape_of x.reservation.instr) x.reservation.occupancy

-- the first option if it has a value, otherwise the second
unfoldable pub or_else : {W : Type 0} → Option W → Option W → Option W
or_else None o = o
or_else (Some w) o = Some w

-- the first value that f has for an item of the list
unfoldable pub first_some : {M W : Type 0} → (M → Option W) → List M → Option W
first_some f [] = None
first_some f (x ∷ xs) = or_else (f x) (first_some f xs)

-- the writer of the register among these instructions
unfoldable pub writer_of : List Issued → Reg → Option Writer
writer_of xs r = first_some (written_by r) xs

-- the value of f for an instruction with a lower number; None for any other
unfoldable pub if_earlier : {W : Type 0} → ℕ → (Issued → Option W) → Issued → Option W
if_earlier n f x = if nat_lt x.number n then f x else None

-- the writer of the register among the instructions with a lower number
unfoldable pub writer_before : ℕ → List Issued → Reg → Option Writer
writer_before n xs r = first_some (if_earlier n (written_by r)) xs
