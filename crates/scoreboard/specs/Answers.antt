-- The results of a board's calls and the board after each change, in terms of the list of the issued instructions in
-- the order of their numbers.
-- Source: Thornton, scoreboard; 60100000, unit and register conflicts.
use Rattle.std.specs.Prelude.{ℕ, suc, Bool, true, false, ◌&&◌, ◌==◌, if◌then◌else◌, List, [], ◌∷◌, ◌++◌, Option, Some}
use Rattle.std.specs.Prelude.{None, Result, Ok, Err}
use Rattle.instructions.specs.declared.instr.Instr.{Instr}
use Rattle.instructions.specs.declared.instr.Reg.TheVariants.{X}
use Rattle.instructions.specs.declared.instr.Unit.{Unit as FunctionalUnit}
use Rattle.instructions.specs.declared.refusal.Refusal.{Refusal}
use Rattle.instructions.specs.declared.refusal.Refusal.TheVariants.{UnitBusy, ResultReserved, OperandAwaited}
use Rattle.instructions.specs.declared.refusal.Refusal.TheVariants.{ResultHeld, OutOfTurn}
use Rattle.instructions.specs.Finding.{Found}
use Rattle.instructions.specs.Shape.{shape_of, sets_of, results, has_reference}
use Rattle.instructions.specs.Operands.{uses, sources_of}
use Rattle.scoreboard.specs.declared.reservation.Occupancy.{Occupancy}
use Rattle.scoreboard.specs.declared.reservation.Occupancy.TheVariants.{Reserved, Left}
use Rattle.scoreboard.specs.Reservations.{holds}
use Rattle.scoreboard.specs.Units.{first_unit}
use Rattle.scoreboard.specs.Conflicts.{awaited, to_be_read, first_such, result_reserved, operand_awaited, result_held}
use Rattle.scoreboard.specs.Conflicts.{out_of_turn}
use Rattle.scoreboard.specs.declared.issued.Issued.{Issued}
use Rattle.scoreboard.specs.Issued.{reservation_of, channel_of}

-- a board, as contracts see it
pub record Standing : Type 0 where
  -- the instructions that hold a unit, and the loads still to return, in issue order
  pub issued : List Issued
  -- the number of the last reservation
  pub last : ℕ

-- ---- the instruction that a call is about ----

-- the instruction, if it holds the unit
unfoldable pub held_in : FunctionalUnit → Issued → Option Instr
held_in unit x = if holds unit x.reservation then Some x.reservation.instr else None

-- an instruction in this occupancy is a load still to return through the channel
unfoldable pub returns_in : ℕ → Occupancy → Bool
returns_in n (Reserved has_read) = false
returns_in n (Left None) = false
returns_in n (Left (Some m)) = m == n

-- the instruction, if it is a load still to return through the channel
unfoldable pub returning_by : ℕ → Issued → Option Instr
returning_by n x = if returns_in n x.reservation.occupancy then Some x.reservation.instr else None

-- ---- the conflicts ----

-- the refusal if it applies; otherwise the event may be made
abbrev pub unless : Bool → Refusal → Result (Unit {0}) Refusal
unless refused refusal = if refused then Err refusal else Ok tt

-- E9, operand awaited (second order): an operand is a result still to come of an earlier instruction
unfoldable pub read_answer : Option (Found Issued Instr) → Result (Unit {0}) Refusal
read_answer None = Ok tt
read_answer (Some f) =
    unless (operand_awaited reservation_of f.earlier (sources_of f.answer))
    (OperandAwaited (first_such (awaited reservation_of f.earlier) (sources_of f.answer)))

-- E10, result held (third order): an earlier instruction has yet to read a register that the store event writes
unfoldable pub store_answer : Option (Found Issued Instr) → Result (Unit {0}) Refusal
store_answer None = Ok tt
store_answer (Some f) =
    unless (result_held reservation_of f.earlier (sets_of (shape_of f.answer)))
    (ResultHeld (first_such (to_be_read reservation_of f.earlier) (sets_of (shape_of f.answer))))

-- E10, result held (third order): an earlier instruction has yet to read the X register that the load's return writes
unfoldable pub return_answer : ℕ → Option (Found Issued Instr) → Result (Unit {0}) Refusal
return_answer n None = Ok tt
return_answer n (Some f) = unless (to_be_read reservation_of f.earlier (X n)) (ResultHeld (X n))

-- E12, out of turn: the instruction makes a reference, and an earlier reference has not yet had its store event
unfoldable pub turn_answer : Option (Found Issued Instr) → Result (Unit {0}) Refusal
turn_answer None = Ok tt
turn_answer (Some f) = unless (has_reference (shape_of f.answer) && out_of_turn reservation_of f.earlier) OutOfTurn

-- first order: E7, unit busy, if no unit of the kind is free; E8, result reserved, if a result register is a result
-- still to come; otherwise the unit and the next number
unfoldable pub reserve_answer : Standing → Instr → Option FunctionalUnit → Result (FunctionalUnit × ℕ) Refusal
reserve_answer s i None = Err (UnitBusy (first_unit (uses i).unit))
reserve_answer s i (Some unit) =
    if result_reserved reservation_of s.issued (results (shape_of i))
    then Err (ResultReserved (first_such (awaited reservation_of s.issued) (results (shape_of i))))
    else Ok (unit, suc s.last)

-- ---- the changes ----

-- a new reservation: it holds its unit and has yet to read its operands
unfoldable pub new_issued : Instr → FunctionalUnit → ℕ → Issued
new_issued i unit number =
    record { number = number; reservation = record { instr = i; unit = unit; occupancy = Reserved false } }

-- the board after an issue: it has one more reservation, or is unchanged if the issue was refused
unfoldable pub reserved : Standing → Instr → Result (FunctionalUnit × ℕ) Refusal → Standing
reserved s i (Err refusal) = s
reserved s i (Ok (unit, number)) = record { issued = s.issued ++ new_issued i unit number ∷ []; last = number }

-- the same instruction in another occupancy
unfoldable pub in_occupancy : Issued → Occupancy → Issued
in_occupancy x occupancy = record x { reservation = record x.reservation { occupancy = occupancy } }

-- the instruction after it has read its operands
unfoldable pub read : Issued → List Issued
read x = in_occupancy x (Reserved true) ∷ []

-- the board's entry for an instruction after its store event: a load with its channel, or nothing
unfoldable pub left_with : Issued → Option ℕ → List Issued
left_with x None = []
left_with x (Some n) = in_occupancy x (Left (Some n)) ∷ []

-- the instruction after it has left its unit; a load has yet to return
unfoldable pub left : Issued → List Issued
left x = left_with x (channel_of (shape_of x.reservation.instr))

-- the instruction after its load has returned: the board has no entry for it
unfoldable pub gone : Issued → List Issued
gone x = []

-- the board with other issued instructions and the same last number
unfoldable pub with_issued : Standing → List Issued → Standing
with_issued s xs = record s { issued = xs }
