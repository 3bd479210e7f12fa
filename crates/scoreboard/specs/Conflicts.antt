-- The three orders of conflict, and the turn of references, over a list of issued instructions in issue order. An item
-- of the list may be more than a reservation: `reservation_of` is its reservation.
-- Source: Thornton, scoreboard; 60100000, unit and register conflicts. The turn of references, and that the
-- lower-numbered free unit is taken, are ours.
use Rattle.std.specs.Prelude.{Bool, if◌then◌else◌, List, [], ◌∷◌, Option, Some, None, find, unwrap_or}
use Rattle.std.specs.List.{list_any}
use Rattle.instructions.specs.declared.instr.Reg.{Reg}
use Rattle.instructions.specs.declared.instr.Reg.TheVariants.{B}
use Rattle.instructions.specs.declared.instr.Unit.{Unit}
use Rattle.instructions.specs.declared.instr.UnitKind.{UnitKind}
use Rattle.scoreboard.specs.declared.reservation.Reservation.{Reservation}
use Rattle.scoreboard.specs.Reservations.{comes, reads_it, holds, has_turn}
use Rattle.scoreboard.specs.Units.{units_of}

-- the register is a result still to come of one of these instructions
unfoldable pub awaited : {M : Type 0} → (M → Reservation) → List M → Reg → Bool
awaited reservation_of issued register = list_any (λ m. comes register (reservation_of m)) issued

-- one of these instructions has yet to read the register
unfoldable pub to_be_read : {M : Type 0} → (M → Reservation) → List M → Reg → Bool
to_be_read reservation_of issued register = list_any (λ m. reads_it register (reservation_of m)) issued

-- one of these instructions holds the unit
unfoldable pub is_held : {M : Type 0} → (M → Reservation) → List M → Unit → Bool
is_held reservation_of issued unit = list_any (λ m. holds unit (reservation_of m)) issued

-- the first of the units that isn't held
unfoldable pub first_free : (Unit → Bool) → List Unit → Option Unit
first_free held [] = None
first_free held (u ∷ us) = if held u then first_free held us else Some u

-- the unit for an instruction of this kind: the lower-numbered free unit of the kind
unfoldable pub free_unit : {M : Type 0} → (M → Reservation) → List M → UnitKind → Option Unit
free_unit reservation_of issued kind = first_free (is_held reservation_of issued) (units_of kind)

-- the unit that an issue reserves; None if the instruction takes no unit or every unit of its kind is held
unfoldable pub unit_for : {M : Type 0} → (M → Reservation) → List M → Option UnitKind → Option Unit
unit_for reservation_of issued None = None
unit_for reservation_of issued (Some kind) = free_unit reservation_of issued kind

-- the register that a refusal names: the first that meets the test, or B0 if none does
abbrev pub first_such : (Reg → Bool) → List Reg → Reg
first_such test registers = unwrap_or (find test registers) (B 0)

-- E8, result reserved (first order, if a unit of the kind is free): a result register is a result still to come of some
-- instruction
abbrev pub result_reserved : {M : Type 0} → (M → Reservation) → List M → List Reg → Bool
result_reserved reservation_of issued results = list_any (awaited reservation_of issued) results

-- E9, operand awaited (second order): an operand is a result still to come of an earlier instruction
abbrev pub operand_awaited : {M : Type 0} → (M → Reservation) → List M → List Reg → Bool
operand_awaited reservation_of earlier sources = list_any (awaited reservation_of earlier) sources

-- E10, result held (third order): an earlier instruction has yet to read a register that is about to be written
abbrev pub result_held : {M : Type 0} → (M → Reservation) → List M → List Reg → Bool
result_held reservation_of earlier written = list_any (to_be_read reservation_of earlier) written

-- E12, out of turn: an earlier reference has not yet had its store event
abbrev pub out_of_turn : {M : Type 0} → (M → Reservation) → List M → Bool
out_of_turn reservation_of earlier = list_any (λ m. has_turn (reservation_of m)) earlier
