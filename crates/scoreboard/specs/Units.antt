-- The functional units, by number, and the kinds of unit that instructions take.
-- Source: Thornton, scoreboard; 60100000, functional units. The numbers and their order are ours.
use Rattle.std.specs.Prelude.{ℕ, Bool, false, ◌==◌, List, [], ◌∷◌, Option, Some, None}
use Rattle.std.specs.List.{list_any}
use Rattle.instructions.specs.declared.instr.Unit.{Unit}
use Rattle.instructions.specs.declared.instr.Unit.TheVariants.{Branch, Boolean, Shift, Add, LongAdd, Multiply1}
use Rattle.instructions.specs.declared.instr.Unit.TheVariants.{Multiply2, Divide, Increment1, Increment2}
use Rattle.instructions.specs.declared.instr.UnitKind.{UnitKind}
use Rattle.instructions.specs.declared.instr.UnitKind.TheVariants.{Branch as BranchKind, Boolean as BooleanKind}
use Rattle.instructions.specs.declared.instr.UnitKind.TheVariants.{Shift as ShiftKind, LongAdd as LongAddKind}
use Rattle.instructions.specs.declared.instr.UnitKind.TheVariants.{Divide as DivideKind, Increment as IncrementKind}

-- the number of a unit, 0 for Branch to 9 for Increment 2
abbrev pub unit_number : Unit → ℕ
unit_number Branch = 0
unit_number Boolean = 1
unit_number Shift = 2
unit_number Add = 3
unit_number LongAdd = 4
unit_number Multiply1 = 5
unit_number Multiply2 = 6
unit_number Divide = 7
unit_number Increment1 = 8
unit_number Increment2 = 9

-- the two are the same unit: they have the same number
unfoldable pub same_unit : Unit → Unit → Bool
same_unit unit other = unit_number unit == unit_number other

-- the units of a kind, in the order of their numbers
unfoldable pub units_of : UnitKind → List Unit
units_of BranchKind = Branch ∷ []
units_of BooleanKind = Boolean ∷ []
units_of ShiftKind = Shift ∷ []
units_of LongAddKind = LongAdd ∷ []
units_of DivideKind = Divide ∷ []
units_of IncrementKind = Increment1 ∷ Increment2 ∷ []

-- an instruction of the kind may be issued to the unit
unfoldable pub may_take : Option UnitKind → Unit → Bool
may_take None unit = false
may_take (Some kind) unit = list_any (same_unit unit) (units_of kind)

-- the first of the units, or Branch if there is none
unfoldable pub head_unit : List Unit → Unit
head_unit [] = Branch
head_unit (u ∷ us) = u

-- the unit that E7, unit busy, names: the lower-numbered unit of the kind (Branch for an instruction that takes no
-- unit)
unfoldable pub first_unit : Option UnitKind → Unit
first_unit None = Branch
first_unit (Some kind) = head_unit (units_of kind)
