-- The names of units and registers.
-- Source: ours; the names of the registers are the manual's.
use Rattle.std.specs.Prelude.{ℕ, ◌+◌, List, [], ◌∷◌, Option, Some, None, codes, if◌then◌else◌}
use Rattle.std.specs.Str.{bytes_eq}
use Rattle.instructions.specs.declared.instr.Reg.{Reg}
use Rattle.instructions.specs.declared.instr.Reg.TheVariants.{X, A, B}
use Rattle.instructions.specs.declared.instr.Unit.{Unit as FunctionalUnit}
use Rattle.instructions.specs.declared.instr.Unit.TheVariants.{Branch, Boolean, Shift, Add, LongAdd, Multiply1}
use Rattle.instructions.specs.declared.instr.Unit.TheVariants.{Multiply2, Divide, Increment1, Increment2}

-- the name of a unit in a schedule and in an answer
abbrev pub unit_text : FunctionalUnit → List ℕ
unit_text Branch = codes "branch"
unit_text Boolean = codes "boolean"
unit_text Shift = codes "shift"
unit_text Add = codes "add"
unit_text LongAdd = codes "longadd"
unit_text Multiply1 = codes "multiply1"
unit_text Multiply2 = codes "multiply2"
unit_text Divide = codes "divide"
unit_text Increment1 = codes "increment1"
unit_text Increment2 = codes "increment2"

-- the unit with this name, if there is one
abbrev pub unit_named : List ℕ → Option FunctionalUnit
unit_named name =
    if bytes_eq name (unit_text Branch) then Some Branch
    else if bytes_eq name (unit_text Boolean) then Some Boolean
    else if bytes_eq name (unit_text Shift) then Some Shift
    else if bytes_eq name (unit_text Add) then Some Add
    else if bytes_eq name (unit_text LongAdd) then Some LongAdd
    else if bytes_eq name (unit_text Multiply1) then Some Multiply1
    else if bytes_eq name (unit_text Multiply2) then Some Multiply2
    else if bytes_eq name (unit_text Divide) then Some Divide
    else if bytes_eq name (unit_text Increment1) then Some Increment1
    else if bytes_eq name (unit_text Increment2) then Some Increment2
    else None

-- the name of a register: a letter and a digit, as in `X1`
abbrev pub register_text : Reg → List ℕ
register_text (X n) = 88 ∷ (48 + n) ∷ []
register_text (A n) = 65 ∷ (48 + n) ∷ []
register_text (B n) = 66 ∷ (48 + n) ∷ []
