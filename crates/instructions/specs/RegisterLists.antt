-- Membership in lists of registers.
-- Source: ours.
use Rattle.std.specs.Prelude.{Bool, List}
use Rattle.std.specs.List.{list_any}
use Rattle.instructions.specs.declared.instr.Reg.{Reg}
use Rattle.instructions.specs.Operands.{reg_eq}

-- the register is in the list
unfoldable pub is_in : List Reg → Reg → Bool
is_in registers register = list_any (reg_eq register) registers

-- some register of the first list is in the second
unfoldable pub overlap : List Reg → List Reg → Bool
overlap registers others = list_any (is_in others) registers
