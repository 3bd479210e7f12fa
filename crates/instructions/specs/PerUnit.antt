-- One value for each of the seven units in use. Source: ours.
use Rattle.std.specs.Prelude.{List, [], ◌∷◌, Option, Some, None, Bool, ◌&&◌, is_some}
use Rattle.instructions.specs.declared.instr.Unit.{Unit}
use Rattle.instructions.specs.declared.instr.Unit.TheVariants.{Branch, Boolean, Shift, LongAdd, Divide, Increment1}
use Rattle.instructions.specs.declared.instr.Unit.TheVariants.{Increment2}
use Rattle.instructions.specs.declared.per_unit.PerUnit.{PerUnit}

-- the values, in the order of the units' numbers
abbrev pub in_order : {T : Type 0} → PerUnit T → List T
in_order all =
    all.branch ∷ all.boolean ∷ all.shift ∷ all.long_add ∷ all.divide ∷ all.increment1 ∷ all.increment2 ∷ []

-- the value of a unit, if the unit is in use
abbrev pub of_unit : {T : Type 0} → Unit → PerUnit T → Option T
of_unit Branch all = Some all.branch
of_unit Boolean all = Some all.boolean
of_unit Shift all = Some all.shift
of_unit LongAdd all = Some all.long_add
of_unit Divide all = Some all.divide
of_unit Increment1 all = Some all.increment1
of_unit Increment2 all = Some all.increment2
of_unit _ all = None

-- no value is missing
abbrev pub is_complete : {T : Type 0} → PerUnit (Option T) → Bool
is_complete all =
    is_some all.branch && is_some all.boolean && is_some all.shift && is_some all.long_add && is_some all.divide
    && is_some all.increment1 && is_some all.increment2

-- the two values of each unit, paired
abbrev pub paired : {T U : Type 0} → PerUnit T → PerUnit U → PerUnit (T × U)
paired one other = record {
  branch = (one.branch, other.branch);
  boolean = (one.boolean, other.boolean);
  shift = (one.shift, other.shift);
  long_add = (one.long_add, other.long_add);
  divide = (one.divide, other.divide);
  increment1 = (one.increment1, other.increment1);
  increment2 = (one.increment2, other.increment2);
}

-- the relation holds between the two values of each unit
pub record Each {T U : Type 0} (R : T → U → Type 0) (one : PerUnit T) (other : PerUnit U) : Type 0 where
  pub branch : R one.branch other.branch
  pub boolean : R one.boolean other.boolean
  pub shift : R one.shift other.shift
  pub long_add : R one.long_add other.long_add
  pub divide : R one.divide other.divide
  pub increment1 : R one.increment1 other.increment1
  pub increment2 : R one.increment2 other.increment2
