-- Sixteen slots: seven units, four places of the hopper and five channels. Each pending instruction has a slot of its
-- own. That no two are in one channel follows from Apart.antt: they would have a result still to come in common.
-- Source: ours.
use Rattle.std.specs.Prelude.{◌≡◌, ◌<◌, ◌==◌, ℕ, Bool, true, false, List}
use Rattle.instructions.specs.declared.instr.Unit.{Unit as FunctionalUnit}
use Rattle.instructions.specs.declared.instr.Unit.TheVariants.{Branch, Boolean, Shift, Add, LongAdd, Multiply1}
use Rattle.instructions.specs.declared.instr.Unit.TheVariants.{Multiply2, Divide, Increment1, Increment2}
use Rattle.instructions.specs.Operands.{uses}
use Rattle.scoreboard.specs.Units.{may_take}
use Rattle.relocation.specs.declared.area.Access.{Access}
use Rattle.relocation.specs.declared.area.Access.TheVariants.{Load, Store}
use Rattle.in_flight.specs.declared.pending.Outstanding.TheVariants.{Entered, Accepted}
use Rattle.in_flight.specs.declared.pending.Phase.{Phase}
use Rattle.in_flight.specs.declared.pending.Phase.TheVariants.{Before, After}
use Rattle.in_flight.specs.declared.pending.Pending.{Pending}
use Rattle.instructions.specs.Each.{Each, Pairs}

-- the units in use have the slots 0 to 6; the others have none of the sixteen
unfoldable pub unit_slot : FunctionalUnit → ℕ
unit_slot Branch = 0
unit_slot Boolean = 1
unit_slot Shift = 2
unit_slot LongAdd = 3
unit_slot Divide = 4
unit_slot Increment1 = 5
unit_slot Increment2 = 6
unit_slot Add = 16
unit_slot Multiply1 = 16
unit_slot Multiply2 = 16

-- in these phases, the two instructions hold the same unit, or wait in the same place of the hopper
unfoldable pub clash_in : FunctionalUnit → Phase → FunctionalUnit → Phase → Bool
clash_in u (Before t) v (Before s) = unit_slot u == unit_slot v
clash_in u (Before t) v (After l) = false
clash_in u (After l) v (Before t) = false
clash_in u (After (Entered p a x)) v (After (Entered q b y)) = p == q
clash_in u (After (Entered p a x)) v (After (Accepted n w)) = false
clash_in u (After (Accepted m w)) v (After (Entered q b y)) = false
clash_in u (After (Accepted m w)) v (After (Accepted n x)) = false

-- the two instructions hold the same unit, or wait in the same place of the hopper
unfoldable pub clash : Pending → Pending → Bool
clash m n = clash_in m.unit m.phase n.unit n.phase

-- this is the number of a channel, 1 to 5
abbrev pub IsChannel : ℕ → Type 0
IsChannel n = (0 < n) × (n < 6)

-- a load has a channel to return to
abbrev pub IsLoadable : Access → Type 0
IsLoadable (Load n) = IsChannel n
IsLoadable (Store word) = Unit {0}

-- before the store event the unit is in use; after it the place is one of the four and the address in memory, or the
-- channel is one of the five
abbrev pub IsPlaced : ℕ → FunctionalUnit → Phase → Type 0
IsPlaced size unit (Before t) = unit_slot unit < 7
IsPlaced size unit (After (Entered place a access)) = (place < 4) × (a < size) × IsLoadable access
IsPlaced size unit (After (Accepted n word)) = IsChannel n

-- the instruction's unit is of the kind that it uses, and it is where it may be in a memory of this size
pub record IsProper (size : ℕ) (m : Pending) : Type 0 where
  pub of_kind : may_take (uses m.instr).unit m.unit ≡ true
  pub placed : IsPlaced size m.unit m.phase

-- no two instructions hold the same unit or wait in the same place of the hopper, and each is where it may be
pub record HasOwnSlots (size : ℕ) (ms : List Pending) : Type 0 where
  pub apart : Pairs (λ m n. clash m n ≡ false) ms
  pub proper : Each (IsProper size) ms
