-- The effect of an instruction's value, whatever its opcode.
-- Source: ours.
use Rattle.std.specs.Prelude.{ℕ, Bool, true, false, List, [], ◌∷◌, ◌++◌, Option, Some, None}
use Rattle.instructions.specs.declared.instr.Reg.{Reg}
use Rattle.instructions.specs.declared.instr.Reg.TheVariants.{X, A}
use Rattle.instructions.specs.declared.instr.Target.{Target}
use Rattle.instructions.specs.declared.instr.Target.TheVariants.{A as TargetA, B as TargetB, X as TargetX}
use Rattle.instructions.specs.declared.instr.Instr.{Instr}
use Rattle.instructions.specs.declared.instr.Instr.TheVariants.{ReturnJump, Jump, BranchX, BranchB, Increment}
use Rattle.instructions.specs.declared.shape.MemoryUse.{MemoryUse}
use Rattle.instructions.specs.declared.shape.MemoryUse.TheVariants as memory
use Rattle.instructions.specs.Operands.{uses, by_reference}

-- the effect of an instruction's value: it sets registers, loads, stores, jumps or links
pub data Shape : Type 0 where
  -- sets its results (none for SB0, a pass and a stop), and makes no reference
  Sets : (registers : List Reg) → Shape
  -- SA1 to SA5: writes An and loads Xn
  Loads : (n : ℕ) → Shape
  -- SA6 and SA7: writes An and stores Xn
  Stores : (n : ℕ) → Shape
  -- 02 to 07: jumps, or continues with the next instruction if the branch isn't taken
  Jumps : Shape
  -- RJ: stores its link word and jumps
  Links : Shape

-- the effect of an instruction's value; of SA0 to SA7, by the register number alone
unfoldable pub shape_of : Instr → Shape
shape_of (ReturnJump K) = Links
shape_of (Jump i K) = Jumps
shape_of (BranchX test j K) = Jumps
shape_of (BranchB test i j K) = Jumps
shape_of (Increment TargetA i addends) = by_reference i (Sets (A 0 ∷ [])) (Loads i) (Stores i)
shape_of instr = Sets (uses instr).results

-- the registers written at the store event
unfoldable pub sets_of : Shape → List Reg
sets_of (Sets rs) = rs
sets_of (Loads n) = A n ∷ []
sets_of (Stores n) = A n ∷ []
sets_of Jumps = []
sets_of Links = []

-- the register written when the load returns
unfoldable pub loads_of : Shape → List Reg
loads_of (Sets rs) = []
loads_of (Loads n) = X n ∷ []
loads_of (Stores n) = []
loads_of Jumps = []
loads_of Links = []

-- the result registers: those written at the store event, then the one that is loaded; E8 result reserved names the
-- first that is a result still to come
unfoldable pub results : Shape → List Reg
results shape = sets_of shape ++ loads_of shape

-- the instruction jumps or may jump
unfoldable pub is_branch_shape : Shape → Bool
is_branch_shape (Sets rs) = false
is_branch_shape (Loads n) = false
is_branch_shape (Stores n) = false
is_branch_shape Jumps = true
is_branch_shape Links = true

-- the reference that the instruction makes, if it makes one
unfoldable pub memory_of : Shape → Option MemoryUse
memory_of (Sets rs) = None
memory_of (Loads n) = Some (memory.Loads n)
memory_of (Stores n) = Some (memory.Stores n)
memory_of Jumps = None
memory_of Links = Some memory.Links

-- the reference of an instruction of 50 to 77, by the register that it sets
abbrev pub memory_by : Target → ℕ → Option MemoryUse
memory_by TargetA i = by_reference i None (Some (memory.Loads i)) (Some (memory.Stores i))
memory_by TargetB i = None
memory_by TargetX i = None

-- the instruction reads or writes a word of memory
unfoldable pub has_reference : Shape → Bool
has_reference (Sets rs) = false
has_reference (Loads n) = true
has_reference (Stores n) = true
has_reference Jumps = false
has_reference Links = true

-- the instruction writes a word of memory
unfoldable pub has_store : Shape → Bool
has_store (Sets rs) = false
has_store (Loads n) = false
has_store (Stores n) = true
has_store Jumps = false
has_store Links = true
