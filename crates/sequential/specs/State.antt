-- The state of the machine that executes one instruction at a time, and its elementary changes.
-- Source: 60100000, registers, RA and FL, exit mode; what is out of range is ours.
use Rattle.std.specs.Prelude.{ℕ, Bool, ◌||◌, ◌==◌, List, [], ◌∷◌, Option, Some, length, slice_index_or, slice_set}
use Rattle.word60.specs.Words.{bit}
use Rattle.instructions.specs.declared.instr.Reg.{Reg}
use Rattle.instructions.specs.declared.instr.Reg.TheVariants.{X}
use Rattle.instructions.specs.declared.refusal.Halt.{Halt}
use Rattle.registers.specs.Registers.{put}
use Rattle.relocation.specs.declared.area.Area.{Area}
use Rattle.relocation.specs.declared.area.Access.{Access}
use Rattle.relocation.specs.declared.area.Access.TheVariants.{Load, Store}
use Rattle.relocation.specs.Relocation.{relocate}
use Rattle.sequential.specs.declared.position.ProgramPosition.{ProgramPosition}
use Rattle.sequential.specs.declared.state.State.{State}
use Rattle.sequential.specs.Position.{after_jump}

-- the inputs of the range rule: RA, FL, mode and the memory size
pub record Bounds : Type 0 where
  -- RA, FL and exit mode
  pub area : Area
  -- the number of words of the memory
  pub size : ℕ

-- the inputs of the range rule in a state
unfoldable pub bounds_of : State → Bounds
bounds_of s = record { area = s.area; size = length s.memory }

-- the absolute address of a program's address, if it is in range
unfoldable pub absolute : Bounds → ℕ → Option ℕ
absolute b a = relocate a b.area.ra b.area.fl b.size

-- a reference out of range sets the fault flag: bit 010000 (octal) of the exit mode is 1
unfoldable pub stops_at_fault : Bounds → Bool
stops_at_fault b = bit b.area.mode 12 == 1

-- the state after a register is written
unfoldable pub write : State → Reg → ℕ → State
write s r v = record s { registers = put s.registers r v }

-- the state after registers are written, each with its own number
unfoldable pub write_all : State → List (Reg × ℕ) → State
write_all s [] = s
write_all s (e ∷ es) = write_all (write s e.0 e.1) es

-- the state after a jump, if there is one
unfoldable pub jump_to : State → Option ℕ → State
jump_to s to = record s { position = after_jump s.position to }

-- the state after a word of memory is written, at an absolute address
unfoldable pub store_word : State → ℕ → ℕ → State
store_word s a w = record s { memory = slice_set s.memory a w }

-- the state with its fault flag set if f is true; a set flag stays set
unfoldable pub or_fault : State → Bool → State
or_fault s f = record s { fault = s.fault || f }

-- the state after an access to an absolute address: a load writes Xn with the word there, a store writes the word
unfoldable pub access_at : State → ℕ → Access → State
access_at s a (Load n) = write s (X n) (slice_index_or s.memory a 0)
access_at s a (Store w) = store_word s a w

-- the state with the next instruction at this position
unfoldable pub move_to : State → ProgramPosition → State
move_to s position = record s { position = position }

-- the state halted for this reason
unfoldable pub halt_by : State → Halt → State
halt_by s h = record s { halt = Some h }
