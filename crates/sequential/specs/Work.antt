-- The effects of an instruction's value: the registers that it writes, its jump and its reference.
-- Source: 60100000, the descriptions of the instructions, exit mode; what is out of range is ours.
use Rattle.std.specs.Prelude.{◌≡◌, ℕ, ◌+◌, ◌*◌, ◌^◌, Bool, false, ◌&&◌, ◌||◌, is_none, if◌then◌else◌, List, [], ◌∷◌, Option, Some}
use Rattle.std.specs.Prelude.{None, option_to_list}
use Rattle.instructions.specs.declared.instr.Instr.{Instr}
use Rattle.instructions.specs.declared.instr.Reg.{Reg}
use Rattle.instructions.specs.declared.instr.Reg.TheVariants.{X}
use Rattle.instructions.specs.Shape.{Shape, Sets, Loads, Stores, Jumps, Links, sets_of, is_branch_shape}
use Rattle.instructions.specs.Operands.{uses}
use Rattle.registers.specs.declared.file.RegisterFile.{RegisterFile}
use Rattle.registers.specs.Registers.{get, put}
use Rattle.relocation.specs.declared.area.Access.{Access}
use Rattle.relocation.specs.declared.area.Access.TheVariants.{Load as LoadInto, Store as StoreWord}
use Rattle.unit_ops.specs.Values.{destination}
use Rattle.unit_ops.specs.declared.Operands.{Operands}
use Rattle.unit_ops.specs.declared.UnitValue.{UnitValue}
use Rattle.unit_ops.specs.declared.UnitValue.TheVariants.{Word, Index, Load, Store, Jump, Link}
use Rattle.sequential.specs.declared.state.State.{State}
use Rattle.sequential.specs.declared.work.ProgramReference.{ProgramReference}
use Rattle.sequential.specs.declared.work.Work.{Work as DoneWork}
use Rattle.sequential.specs.Position.{after_jump}
use Rattle.sequential.specs.State.{Bounds, absolute, stops_at_fault, write, write_all, jump_to, or_fault, access_at}

-- the content of an operand register; an absent operand is +0
unfoldable pub operand_at : RegisterFile → Option Reg → ℕ
operand_at g None = 0
operand_at g (Some r) = get g r

-- the operands of an instruction of the word at an address
unfoldable pub operands : Instr → ℕ → RegisterFile → Operands
operands instr position g = record {
  first = operand_at g (uses instr).first;
  second = operand_at g (uses instr).second;
  outgoing = operand_at g (uses instr).outgoing;
  place = position;
}

-- the number that a value writes into registers; for a reference it is the address
unfoldable pub number_in : UnitValue → ℕ
number_in (Word w) = w
number_in (Index n) = n
number_in (Load a) = a
number_in (Store a w) = a
number_in (Jump to) = 0
number_in (Link at back) = 0

-- the address that a value refers to, +0 if it makes no reference
unfoldable pub address_in : UnitValue → ℕ
address_in (Word w) = 0
address_in (Index n) = 0
address_in (Load a) = a
address_in (Store a w) = a
address_in (Jump to) = 0
address_in (Link at back) = at

-- the link word of RJ: 0400 (octal), the return address and thirty zeros
unfoldable pub link_word : ℕ → ℕ
link_word back = 0o400 * 2 ^ 48 + back * 2 ^ 30

-- the word that a value stores, +0 if it stores none
unfoldable pub word_in : UnitValue → ℕ
word_in (Word w) = 0
word_in (Index n) = 0
word_in (Load a) = 0
word_in (Store a w) = w
word_in (Jump to) = 0
word_in (Link at back) = link_word back

-- the effects of an instruction's value
pub record Work : Type 0 where
  -- the registers to write, each with its number
  pub sets : List (Reg × ℕ)
  -- the address to jump to, if the instruction jumps
  pub jump : Option ℕ
  -- the reference, if there is one, by the program's own address
  pub reference : Option ProgramReference

-- the same number for each of the registers
unfoldable pub each_set_to : ℕ → List Reg → List (Reg × ℕ)
each_set_to v [] = []
each_set_to v (r ∷ rs) = (r, v) ∷ each_set_to v rs

-- the address that an instruction jumps to, if it jumps; RJ continues after its link word
unfoldable pub jump_for : Shape → UnitValue → Option ℕ
jump_for shape v = if is_branch_shape shape then destination v else None

-- the reference of an instruction: SA1 to SA5 load, SA6, SA7 and RJ store, all others make none
unfoldable pub reference_for : Shape → UnitValue → Option ProgramReference
reference_for (Sets rs) v = None
reference_for (Loads n) v = Some (record { address = address_in v; access = LoadInto n })
reference_for (Stores n) v = Some (record { address = address_in v; access = StoreWord (word_in v) })
reference_for Jumps v = None
reference_for Links v = Some (record { address = address_in v; access = StoreWord (word_in v) })

-- the effects of an instruction with this value
unfoldable pub work_of : Shape → UnitValue → Work
work_of shape v = record {
  sets = each_set_to (number_in v) (sets_of shape);
  jump = jump_for shape v;
  reference = reference_for shape v;
}

-- the code's record agrees with these effects: the register to write, if there is one, with its number, the jump and
-- the reference
pub record IsWorkOf (shape : Shape) (v : UnitValue) (work : DoneWork) : Type 0 where
  pub register : sets_of shape ≡ option_to_list work.register
  pub number : work.number ≡ number_in v
  pub jump : work.jump ≡ jump_for shape v
  pub reference : work.reference ≡ reference_for shape v

-- a reference out of range sets the fault flag, if the exit mode says so
unfoldable pub fault_of : Bounds → Option ProgramReference → Bool
fault_of b None = false
fault_of b (Some r) = stops_at_fault b && is_none (absolute b r.address)

-- the registers after a write to one of them, if there is one
abbrev pub put_any : RegisterFile → Option Reg → ℕ → RegisterFile
put_any g None v = g
put_any g (Some r) v = put g r v

-- the state after an instruction has written its result and jumped, with the fault flag set if its reference sets it
abbrev pub written : State → DoneWork → Bool → State
written s work faults = record s {
  registers = put_any s.registers work.register work.number;
  position = after_jump s.position work.jump;
  fault = s.fault || faults;
}

-- the state after everything except the reference itself: registers, jump and fault flag
unfoldable pub write_and_jump : Bounds → State → Work → State
write_and_jump b s work = or_fault (jump_to (write_all s work.sets) work.jump) (fault_of b work.reference)

-- the state after a reference to a relocated address; out of range, a load gives +0 and a store writes nothing
unfoldable pub refer_at : State → Option ℕ → Access → State
refer_at s (Some a) access = access_at s a access
refer_at s None (LoadInto n) = write s (X n) 0
refer_at s None (StoreWord w) = s

-- the state after a reference to a program's address, if there is one
unfoldable pub refer : Bounds → State → Option ProgramReference → State
refer b s None = s
refer b s (Some r) = refer_at s (absolute b r.address) r.access

-- the state after all effects of an instruction, its reference last
unfoldable pub do_work : Bounds → State → Work → State
do_work b s work = refer b (write_and_jump b s work) work.reference
