-- The effect of an instruction, composed of its parts.
use Rattle.std.proofs.Common.{◌≡◌, ℕ, Bool, Option, Some, None, refl, arith}
use Rattle.std.specs.Prelude.{option_to_list}
use Rattle.instructions.specs.declared.instr.Instr.{Instr}
use Rattle.instructions.specs.declared.instr.Reg.{Reg}
use Rattle.instructions.specs.Shape.{Shape, shape_of}
use Rattle.unit_ops.specs.declared.Operands.{Operands}
use Rattle.unit_ops.specs.declared.UnitValue.{UnitValue}
use Rattle.unit_ops.specs.Values.{value_of}
use Rattle.sequential.specs.declared.state.State.{State}
use Rattle.sequential.specs.declared.work.Work.{Work as DoneWork}
use Rattle.sequential.specs.State.{Bounds, write_all, write, jump_to, or_fault}
use Rattle.sequential.specs.Step.{do_instruction}
use Rattle.sequential.specs.Work.{operands, each_set_to, reference_for, work_of, fault_of}
use Rattle.sequential.specs.Work.{IsWorkOf, put_any, write_and_jump, written, refer, do_work}

one_written : (s : State) (w : Option Reg) (n : ℕ)
    → write_all s (each_set_to n (option_to_list w)) ≡ record s { registers = put_any s.registers w n }
unfolding write_all write each_set_to
one_written s None n = refl
one_written s (Some r) n = refl

-- the state after the work of a value, with its jump and its fault
pub written_by : (b : Bounds) (s : State) (shape : Shape) (v : UnitValue) (work : DoneWork) (f : Bool)
    → IsWorkOf shape v work → f ≡ fault_of b (reference_for shape v)
    → written s work f ≡ write_and_jump b s (work_of shape v)
unfolding write_and_jump work_of jump_to or_fault
written_by b s shape v work f is ef = grind (arith, one_written)

work_done : (b : Bounds) (s : State) (shape : Shape) (v : UnitValue) (work : DoneWork) (f : Bool)
    → IsWorkOf shape v work → f ≡ fault_of b work.reference
    → refer b (written s work f) work.reference ≡ do_work b s (work_of shape v)
unfolding do_work work_of
work_done b s shape v work f is ef = grind (arith, written_by)

pub instruction_done : (b : Bounds) (s t : State) (instr : Instr) (at : ℕ) (o : Operands) (v : UnitValue)
    (work : DoneWork) (f : Bool)
    → o ≡ operands instr at s.registers
    → v ≡ value_of instr o
    → IsWorkOf (shape_of instr) v work
    → f ≡ fault_of b work.reference
    → t ≡ refer b (written s work f) work.reference
    → t ≡ do_instruction b s instr at
unfolding do_instruction
instruction_done b s t instr at o v work f eo ev is ef et = grind (arith, work_done)
