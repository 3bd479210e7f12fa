-- The effect of each event on one pending instruction, over plain variables.
use Rattle.std.proofs.Common.{◌≡◌, ℕ, List, [], ◌∷◌, ◌++◌, Option, Some, None, refl, sym, ap, ◌∙◌, get_or, arith}
use Rattle.program_order.proofs.effects.Effects.{do_parts, do_work-is, do_option}
use Rattle.program_order.proofs.effects.Completing.{complete-append}
use Rattle.instructions.specs.Shape.{shape_of}
use Rattle.instructions.specs.declared.instr.Instr.{Instr}
use Rattle.instructions.specs.declared.instr.Reg.TheVariants.{X}
use Rattle.program_order.specs.Complete.{complete, do_outstanding, finish_effects, run_phase, value_at}
use Rattle.in_flight.specs.Flight.{entering, outstanding_of, relocated}
use Rattle.program_order.specs.Units.{rest_of, stage_after_finish, stage_after_read}
use Rattle.in_flight.specs.Lookup.{in_phase, kept}
use Rattle.in_flight.specs.declared.pending.Outstanding.{Outstanding}
use Rattle.in_flight.specs.declared.pending.Outstanding.TheVariants.{Accepted, Entered}
use Rattle.in_flight.specs.declared.pending.Pending.{Pending}
use Rattle.in_flight.specs.declared.pending.Phase.{Phase}
use Rattle.in_flight.specs.declared.pending.Phase.TheVariants.{After, Before}
use Rattle.in_flight.specs.declared.pending.Stage.{Stage}
use Rattle.in_flight.specs.declared.pending.Stage.TheVariants.{Finished}
use Rattle.registers.specs.declared.file.RegisterFile.{RegisterFile}
use Rattle.relocation.specs.declared.area.Access.{Access}
use Rattle.relocation.specs.declared.area.Access.TheVariants.{Load as LoadInto, Store as StoreWord}
use Rattle.sequential.specs.State.{Bounds, absolute, access_at, store_word, write}
use Rattle.sequential.specs.Work.{write_and_jump, operands, work_of}
use Rattle.sequential.specs.declared.state.State.{State}
use Rattle.sequential.specs.declared.work.ProgramReference.{ProgramReference}
use Rattle.unit_ops.specs.declared.UnitValue.{UnitValue}

-- replacing one instruction of the list by others
pub complete-put_back : (b : Bounds) (s c : State) (es ns : List Pending) (m : Pending) (ls : List Pending)
    → complete b (complete b c es) ns ≡ finish_effects b (complete b s es) m
    → complete b c (es ++ (ns ++ ls)) ≡ complete b s (es ++ m ∷ ls)
unfolding complete
complete-put_back b s c es ns m ls h = grind (arith, complete-append)

pub run_in : (b : Bounds) (s : State) (m : Pending) (p : Phase) → m.phase ≡ p → finish_effects b s m
    ≡ run_phase b s m.instr m.at p
unfolding finish_effects
run_in b s m p e = ap (run_phase b s m.instr m.at) e

value-read : (i : Instr) (at : ℕ) (g k : RegisterFile) (t : Stage) → operands i at g ≡ operands i at k
    → value_at i at (stage_after_read g i at t) k ≡ value_at i at t k
unfolding value_at stage_after_read
value-read i h g k t e = grind arith

pub finish_effects-read : (b : Bounds) (s : State) (m : Pending) (t : Stage) (g : RegisterFile) → m.phase ≡ Before t
    → operands m.instr m.at g ≡ operands m.instr m.at s.registers
    → finish_effects b s (in_phase m (Before (stage_after_read g m.instr m.at t))) ≡ finish_effects b s m
unfolding finish_effects run_phase in_phase
finish_effects-read b s m t g e a = grind (arith, value-read, run_in)

value-finish : (i : Instr) (at : ℕ) (g : RegisterFile) (t : Stage)
    → value_at i at (stage_after_finish i t) g ≡ value_at i at t g
unfolding value_at stage_after_finish
value-finish i h g t = grind arith

pub finish_effects-finish : (b : Bounds) (s : State) (m : Pending) (t : Stage) → m.phase ≡ Before t
    → finish_effects b s (in_phase m (Before (stage_after_finish m.instr t))) ≡ finish_effects b s m
unfolding finish_effects run_phase in_phase
finish_effects-finish b s m t e = grind (arith, value-finish, run_in)

entering-slot : (s : State) (p q : ℕ) (o : Option ℕ) (access : Access)
    → do_option s (entering p o access) ≡ do_option s (entering q o access)
unfolding entering do_option do_outstanding
entering-slot s p q o access = grind arith

rest-slot : (b : Bounds) (s : State) (p q : ℕ) (r : Option ProgramReference)
    → do_option s (rest_of b p r) ≡ do_option s (rest_of b q r)
unfolding relocated outstanding_of
rest-slot b s p q None = refl
rest-slot b s p q (Some r) = entering-slot s p q (absolute b r.address) r.access

complete-kept : (b : Bounds) (s : State) (m : Pending) (o : Option Outstanding)
    → complete b s (kept m o) ≡ do_option s o
unfolding complete kept do_option finish_effects run_phase in_phase
complete-kept b s m None = refl
complete-kept b s m (Some l) = refl

pub finish_effects-store : (b : Bounds) (s : State) (m : Pending) (v : UnitValue) (slot : ℕ) → m.phase
    ≡ Before (Finished v)
    → complete b (write_and_jump b s (work_of (shape_of m.instr) v))
    (kept m (rest_of b slot (work_of (shape_of m.instr) v).reference)) ≡ finish_effects b s m
unfolding run_phase do_parts value_at
finish_effects-store b s m v slot e =
    complete-kept b _ m _
    ∙ rest-slot b _ slot 0 _
    ∙ sym (do_work-is b s (work_of (shape_of m.instr) v))
    ∙ sym (run_in b s m (Before (Finished v)) e)

pub finish_effects-accept_load : (b : Bounds) (s : State) (m : Pending) (slot a n word : ℕ)
    → m.phase ≡ After (Entered slot a (LoadInto n)) → word ≡ get_or s.memory a 0
    → finish_effects b s (in_phase m (After (Accepted n word))) ≡ finish_effects b s m
unfolding finish_effects run_phase in_phase do_outstanding access_at
finish_effects-accept_load b s m slot a n word e f = ap (write s (X n)) f ∙ sym (run_in b s m _ e)

pub finish_effects-accept_store : (b : Bounds) (s : State) (m : Pending) (slot a v : ℕ)
    → m.phase ≡ After (Entered slot a (StoreWord v)) → complete b (store_word s a v) [] ≡ finish_effects b s m
unfolding complete run_phase do_outstanding access_at
finish_effects-accept_store b s m slot a v e = sym (run_in b s m _ e)

pub finish_effects-return : (b : Bounds) (s : State) (m : Pending) (n v : ℕ) → m.phase ≡ After (Accepted n v)
    → complete b (write s (X n) v) [] ≡ finish_effects b s m
unfolding complete run_phase do_outstanding
finish_effects-return b s m n v e = sym (run_in b s m _ e)
