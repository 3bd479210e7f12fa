-- The parts of the state that a pending instruction doesn't touch.
use Rattle.scoreboard.specs.Reservations as board
use Rattle.in_flight.specs.Pending.{has_read, occupancy_of, returning, reservation_of, is_branch, to_come}
use Rattle.in_flight.proofs.asking.PendingReservations.{reads}
use Rattle.scoreboard.specs.Reservations.{is_reserved, returning_to}
use Rattle.scoreboard.proofs.in_slots.Registers.{reg_eq_same}
use Rattle.std.specs.Prelude.{◌||◌}
use Rattle.std.proofs.lemmas.Bool.{or_parts}
use Rattle.std.proofs.Common.{◌≡◌, ℕ, Bool, true, false, cond, sym, subst, List, [], ◌∷◌, ◌++◌, Option, Some, None}
use Rattle.std.proofs.Common.{refl, ap, ◌∙◌, get_or, arith}
use Rattle.std.specs.List.{list_any}
use Rattle.instructions.proofs.Lists.{any_left, any_right, each_left, each_right}
use Rattle.registers.proofs.RegisterLaws.{get-put_other, same_reg_flip}
use Rattle.program_order.proofs.Opened.{operands_to_read, results_to_come}
use Rattle.program_order.proofs.effects.Effects.{later_touches, later_stores, do_outstanding-write, do_work-write}
use Rattle.program_order.proofs.effects.Effects.{do_outstanding-move, do_work-move, do_outstanding-halt, do_work-halt}
use Rattle.program_order.proofs.effects.Effects.{do_outstanding-or_fault, do_work-or_fault, do_outstanding-store_word}
use Rattle.program_order.proofs.effects.Effects.{do_work-store_word}
use Rattle.program_order.proofs.effects.Effects.{do_outstanding-get, do_work-get, do_outstanding-word, do_work-word}
use Rattle.program_order.proofs.effects.Effects.{do_outstanding-halted, do_work-halted, do_outstanding-bounds}
use Rattle.program_order.proofs.effects.Effects.{do_work-bounds, do_outstanding-position, do_work-position}
use Rattle.instructions.specs.RegisterLists.{is_in}
use Rattle.instructions.specs.Shape.{Shape, has_reference, has_store, is_branch_shape, loads_of, sets_of, results}
use Rattle.instructions.specs.Shape.{shape_of}
use Rattle.instructions.specs.Operands.{reg_eq, sources_of, with_source}
use Rattle.instructions.specs.declared.instr.Instr.{Instr}
use Rattle.instructions.specs.declared.instr.Reg.{Reg}
use Rattle.instructions.specs.declared.instr.Reg.TheVariants.{B}
use Rattle.instructions.specs.declared.refusal.Halt.{Halt}
use Rattle.in_flight.proofs.asking.Phases.{target_of, before_and, may_store, may_store_in, reads_in, to_come_in}
use Rattle.instructions.specs.Each.{Each}
use Rattle.program_order.specs.Complete.{finish_effects, run_phase, value_at}
use Rattle.in_flight.specs.declared.pending.Pending.{Pending}
use Rattle.in_flight.specs.declared.pending.Phase.{Phase}
use Rattle.in_flight.specs.declared.pending.Phase.TheVariants.{After, Before}
use Rattle.in_flight.specs.declared.pending.Stage.{Stage}
use Rattle.in_flight.specs.declared.pending.Stage.TheVariants.{Finished, Read as HasRead, Unread}
use Rattle.registers.specs.Registers.{get, put}
use Rattle.registers.specs.declared.file.RegisterFile.{RegisterFile}
use Rattle.sequential.specs.State.{Bounds, bounds_of, halt_by, or_fault, move_to, store_word, write}
use Rattle.sequential.specs.Work.{operand_at, operands}
use Rattle.sequential.specs.declared.position.ProgramPosition.{ProgramPosition}
use Rattle.sequential.specs.declared.state.State.{State}
use Rattle.unit_ops.specs.Values.{value_of}

-- from all to a member
holds_of_one : (P : Reg → Type 0) (r : Reg) (rs : List Reg) → list_any (reg_eq r) rs ≡ true → Each P rs → P r
holds_of_one P r [] h e = cc
holds_of_one P r (t ∷ rs) h e = by_test (reg_eq r t) refl h (λ k. holds_of_one P r rs k e.1)
  where
    by_test : (f : Bool) → reg_eq r t ≡ f → (f || list_any (reg_eq r) rs) ≡ true
        → (list_any (reg_eq r) rs ≡ true → P r) → P r
    by_test true i k rest = subst P (sym (reg_eq_same r t i)) e.0
    by_test false i k rest = rest k

b0_agrees : (g k : RegisterFile) (r : Reg) → r ≡ B 0 → get g r ≡ get k r
unfolding get
b0_agrees g k r e = ap (get g) e ∙ sym (ap (get k) e)

-- register files that agree on the sources and one more register agree on that register
operand-agree : (g k : RegisterFile) (rs : List Reg) (o : Option Reg)
    → Each (λ r. get g r ≡ get k r) (with_source rs o) → Each (λ r. get g r ≡ get k r) rs
    × (operand_at g o ≡ operand_at k o)
unfolding operand_at
operand-agree g k rs None h = (h, refl)
operand-agree g k rs (Some r) h = by_test (reg_eq r (B 0)) refl (list_any (reg_eq r) rs) refl h
  where
    P : Reg → Type 0
    P t = get g t ≡ get k t

    by_test : (x : Bool) → reg_eq r (B 0) ≡ x → (y : Bool) → list_any (reg_eq r) rs ≡ y
        → Each (λ t. get g t ≡ get k t) (cond (x || y) rs (rs ++ r ∷ [])) → Each (λ t. get g t ≡ get k t) rs
        × (get g r ≡ get k r)
    by_test true i y j e = (e, b0_agrees g k r (reg_eq_same r (B 0) i))
    by_test false i true j e = (e, holds_of_one P r rs j e)
    by_test false i false j e = (each_left P rs (r ∷ []) e, (each_right P rs (r ∷ []) e).0)

-- register files that agree on the sources give the same operands
pub operands-agree : (i : Instr) (at : ℕ) (g k : RegisterFile) → Each (λ r. get g r ≡ get k r) (sources_of i)
    → operands i at g ≡ operands i at k
unfolding operands
operands-agree i at g k h = grind (arith, operand-agree g k)

put_agrees : (g : RegisterFile) (r : Reg) (v : ℕ) (rs : List Reg) → is_in rs r ≡ false
    → Each (λ t. get (put g r v) t ≡ get g t) rs
unfolding is_in
put_agrees g r v [] h = tt
put_agrees g r v (t ∷ rs) h =
    let p = or_parts (reg_eq r t) (list_any (reg_eq r) rs) h in
    (get-put_other g r t v (same_reg_flip r t p.0), put_agrees g r v rs p.1)

value_at-put : (i : Instr) (at : ℕ) (t : Stage) (g : RegisterFile) (r : Reg) (v : ℕ)
    → is_in (reads_in (sources_of i) (Before t)) r ≡ false → value_at i at t (put g r v) ≡ value_at i at t g
unfolding value_at reads_in board.reads_in occupancy_of has_read
value_at-put i at Unread g r v h =
    ap (value_of i) (operands-agree i at (put g r v) g (put_agrees g r v (sources_of i) h))
value_at-put i at (HasRead os) g r v h = refl
value_at-put i at (Finished x) g r v h = refl

in_puts : (h : Shape) (r : Reg) → is_in (results h) r ≡ false → is_in (sets_of h) r ≡ false
unfolding is_in results
in_puts h r e = any_left (reg_eq r) (sets_of h) (loads_of h) e

in_loads : (h : Shape) (r : Reg) → is_in (results h) r ≡ false → is_in (loads_of h) r ≡ false
unfolding is_in results
in_loads h r e = any_right (reg_eq r) (sets_of h) (loads_of h) e

-- ---- in a phase ----

phase-write : (b : Bounds) (s : State) (i : Instr) (at : ℕ) (p : Phase) (r : Reg) (v : ℕ)
    → is_in (to_come_in (shape_of i) p) r ≡ false → is_in (reads_in (sources_of i) p) r ≡ false
    → run_phase b (write s r v) i at p ≡ write (run_phase b s i at p) r v
unfolding run_phase to_come_in write board.to_come_in occupancy_of returning_to returning target_of
phase-write b s i h p r v c d = grind (arith, value_at-put, do_work-write, in_puts, in_loads, do_outstanding-write)

phase-move : (b : Bounds) (s : State) (i : Instr) (at : ℕ) (p : Phase) (k : ProgramPosition)
    → before_and (is_branch_shape (shape_of i)) p ≡ false
    → run_phase b (move_to s k) i at p ≡ move_to (run_phase b s i at p) k
unfolding run_phase before_and move_to is_reserved occupancy_of
phase-move b s i at (Before t) k e = do_work-move b s (shape_of i) _ k e
phase-move b s i at (After l) k e = do_outstanding-move s l k

phase-halt : (b : Bounds) (s : State) (i : Instr) (at : ℕ) (p : Phase) (k : Halt)
    → run_phase b (halt_by s k) i at p ≡ halt_by (run_phase b s i at p) k
unfolding run_phase halt_by
phase-halt b s i at (Before t) k = do_work-halt b s _ k
phase-halt b s i at (After l) k = do_outstanding-halt s l k

phase-or_fault : (b : Bounds) (s : State) (i : Instr) (at : ℕ) (p : Phase) (f : Bool)
    → run_phase b (or_fault s f) i at p ≡ or_fault (run_phase b s i at p) f
unfolding run_phase or_fault
phase-or_fault b s i at (Before t) f = do_work-or_fault b s _ f
phase-or_fault b s i at (After l) f = do_outstanding-or_fault s l f

unfoldable pub touches_in : Bool → ℕ → Phase → Bool
touches_in f a (Before t) = f
touches_in f a (After l) = later_touches a l

phase-store_word : (b : Bounds) (s : State) (i : Instr) (at : ℕ) (p : Phase) (a w : ℕ)
    → touches_in (has_reference (shape_of i)) a p ≡ false
    → run_phase b (store_word s a w) i at p ≡ store_word (run_phase b s i at p) a w
unfolding run_phase touches_in store_word later_touches
phase-store_word b s i at (Before t) a w e = do_work-store_word b s (shape_of i) _ a w e
phase-store_word b s i at (After l) a w e = do_outstanding-store_word s l a w e

phase-get : (b : Bounds) (s : State) (i : Instr) (at : ℕ) (p : Phase) (r : Reg)
    → is_in (to_come_in (shape_of i) p) r ≡ false → get (run_phase b s i at p).registers r ≡ get s.registers r
unfolding run_phase to_come_in board.to_come_in occupancy_of returning_to returning target_of
phase-get b s i h p r c = grind (arith, do_work-get, in_puts, in_loads, do_outstanding-get)

phase-word : (b : Bounds) (s : State) (i : Instr) (at : ℕ) (p : Phase) (a : ℕ)
    → may_store_in (has_store (shape_of i)) a p ≡ false → get_or (run_phase b s i at p).memory a 0 ≡ get_or s.memory a 0
unfolding run_phase may_store_in later_stores
phase-word b s i h p a e = grind (arith, do_work-word, do_outstanding-word)

phase-halted : (b : Bounds) (s : State) (i : Instr) (at : ℕ) (p : Phase) → (run_phase b s i at p).halt ≡ s.halt
unfolding run_phase
phase-halted b s i at (Before t) = do_work-halted b s _
phase-halted b s i at (After l) = do_outstanding-halted s l

phase-bounds : (b : Bounds) (s : State) (i : Instr) (at : ℕ) (p : Phase)
    → bounds_of (run_phase b s i at p) ≡ bounds_of s
unfolding run_phase
phase-bounds b s i at (Before t) = do_work-bounds b s _
phase-bounds b s i at (After l) = do_outstanding-bounds s l

phase-position : (b : Bounds) (s : State) (i : Instr) (at : ℕ) (p : Phase)
    → before_and (is_branch_shape (shape_of i)) p ≡ false → (run_phase b s i at p).position ≡ s.position
unfolding run_phase before_and is_reserved occupancy_of
phase-position b s i at (Before t) e = do_work-position b s (shape_of i) _ e
phase-position b s i at (After l) e = do_outstanding-position s l

-- ---- a pending instruction ----

pub finish_effects-write : (b : Bounds) (s : State) (m : Pending) (r : Reg) (v : ℕ) → is_in (to_come m) r ≡ false
    → is_in (reads m) r ≡ false → finish_effects b (write s r v) m ≡ write (finish_effects b s m) r v
unfolding finish_effects results_to_come operands_to_read
finish_effects-write b s m r v c d = phase-write b s m.instr m.at m.phase r v c d

pub finish_effects-move : (b : Bounds) (s : State) (m : Pending) (k : ProgramPosition) → is_branch m ≡ false
    → finish_effects b (move_to s k) m ≡ move_to (finish_effects b s m) k
unfolding finish_effects is_branch board.is_branch reservation_of before_and is_reserved occupancy_of
finish_effects-move b s m k e = phase-move b s m.instr m.at m.phase k e

pub finish_effects-halt : (b : Bounds) (s : State) (m : Pending) (k : Halt) → finish_effects b (halt_by s k) m
    ≡ halt_by (finish_effects b s m) k
unfolding finish_effects
finish_effects-halt b s m k = phase-halt b s m.instr m.at m.phase k

pub finish_effects-or_fault : (b : Bounds) (s : State) (m : Pending) (f : Bool) → finish_effects b (or_fault s f) m
    ≡ or_fault (finish_effects b s m) f
unfolding finish_effects
finish_effects-or_fault b s m f = phase-or_fault b s m.instr m.at m.phase f

-- whether the instruction may read or write the absolute address
unfoldable pub touches : ℕ → Pending → Bool
touches a m = touches_in (has_reference (shape_of m.instr)) a m.phase

pub finish_effects-store_word : (b : Bounds) (s : State) (m : Pending) (a w : ℕ) → touches a m ≡ false
    → finish_effects b (store_word s a w) m ≡ store_word (finish_effects b s m) a w
unfolding finish_effects touches
finish_effects-store_word b s m a w e = phase-store_word b s m.instr m.at m.phase a w e

pub finish_effects-get : (b : Bounds) (s : State) (m : Pending) (r : Reg) → is_in (to_come m) r ≡ false
    → get (finish_effects b s m).registers r ≡ get s.registers r
unfolding finish_effects results_to_come
finish_effects-get b s m r c = phase-get b s m.instr m.at m.phase r c

pub finish_effects-word : (b : Bounds) (s : State) (m : Pending) (a : ℕ) → may_store a m ≡ false
    → get_or (finish_effects b s m).memory a 0 ≡ get_or s.memory a 0
unfolding finish_effects may_store
finish_effects-word b s m a e = phase-word b s m.instr m.at m.phase a e

pub finish_effects-halted : (b : Bounds) (s : State) (m : Pending) → (finish_effects b s m).halt ≡ s.halt
unfolding finish_effects
finish_effects-halted b s m = phase-halted b s m.instr m.at m.phase

pub finish_effects-bounds : (b : Bounds) (s : State) (m : Pending) → bounds_of (finish_effects b s m) ≡ bounds_of s
unfolding finish_effects
finish_effects-bounds b s m = phase-bounds b s m.instr m.at m.phase

pub finish_effects-position : (b : Bounds) (s : State) (m : Pending) → is_branch m ≡ false
    → (finish_effects b s m).position ≡ s.position
unfolding finish_effects is_branch board.is_branch reservation_of before_and is_reserved occupancy_of
finish_effects-position b s m e = phase-position b s m.instr m.at m.phase e
