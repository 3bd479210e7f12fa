-- Changes of different parts of the state, made in either order.
use Rattle.in_flight.specs.Pending.{returning}
use Rattle.sequential.specs.Position.{after_jump}
use Rattle.scoreboard.specs.Reservations.{returning_to}
use Rattle.std.proofs.Common.{◌≡◌, ℕ, Bool, false, List, [], ◌∷◌, Option, Some, None, refl, sym, ap, ◌∙◌, get_or}
use Rattle.std.proofs.Common.{eqb, arith}
use Rattle.std.specs.Prelude.{◌||◌}
use Rattle.std.proofs.lemmas.Bool.{eqb-false, or_parts}
use Rattle.std.proofs.lemmas.List.{get_or-set_other, set_comm, length-set}
use Rattle.std.specs.List.{list_any}
use Rattle.registers.proofs.RegisterLaws.{put_comm, get-put_other}
use Rattle.instructions.specs.RegisterLists.{is_in}
use Rattle.instructions.specs.Shape.{Shape, has_reference, has_store, is_branch_shape, loads_of, sets_of}
use Rattle.instructions.specs.Operands.{reg_eq}
use Rattle.instructions.specs.declared.instr.Reg.{Reg}
use Rattle.instructions.specs.declared.instr.Reg.TheVariants.{X}
use Rattle.instructions.specs.declared.refusal.Halt.{Halt}
use Rattle.in_flight.proofs.asking.Phases.{target_of, targets_left}
use Rattle.program_order.specs.Complete.{do_outstanding}
use Rattle.in_flight.specs.Flight.{entering, outstanding_of, relocated}
use Rattle.program_order.specs.Units.{rest_of}
use Rattle.in_flight.specs.declared.pending.Outstanding.{Outstanding}
use Rattle.in_flight.specs.declared.pending.Outstanding.TheVariants.{Accepted, Entered}
use Rattle.registers.specs.Registers.{get}
use Rattle.relocation.specs.declared.area.Access.{Access}
use Rattle.relocation.specs.declared.area.Access.TheVariants.{Load as LoadInto, Store as StoreWord}
use Rattle.sequential.specs.State.{Bounds, absolute, access_at, bounds_of, jump_to, halt_by, or_fault, move_to}
use Rattle.sequential.specs.State.{store_word, write, write_all}
use Rattle.sequential.specs.Work.{Work, write_and_jump, jump_for, reference_for, each_set_to, work_of, do_work, refer}
use Rattle.sequential.specs.Work.{refer_at}
use Rattle.sequential.specs.declared.position.ProgramPosition.{ProgramPosition}
use Rattle.sequential.specs.declared.state.State.{State}
use Rattle.sequential.specs.declared.work.ProgramReference.{ProgramReference}
use Rattle.unit_ops.specs.declared.UnitValue.{UnitValue}

unfoldable pub do_option : State → Option Outstanding → State
do_option s None = s
do_option s (Some l) = do_outstanding s l

-- all the work of a reservation, in two parts: the work done now, and the rest
unfoldable pub do_parts : Bounds → State → Work → State
do_parts b s w = do_option (write_and_jump b s w) (rest_of b 0 w.reference)

-- ---- a register write ----

pub write_comm : (s : State) (r t : Reg) (v w : ℕ) → reg_eq t r ≡ false
    → write (write s r v) t w ≡ write (write s t w) r v
unfolding write
write_comm s r t v w h = ap (λ g. record s { registers = g }) (put_comm s.registers r t v w h)

pub write_all-write : (s : State) (n : ℕ) (rs : List Reg) (r : Reg) (v : ℕ) → is_in rs r ≡ false
    → write_all (write s r v) (each_set_to n rs) ≡ write (write_all s (each_set_to n rs)) r v
unfolding write_all each_set_to is_in
write_all-write s n [] r v h = refl
write_all-write s n (t ∷ rs) r v h =
    let p = or_parts (reg_eq r t) (list_any (reg_eq r) rs) h in
    grind (arith, write_all-write (write s t n) n rs r v p.1, write_comm)

jump_to-write : (s : State) (j : Option ℕ) (r : Reg) (v : ℕ) → jump_to (write s r v) j ≡ write (jump_to s j) r v
unfolding jump_to write after_jump
jump_to-write s None r v = refl
jump_to-write s (Some to) r v = refl

or_fault-write : (s : State) (f : Bool) (r : Reg) (v : ℕ) → or_fault (write s r v) f ≡ write (or_fault s f) r v
unfolding or_fault write
or_fault-write s f r v = refl

pub do_outstanding-write : (s : State) (l : Outstanding) (r : Reg) (v : ℕ) → is_in (target_of l) r ≡ false
    → do_outstanding (write s r v) l ≡ write (do_outstanding s l) r v
unfolding do_outstanding access_at store_word write target_of is_in returning_to returning
do_outstanding-write s l r v h = grind (arith, write_comm, or_parts)

pub do_option-write : (s : State) (o : Option Outstanding) (r : Reg) (v : ℕ) → is_in (targets_left o) r ≡ false
    → do_option (write s r v) o ≡ write (do_option s o) r v
unfolding do_option targets_left
do_option-write s None r v h = refl
do_option-write s (Some l) r v h = do_outstanding-write s l r v h

entering_targets : (slot n : ℕ) (o : Option ℕ) → targets_left (entering slot o (LoadInto n)) ≡ X n ∷ []
unfolding entering targets_left target_of returning_to returning
entering_targets slot n None = refl
entering_targets slot n (Some a) = refl

entering_nothing : (slot w : ℕ) (o : Option ℕ) → targets_left (entering slot o (StoreWord w)) ≡ []
unfolding entering targets_left target_of returning_to returning
entering_nothing slot w None = refl
entering_nothing slot w (Some a) = refl

pub rest_targets : (b : Bounds) (slot : ℕ) (h : Shape) (v : UnitValue)
    → targets_left (rest_of b slot (reference_for h v)) ≡ loads_of h
unfolding relocated outstanding_of reference_for loads_of targets_left
rest_targets b slot h v = grind (arith, entering_targets, entering_nothing)

pub write_and_jump-write : (b : Bounds) (s : State) (h : Shape) (x : UnitValue) (r : Reg) (v : ℕ) → is_in (sets_of h) r
    ≡ false
    → write_and_jump b (write s r v) (work_of h x) ≡ write (write_and_jump b s (work_of h x)) r v
unfolding write_and_jump work_of
write_and_jump-write b s h x r v p = simp (write_all-write, jump_to-write, or_fault-write)

pub do_parts-write : (b : Bounds) (s : State) (h : Shape) (x : UnitValue) (r : Reg) (v : ℕ)
    → is_in (sets_of h) r ≡ false → is_in (loads_of h) r ≡ false
    → do_parts b (write s r v) (work_of h x) ≡ write (do_parts b s (work_of h x)) r v
unfolding do_parts work_of
do_parts-write b s h x r v p q = grind (arith, write_and_jump-write, do_option-write, rest_targets)

-- ---- a move of the place ----

write_all-move : (s : State) (es : List (Reg × ℕ)) (p : ProgramPosition) → write_all (move_to s p) es
    ≡ move_to (write_all s es) p
unfolding write_all write move_to
write_all-move s [] p = refl
write_all-move s (e ∷ es) p = write_all-move (write s e.0 e.1) es p

or_fault-move : (s : State) (f : Bool) (p : ProgramPosition) → or_fault (move_to s p) f ≡ move_to (or_fault s f) p
unfolding or_fault move_to
or_fault-move s f p = refl

pub do_outstanding-move : (s : State) (l : Outstanding) (p : ProgramPosition)
    → do_outstanding (move_to s p) l ≡ move_to (do_outstanding s l) p
unfolding do_outstanding access_at store_word write move_to
do_outstanding-move s l p = grind arith

do_option-move : (s : State) (o : Option Outstanding) (p : ProgramPosition)
    → do_option (move_to s p) o ≡ move_to (do_option s o) p
unfolding do_option
do_option-move s None p = refl
do_option-move s (Some l) p = do_outstanding-move s l p

-- a reservation that is no branch leaves the program position unchanged
pub no_jump : (h : Shape) (x : UnitValue) → is_branch_shape h ≡ false → jump_for h x ≡ None
unfolding jump_for
no_jump h x e = rw e refl

jump_to-none : (s : State) (j : Option ℕ) → j ≡ None → jump_to s j ≡ s
unfolding jump_to after_jump
jump_to-none s j e = rw e refl

pub write_and_jump-move : (b : Bounds) (s : State) (h : Shape) (x : UnitValue) (p : ProgramPosition)
    → is_branch_shape h ≡ false
    → write_and_jump b (move_to s p) (work_of h x) ≡ move_to (write_and_jump b s (work_of h x)) p
unfolding write_and_jump work_of
write_and_jump-move b s h x p e = simp (jump_to-none, no_jump, write_all-move, or_fault-move)

pub do_parts-move : (b : Bounds) (s : State) (h : Shape) (x : UnitValue) (p : ProgramPosition) → is_branch_shape h
    ≡ false
    → do_parts b (move_to s p) (work_of h x) ≡ move_to (do_parts b s (work_of h x)) p
unfolding do_parts work_of
do_parts-move b s h x p e = simp (write_and_jump-move, do_option-move)

-- ---- a halt ----

write_all-halt : (s : State) (es : List (Reg × ℕ)) (k : Halt) → write_all (halt_by s k) es ≡ halt_by (write_all s es) k
unfolding write_all write halt_by
write_all-halt s [] k = refl
write_all-halt s (e ∷ es) k = write_all-halt (write s e.0 e.1) es k

jump_to-halt : (s : State) (j : Option ℕ) (k : Halt) → jump_to (halt_by s k) j ≡ halt_by (jump_to s j) k
unfolding jump_to halt_by after_jump
jump_to-halt s None k = refl
jump_to-halt s (Some to) k = refl

or_fault-halt : (s : State) (f : Bool) (k : Halt) → or_fault (halt_by s k) f ≡ halt_by (or_fault s f) k
unfolding or_fault halt_by
or_fault-halt s f k = refl

pub do_outstanding-halt : (s : State) (l : Outstanding) (k : Halt)
    → do_outstanding (halt_by s k) l ≡ halt_by (do_outstanding s l) k
unfolding do_outstanding access_at store_word write halt_by
do_outstanding-halt s l k = grind arith

do_option-halt : (s : State) (o : Option Outstanding) (k : Halt) → do_option (halt_by s k) o ≡ halt_by (do_option s o) k
unfolding do_option
do_option-halt s None k = refl
do_option-halt s (Some l) k = do_outstanding-halt s l k

pub do_parts-halt : (b : Bounds) (s : State) (w : Work) (k : Halt)
    → do_parts b (halt_by s k) w ≡ halt_by (do_parts b s w) k
unfolding do_parts write_and_jump
do_parts-halt b s w k = simp (write_all-halt, jump_to-halt, or_fault-halt, do_option-halt)

-- ---- a fault ----

write_all-or_fault : (s : State) (es : List (Reg × ℕ)) (f : Bool) → write_all (or_fault s f) es
    ≡ or_fault (write_all s es) f
unfolding write_all write or_fault
write_all-or_fault s [] f = refl
write_all-or_fault s (e ∷ es) f = write_all-or_fault (write s e.0 e.1) es f

jump_to-or_fault : (s : State) (j : Option ℕ) (f : Bool) → jump_to (or_fault s f) j ≡ or_fault (jump_to s j) f
unfolding jump_to or_fault after_jump
jump_to-or_fault s None f = refl
jump_to-or_fault s (Some to) f = refl

or_swap : (x y z : Bool) → ((x || y) || z) ≡ ((x || z) || y)
or_swap x y z = grind arith

or_fault-or_fault : (s : State) (f g : Bool) → or_fault (or_fault s f) g ≡ or_fault (or_fault s g) f
unfolding or_fault
or_fault-or_fault s f g = ap (λ x. record s { fault = x }) (or_swap s.fault f g)

pub do_outstanding-or_fault : (s : State) (l : Outstanding) (f : Bool)
    → do_outstanding (or_fault s f) l ≡ or_fault (do_outstanding s l) f
unfolding do_outstanding access_at store_word write or_fault
do_outstanding-or_fault s l f = grind arith

do_option-or_fault : (s : State) (o : Option Outstanding) (f : Bool) → do_option (or_fault s f) o
    ≡ or_fault (do_option s o) f
unfolding do_option
do_option-or_fault s None f = refl
do_option-or_fault s (Some l) f = do_outstanding-or_fault s l f

pub do_parts-or_fault : (b : Bounds) (s : State) (w : Work) (f : Bool) → do_parts b (or_fault s f) w
    ≡ or_fault (do_parts b s w) f
unfolding do_parts write_and_jump
do_parts-or_fault b s w f = simp (write_all-or_fault, jump_to-or_fault, or_fault-or_fault, do_option-or_fault)

-- ---- a memory write ----

write_all-store_word : (s : State) (es : List (Reg × ℕ)) (a w : ℕ) → write_all (store_word s a w) es
    ≡ store_word (write_all s es) a w
unfolding write_all write store_word
write_all-store_word s [] a w = refl
write_all-store_word s (e ∷ es) a w = write_all-store_word (write s e.0 e.1) es a w

jump_to-store_word : (s : State) (j : Option ℕ) (a w : ℕ) → jump_to (store_word s a w) j ≡ store_word (jump_to s j) a w
unfolding jump_to store_word after_jump
jump_to-store_word s None a w = refl
jump_to-store_word s (Some to) a w = refl

or_fault-store_word : (s : State) (f : Bool) (a w : ℕ) → or_fault (store_word s a w) f ≡ store_word (or_fault s f) a w
unfolding or_fault store_word
or_fault-store_word s f a w = refl

-- the outstanding reference is to another address
unfoldable pub later_touches : ℕ → Outstanding → Bool
later_touches a (Entered slot k access) = eqb k a
later_touches a (Accepted n w) = false

pub do_outstanding-store_word : (s : State) (l : Outstanding) (a w : ℕ) → later_touches a l ≡ false
    → do_outstanding (store_word s a w) l ≡ store_word (do_outstanding s l) a w
unfolding do_outstanding access_at store_word write later_touches
do_outstanding-store_word s l a w h = grind (arith, get_or-set_other, eqb-false, set_comm)

pub no_reference : (h : Shape) (x : UnitValue) → has_reference h ≡ false → reference_for h x ≡ None
unfolding reference_for has_reference
no_reference h x e = grind arith

pub write_and_jump-store_word : (b : Bounds) (s : State) (h : Shape) (x : UnitValue) (a w : ℕ)
    → write_and_jump b (store_word s a w) (work_of h x) ≡ store_word (write_and_jump b s (work_of h x)) a w
unfolding write_and_jump work_of
write_and_jump-store_word b s h x a w = simp (write_all-store_word, jump_to-store_word, or_fault-store_word)

no_rest : (b : Bounds) (s : State) (r : Option ProgramReference) → r ≡ None → do_option s (rest_of b 0 r) ≡ s
unfolding do_option relocated outstanding_of
no_rest b s r e = rw e refl

-- a reservation without a reference is done at its store event
pub do_parts-now : (b : Bounds) (s : State) (h : Shape) (x : UnitValue) → has_reference h ≡ false
    → do_parts b s (work_of h x) ≡ write_and_jump b s (work_of h x)
unfolding do_parts work_of
do_parts-now b s h x e = no_rest b _ (reference_for h x) (no_reference h x e)

pub do_parts-store_word : (b : Bounds) (s : State) (h : Shape) (x : UnitValue) (a w : ℕ) → has_reference h ≡ false
    → do_parts b (store_word s a w) (work_of h x) ≡ store_word (do_parts b s (work_of h x)) a w
do_parts-store_word b s h x a w e = simp (do_parts-now, write_and_jump-store_word)

-- ---- what stays ----

pub write_all_rest : (s : State) (es : List (Reg × ℕ))
    → write_all s es ≡ record s { registers = (write_all s es).registers }
unfolding write_all write
write_all_rest s [] = refl
write_all_rest s (e ∷ es) = write_all_rest (write s e.0 e.1) es

write_all-get : (s : State) (n : ℕ) (rs : List Reg) (r : Reg) → is_in rs r ≡ false
    → get (write_all s (each_set_to n rs)).registers r ≡ get s.registers r
unfolding write_all each_set_to is_in write
write_all-get s n [] r h = refl
write_all-get s n (t ∷ rs) r h =
    let p = or_parts (reg_eq r t) (list_any (reg_eq r) rs) h in
    write_all-get (write s t n) n rs r p.1 ∙ get-put_other s.registers t r n p.0

jump_to-registers : (s : State) (j : Option ℕ) → (jump_to s j).registers ≡ s.registers
unfolding jump_to after_jump
jump_to-registers s None = refl
jump_to-registers s (Some to) = refl

jump_to-memory : (s : State) (j : Option ℕ) → (jump_to s j).memory ≡ s.memory
unfolding jump_to after_jump
jump_to-memory s None = refl
jump_to-memory s (Some to) = refl

jump_to-halted : (s : State) (j : Option ℕ) → (jump_to s j).halt ≡ s.halt
unfolding jump_to after_jump
jump_to-halted s None = refl
jump_to-halted s (Some to) = refl

pub do_outstanding-get : (s : State) (l : Outstanding) (r : Reg) → is_in (target_of l) r ≡ false
    → get (do_outstanding s l).registers r ≡ get s.registers r
unfolding do_outstanding access_at store_word write target_of is_in returning_to returning
do_outstanding-get s l r h = grind (arith, get-put_other, or_parts)

do_option-get : (s : State) (o : Option Outstanding) (r : Reg) → is_in (targets_left o) r ≡ false
    → get (do_option s o).registers r ≡ get s.registers r
unfolding do_option targets_left
do_option-get s None r h = refl
do_option-get s (Some l) r h = do_outstanding-get s l r h

pub do_parts-get : (b : Bounds) (s : State) (h : Shape) (x : UnitValue) (r : Reg) → is_in (sets_of h) r ≡ false
    → is_in (loads_of h) r ≡ false → get (do_parts b s (work_of h x)).registers r ≡ get s.registers r
unfolding do_parts write_and_jump work_of or_fault
do_parts-get b s h x r p q = grind (arith, do_option-get, rest_targets, jump_to-registers, write_all-get)

-- whether the outstanding reference may store to the address
unfoldable pub later_stores : ℕ → Outstanding → Bool
later_stores a (Entered slot k (StoreWord w)) = eqb k a
later_stores a (Entered slot k (LoadInto n)) = false
later_stores a (Accepted n w) = false

pub do_outstanding-word : (s : State) (l : Outstanding) (a : ℕ) → later_stores a l ≡ false
    → get_or (do_outstanding s l).memory a 0 ≡ get_or s.memory a 0
unfolding do_outstanding access_at store_word write later_stores
do_outstanding-word s l a h = grind (arith, get_or-set_other, eqb-false)

pub write_and_jump-memory : (b : Bounds) (s : State) (w : Work) → (write_and_jump b s w).memory ≡ s.memory
unfolding write_and_jump or_fault
write_and_jump-memory b s w = jump_to-memory _ w.jump ∙ ap (λ y. y.memory) (write_all_rest s w.sets)

entering_stores_not : (s : State) (slot n a : ℕ) (o : Option ℕ)
    → get_or (do_option s (entering slot o (LoadInto n))).memory a 0 ≡ get_or s.memory a 0
unfolding entering do_option do_outstanding access_at write
entering_stores_not s slot n a None = refl
entering_stores_not s slot n a (Some k) = refl

rest_stores_not : (b : Bounds) (s : State) (slot a : ℕ) (h : Shape) (x : UnitValue) → has_store h ≡ false
    → get_or (do_option s (rest_of b slot (reference_for h x))).memory a 0 ≡ get_or s.memory a 0
unfolding relocated outstanding_of reference_for has_store do_option
rest_stores_not b s slot a h x e = grind (arith, entering_stores_not)

pub do_parts-word : (b : Bounds) (s : State) (h : Shape) (x : UnitValue) (a : ℕ) → has_store h ≡ false
    → get_or (do_parts b s (work_of h x)).memory a 0 ≡ get_or s.memory a 0
unfolding do_parts work_of
do_parts-word b s h x a e = rest_stores_not b _ 0 a h x e ∙ ap (λ m. get_or m a 0) (write_and_jump-memory b s _)

pub do_outstanding-halted : (s : State) (l : Outstanding) → (do_outstanding s l).halt ≡ s.halt
unfolding do_outstanding access_at store_word write
do_outstanding-halted s l = grind arith

do_option-halted : (s : State) (o : Option Outstanding) → (do_option s o).halt ≡ s.halt
unfolding do_option
do_option-halted s None = refl
do_option-halted s (Some l) = do_outstanding-halted s l

pub do_parts-halted : (b : Bounds) (s : State) (w : Work) → (do_parts b s w).halt ≡ s.halt
unfolding do_parts write_and_jump or_fault
do_parts-halted b s w =
    do_option-halted _ (rest_of b 0 w.reference) ∙ jump_to-halted _ w.jump ∙ ap (λ y. y.halt) (write_all_rest s w.sets)

pub do_outstanding-bounds : (s : State) (l : Outstanding) → bounds_of (do_outstanding s l) ≡ bounds_of s
unfolding do_outstanding access_at store_word write bounds_of
do_outstanding-bounds s l = grind (arith, length-set)

do_option-bounds : (s : State) (o : Option Outstanding) → bounds_of (do_option s o) ≡ bounds_of s
unfolding do_option
do_option-bounds s None = refl
do_option-bounds s (Some l) = do_outstanding-bounds s l

jump_to-bounds : (s : State) (j : Option ℕ) → bounds_of (jump_to s j) ≡ bounds_of s
unfolding jump_to bounds_of after_jump
jump_to-bounds s None = refl
jump_to-bounds s (Some to) = refl

pub write_and_jump-bounds : (b : Bounds) (s : State) (w : Work) → bounds_of (write_and_jump b s w) ≡ bounds_of s
unfolding write_and_jump or_fault bounds_of
write_and_jump-bounds b s w = jump_to-bounds _ w.jump ∙ ap bounds_of (write_all_rest s w.sets)

pub do_parts-bounds : (b : Bounds) (s : State) (w : Work) → bounds_of (do_parts b s w) ≡ bounds_of s
unfolding do_parts
do_parts-bounds b s w = do_option-bounds _ (rest_of b 0 w.reference) ∙ write_and_jump-bounds b s w

pub do_outstanding-position : (s : State) (l : Outstanding) → (do_outstanding s l).position ≡ s.position
unfolding do_outstanding access_at store_word write
do_outstanding-position s l = grind arith

pub do_parts-position : (b : Bounds) (s : State) (h : Shape) (x : UnitValue) → is_branch_shape h ≡ false
    → (do_parts b s (work_of h x)).position ≡ s.position
unfolding move_to
do_parts-position b s h x e = ap (λ y. y.position) (do_parts-move b s h x s.position e)

-- ---- the work of a reservation is its two parts ----

refer_at-is : (s : State) (o : Option ℕ) (access : Access) → refer_at s o access ≡ do_option s (entering 0 o access)
unfolding refer_at do_option entering do_outstanding
refer_at-is s o access = grind arith

refer-is : (b : Bounds) (s : State) (r : Option ProgramReference) → refer b s r ≡ do_option s (rest_of b 0 r)
unfolding refer relocated outstanding_of do_option
refer-is b s None = refl
refer-is b s (Some r) = refer_at-is s (absolute b r.address) r.access

pub do_work-is : (b : Bounds) (s : State) (w : Work) → do_work b s w ≡ do_parts b s w
unfolding do_work do_parts
do_work-is b s w = refer-is b (write_and_jump b s w) w.reference

by_parts : (b : Bounds) (s : State) (w : Work) (c : State → State) → do_parts b (c s) w ≡ c (do_parts b s w)
    → do_work b (c s) w ≡ c (do_work b s w)
by_parts b s w c h = do_work-is b (c s) w ∙ h ∙ ap c (sym (do_work-is b s w))

pub do_work-write : (b : Bounds) (s : State) (h : Shape) (x : UnitValue) (r : Reg) (v : ℕ)
    → is_in (sets_of h) r ≡ false → is_in (loads_of h) r ≡ false
    → do_work b (write s r v) (work_of h x) ≡ write (do_work b s (work_of h x)) r v
do_work-write b s h x r v p q = by_parts b s (work_of h x) (λ y. write y r v) (do_parts-write b s h x r v p q)

pub do_work-move : (b : Bounds) (s : State) (h : Shape) (x : UnitValue) (p : ProgramPosition) → is_branch_shape h
    ≡ false
    → do_work b (move_to s p) (work_of h x) ≡ move_to (do_work b s (work_of h x)) p
do_work-move b s h x p e = by_parts b s (work_of h x) (λ y. move_to y p) (do_parts-move b s h x p e)

pub do_work-halt : (b : Bounds) (s : State) (w : Work) (k : Halt)
    → do_work b (halt_by s k) w ≡ halt_by (do_work b s w) k
do_work-halt b s w k = by_parts b s w (λ y. halt_by y k) (do_parts-halt b s w k)

pub do_work-or_fault : (b : Bounds) (s : State) (w : Work) (f : Bool) → do_work b (or_fault s f) w
    ≡ or_fault (do_work b s w) f
do_work-or_fault b s w f = by_parts b s w (λ y. or_fault y f) (do_parts-or_fault b s w f)

pub do_work-store_word : (b : Bounds) (s : State) (h : Shape) (x : UnitValue) (a w : ℕ) → has_reference h ≡ false
    → do_work b (store_word s a w) (work_of h x) ≡ store_word (do_work b s (work_of h x)) a w
do_work-store_word b s h x a w e = by_parts b s (work_of h x) (λ y. store_word y a w)
    (do_parts-store_word b s h x a w e)

pub do_work-get : (b : Bounds) (s : State) (h : Shape) (x : UnitValue) (r : Reg) → is_in (sets_of h) r ≡ false
    → is_in (loads_of h) r ≡ false → get (do_work b s (work_of h x)).registers r ≡ get s.registers r
do_work-get b s h x r p q = ap (λ y. get y.registers r) (do_work-is b s (work_of h x)) ∙ do_parts-get b s h x r p q

pub do_work-word : (b : Bounds) (s : State) (h : Shape) (x : UnitValue) (a : ℕ) → has_store h ≡ false
    → get_or (do_work b s (work_of h x)).memory a 0 ≡ get_or s.memory a 0
do_work-word b s h x a e = ap (λ y. get_or y.memory a 0) (do_work-is b s (work_of h x)) ∙ do_parts-word b s h x a e

pub do_work-halted : (b : Bounds) (s : State) (w : Work) → (do_work b s w).halt ≡ s.halt
do_work-halted b s w = ap (λ y. y.halt) (do_work-is b s w) ∙ do_parts-halted b s w

pub do_work-bounds : (b : Bounds) (s : State) (w : Work) → bounds_of (do_work b s w) ≡ bounds_of s
do_work-bounds b s w = ap bounds_of (do_work-is b s w) ∙ do_parts-bounds b s w

pub do_work-position : (b : Bounds) (s : State) (h : Shape) (x : UnitValue) → is_branch_shape h ≡ false
    → (do_work b s (work_of h x)).position ≡ s.position
do_work-position b s h x e = ap (λ y. y.position) (do_work-is b s (work_of h x)) ∙ do_parts-position b s h x e
