-- A change that no pending instruction touches has the same effect before and after all of them.
use Rattle.scoreboard.specs.Reservations as board
use Rattle.in_flight.specs.Pending.{is_branch, to_come}
use Rattle.in_flight.proofs.asking.PendingReservations.{comes, reads}
use Rattle.program_order.proofs.Opened.{results_to_come}
use Rattle.sequential.specs.Position.{after_jump}
use Rattle.in_flight.proofs.asking.Phases.{may_store}
use Rattle.std.proofs.Common.{◌≡◌, ℕ, false, List, [], ◌∷◌, ◌++◌, Option, Some, None, refl, ap, ◌∙◌, get_or, arith}
use Rattle.std.proofs.lemmas.Bool.{or_parts}
use Rattle.std.specs.List.{list_any}
use Rattle.program_order.proofs.effects.OnePending.{finish_effects-write, finish_effects-move, finish_effects-halt}
use Rattle.program_order.proofs.effects.OnePending.{finish_effects-or_fault, touches, finish_effects-store_word}
use Rattle.program_order.proofs.effects.OnePending.{finish_effects-get, finish_effects-word, finish_effects-halted}
use Rattle.program_order.proofs.effects.OnePending.{finish_effects-bounds, finish_effects-position}
use Rattle.instructions.specs.RegisterLists.{is_in}
use Rattle.instructions.specs.Shape.{Shape, sets_of}
use Rattle.instructions.specs.declared.instr.Reg.{Reg}
use Rattle.instructions.specs.declared.refusal.Halt.{Halt}
use Rattle.instructions.specs.Each.{Each}
use Rattle.instructions.proofs.Lists.{each_map}
use Rattle.program_order.specs.Complete.{complete, finish_effects}
use Rattle.in_flight.specs.declared.pending.Pending.{Pending}
use Rattle.registers.specs.Registers.{get}
use Rattle.sequential.specs.State.{Bounds, bounds_of, jump_to, halt_by, or_fault, move_to, store_word, write, write_all}
use Rattle.sequential.specs.Work.{write_and_jump, fault_of, reference_for, each_set_to, work_of}
use Rattle.sequential.specs.declared.position.ProgramPosition.{ProgramPosition}
use Rattle.sequential.specs.declared.state.State.{State}
use Rattle.unit_ops.specs.declared.UnitValue.{UnitValue}

-- the change has the same effect before and after the instruction
abbrev pub Commutes : Bounds → (State → State) → Pending → Type 0
Commutes b c m = (s : State) → finish_effects b (c s) m ≡ c (finish_effects b s m)

pub complete-append : (b : Bounds) (s : State) (ms ns : List Pending)
    → complete b s (ms ++ ns) ≡ complete b (complete b s ms) ns
unfolding complete
complete-append b s [] ns = refl
complete-append b s (m ∷ ms) ns = complete-append b (finish_effects b s m) ms ns

pub complete-change : (b : Bounds) (c : State → State) (ms : List Pending) → Each (Commutes b c) ms → (s : State)
    → complete b (c s) ms ≡ c (complete b s ms)
unfolding complete
complete-change b c [] h s = refl
complete-change b c (m ∷ ms) h s = ap (λ x. complete b x ms) (h.0 s) ∙ complete-change b c ms h.1 (finish_effects b s m)

-- a value that each instruction leaves unchanged is unchanged by all
pub complete-keeps : {K : Type 0} (b : Bounds) (f : State → K) (ms : List Pending)
    → Each (λ m. (s : State) → f (finish_effects b s m) ≡ f s) ms → (s : State) → f (complete b s ms) ≡ f s
unfolding complete
complete-keeps b f [] h s = refl
complete-keeps b f (m ∷ ms) h s = complete-keeps b f ms h.1 (finish_effects b s m) ∙ h.0 s

-- ---- the facts on pending instructions, as tests ----

pub each_all : {K : Type 0} (P : K → Type 0) → ((x : K) → P x) → (xs : List K) → Each P xs
each_all P f [] = tt
each_all P f (x ∷ xs) = (f x, each_all P f xs)

pub complete-bounds : (b : Bounds) (s : State) (ms : List Pending) → bounds_of (complete b s ms) ≡ bounds_of s
complete-bounds b s ms = complete-keeps b bounds_of ms (each_all _ (λ m x. finish_effects-bounds b x m) ms) s

pub complete-halted : (b : Bounds) (s : State) (ms : List Pending) → (complete b s ms).halt ≡ s.halt
complete-halted b s ms = complete-keeps b (λ x. x.halt) ms (each_all _ (λ m x. finish_effects-halted b x m) ms) s

-- the instruction is no branch
abbrev pub IsNoBranch : Pending → Type 0
IsNoBranch m = is_branch m ≡ false

pub each_no_branch : (ms : List Pending) → list_any is_branch ms ≡ false → Each IsNoBranch ms
each_no_branch [] h = tt
each_no_branch (m ∷ ms) h = let p = or_parts (is_branch m) (list_any is_branch ms) h in (p.0, each_no_branch ms p.1)

pub complete-position : (b : Bounds) (s : State) (ms : List Pending) → Each IsNoBranch ms
    → (complete b s ms).position ≡ s.position
complete-position b s ms h =
    complete-keeps b (λ x. x.position) ms (each_map IsNoBranch _ (λ m e x. finish_effects-position b x m e) ms h) s

pub complete-move : (b : Bounds) (s : State) (ms : List Pending) (k : ProgramPosition) → Each IsNoBranch ms
    → complete b (move_to s k) ms ≡ move_to (complete b s ms) k
complete-move b s ms k h =
    complete-change b (λ x. move_to x k) ms (each_map IsNoBranch _ (λ m e x. finish_effects-move b x m k e) ms h) s

pub complete-halt : (b : Bounds) (s : State) (ms : List Pending) (k : Halt)
    → complete b (halt_by s k) ms ≡ halt_by (complete b s ms) k
complete-halt b s ms k = complete-change b (λ x. halt_by x k) ms (each_all _ (λ m x. finish_effects-halt b x m k) ms) s

-- a word to which no instruction stores
pub complete-word : (b : Bounds) (s : State) (ms : List Pending) (a : ℕ) → Each (λ m. may_store a m ≡ false) ms
    → get_or (complete b s ms).memory a 0 ≡ get_or s.memory a 0
complete-word b s ms a h = complete-keeps b (λ x. get_or x.memory a 0) ms
    (each_map (λ m. may_store a m ≡ false) _ (λ m e x. finish_effects-word b x m a e) ms h) s

-- a register that is no result still to come
pub complete-get : (b : Bounds) (s : State) (ms : List Pending) (r : Reg) → Each (λ m. comes r m ≡ false) ms
    → get (complete b s ms).registers r ≡ get s.registers r
unfolding comes board.comes results_to_come
complete-get b s ms r h = complete-keeps b (λ x. get x.registers r) ms
    (each_map (λ m. is_in (to_come m) r ≡ false) _ (λ m e x. finish_effects-get b x m r e) ms h) s

pub complete-store_word : (b : Bounds) (s : State) (ms : List Pending) (a w : ℕ) → Each (λ m. touches a m ≡ false) ms
    → complete b (store_word s a w) ms ≡ store_word (complete b s ms) a w
complete-store_word b s ms a w h = complete-change b (λ x. store_word x a w) ms
    (each_map (λ m. touches a m ≡ false) _ (λ m e x. finish_effects-store_word b x m a w e) ms h) s

-- the register is neither a result still to come nor a source still to be read
pub record IsFree (r : Reg) (m : Pending) : Type 0 where
  pub not_to_come : is_in (to_come m) r ≡ false
  pub not_read : is_in (reads m) r ≡ false

pub complete-write : (b : Bounds) (s : State) (ms : List Pending) (r : Reg) (v : ℕ) → Each (IsFree r) ms
    → complete b (write s r v) ms ≡ write (complete b s ms) r v
complete-write b s ms r v h =
    complete-change b (λ x. write x r v) ms
    (each_map (IsFree r) _ (λ m e x. finish_effects-write b x m r v e.not_to_come e.not_read) ms h) s

-- ---- what the store event does at once ----

complete-write_all : (b : Bounds) (s : State) (ms : List Pending) (n : ℕ) (rs : List Reg)
    → Each (λ r. Each (IsFree r) ms) rs
    → complete b (write_all s (each_set_to n rs)) ms ≡ write_all (complete b s ms) (each_set_to n rs)
unfolding write_all each_set_to
complete-write_all b s ms n [] h = refl
complete-write_all b s ms n (r ∷ rs) h = grind (arith, complete-write_all b (write s r n) ms n rs h.1, complete-write)

complete-jump_to : (b : Bounds) (s : State) (ms : List Pending) (j : Option ℕ) → Each IsNoBranch ms
    → complete b (jump_to s j) ms ≡ jump_to (complete b s ms) j
unfolding jump_to move_to after_jump
complete-jump_to b s ms None h = refl
complete-jump_to b s ms (Some to) h = complete-move b s ms (record { p = to; parcel = 0; held = None }) h

pub complete-now : (b d : Bounds) (s : State) (ms : List Pending) (h : Shape) (x : UnitValue) → Each IsNoBranch ms
    → Each (λ r. Each (IsFree r) ms) (sets_of h)
    → complete b (write_and_jump d s (work_of h x)) ms ≡ write_and_jump d (complete b s ms) (work_of h x)
unfolding write_and_jump work_of
complete-now b d s ms h x nb free =
    complete-change b (λ y. or_fault y (fault_of d (reference_for h x))) ms
    (each_all _ (λ m y. finish_effects-or_fault b y m _) ms) _
    ∙ ap (λ y. or_fault y (fault_of d (reference_for h x)))
    (grind (arith, complete-jump_to, complete-write_all))
