-- An issue is a step of the completed state.
use Rattle.std.specs.Prelude.{option_and_then, ◌&&◌, is_none}
use Rattle.scoreboard.specs.Reservations as board
use Rattle.in_flight.specs.Pending.{delays_fetch, awaited, entered_in, is_branch, is_entered, to_come}
use Rattle.in_flight.proofs.asking.PendingReservations.{comes}
use Rattle.std.proofs.Common.{◌≡◌, ℕ, false, List, [], ◌∷◌, ◌++◌, Option, Some, None, refl, ap, ◌∙◌, arith}
use Rattle.std.specs.List.{list_any}
use Rattle.instructions.proofs.Lists.{each_of_any, any_of_each, each_both, pairs_push}
use Rattle.program_order.proofs.Opened.{results_to_come}
use Rattle.program_order.proofs.effects.Completing.{IsNoBranch, each_no_branch, complete-append, complete-bounds}
use Rattle.program_order.proofs.effects.Completing.{complete-halted, complete-position, complete-move, complete-halt}
use Rattle.program_order.proofs.effects.Completing.{complete-word}
use Rattle.program_order.proofs.theorem.Apart.{each_swap, not_awaited}
use Rattle.instructions.specs.RegisterLists.{is_in, overlap}
use Rattle.instructions.specs.Shape.{results, shape_of}
use Rattle.instructions.specs.declared.refusal.Halt.{Halt}
use Rattle.in_flight.proofs.asking.Phases.{stores_nothing, may_store, to_come_in}
use Rattle.instructions.specs.Each.{Each, Pairs}
use Rattle.program_order.specs.Complete.{complete, finish_effects, run_phase, value_at}
use Rattle.in_flight.specs.Apart.{IsApart}
use Rattle.program_order.specs.Issue.{fetch_waits, waits_at}
use Rattle.in_flight.specs.declared.pending.Pending.{Pending}
use Rattle.in_flight.specs.declared.pending.Phase.TheVariants.{Before}
use Rattle.in_flight.specs.declared.pending.Stage.TheVariants.{Unread}
use Rattle.sequential.specs.Replay.{LogStep, do_log_step, replay}
use Rattle.sequential.specs.State.{Bounds, absolute, bounds_of, halt_by, move_to}
use Rattle.sequential.specs.Step.{do_fetched, do_instruction, fetch, fetched_from, step, step_unless, word_at}
use Rattle.sequential.specs.Step.{word_seen}
use Rattle.sequential.specs.declared.position.ProgramPosition.{ProgramPosition}
use Rattle.sequential.specs.declared.state.State.{State}

word_at-same : (b : Bounds) (s : State) (ms : List Pending) (o : Option ℕ) → list_any is_branch ms ≡ false
    → waits_at o ms ≡ false → word_at (complete b s ms).memory o ≡ word_at s.memory o
unfolding word_at waits_at
word_at-same b s ms None nb h = refl
word_at-same b s ms (Some a) nb h =
    ap Some (complete-word b s ms a
    (each_both (λ m. delays_fetch a m ≡ false) (λ m. is_branch m ≡ false) (λ m. may_store a m ≡ false)
    (λ m i j. stores_nothing a m i j) ms
    (each_of_any (delays_fetch a) (λ m. delays_fetch a m ≡ false) (λ m k. k) ms h) (each_no_branch ms nb)))

word_seen-same : (b : Bounds) (s : State) (ms : List Pending) (p : ℕ) (held : Option ℕ) → list_any is_branch ms ≡ false
    → (is_none held && waits_at (absolute b p) ms) ≡ false
    → word_seen b (complete b s ms).memory p held ≡ word_seen b s.memory p held
unfolding word_seen
word_seen-same b s ms p (Some w) nb h = refl
word_seen-same b s ms p None nb h = word_at-same b s ms (absolute b p) nb h

-- if the fetch needn't wait, no pending instruction changes the fetched word
pub fetch-same : (b : Bounds) (s : State) (ms : List Pending) (position : ProgramPosition) → list_any is_branch ms
    ≡ false
    → fetch_waits b position ms ≡ false → fetch b (complete b s ms).memory position ≡ fetch b s.memory position
unfolding fetch fetch_waits
fetch-same b s ms position nb h = ap (fetched_from position.p position.parcel)
    (word_seen-same b s ms position.p position.held nb h)

step_from : (s : State) (b : Bounds) (position : ProgramPosition) → s.halt ≡ None → bounds_of s ≡ b → s.position
    ≡ position
    → step s ≡ do_fetched b s position.p (fetch b s.memory position)
unfolding step step_unless
step_from s b position h e f = cc

-- the completed state fetches the same instruction as the present state
pub step-complete : (s : State) (ms : List Pending) → s.halt ≡ None → list_any is_branch ms ≡ false
    → fetch_waits (bounds_of s) s.position ms ≡ false
    → step (complete (bounds_of s) s ms)
    ≡ do_fetched (bounds_of s) (complete (bounds_of s) s ms) s.position.p (fetch (bounds_of s) s.memory s.position)
step-complete s ms h nb w =
    step_from (complete (bounds_of s) s ms) (bounds_of s) s.position
    (complete-halted (bounds_of s) s ms ∙ h) (complete-bounds (bounds_of s) s ms)
    (complete-position (bounds_of s) s ms (each_no_branch ms nb))
    ∙ ap (do_fetched (bounds_of s) (complete (bounds_of s) s ms) s.position.p)
    (fetch-same (bounds_of s) s ms s.position nb w)

pub issue_halting : (b : Bounds) (s : State) (ms : List Pending) (position : ProgramPosition) (k : Halt)
    → list_any is_branch ms ≡ false
    → complete b (halt_by (move_to s position) k) ms ≡ halt_by (move_to (complete b s ms) position) k
issue_halting b s ms position k nb = simp (complete-halt, complete-move, each_no_branch)

pub issue_taking : (b : Bounds) (s : State) (ms : List Pending) (position : ProgramPosition) (m : Pending)
    → m.phase ≡ Before Unread → list_any is_branch ms ≡ false
    → complete b (move_to s position) (ms ++ m ∷ []) ≡ do_instruction b
    (move_to (complete b s ms) position) m.instr m.at
unfolding complete finish_effects run_phase value_at do_instruction
issue_taking b s ms position m e nb = grind (arith, complete-append, complete-move, each_no_branch)

-- a new instruction is apart from the earlier ones
pub new_apart : (ms : List Pending) (m : Pending) → m.phase ≡ Before Unread → list_any is_branch ms ≡ false
    → list_any (awaited ms) (results (shape_of m.instr)) ≡ false → Pairs IsApart ms → Pairs IsApart (ms ++ m ∷ [])
unfolding comes board.comes results_to_come overlap is_entered entered_in
new_apart ms m e nb h apart =
    pairs_push IsApart ms m apart
    (each_both (λ y. Each (λ r. is_in (to_come y) r ≡ false) (results (shape_of m.instr))) IsNoBranch (λ y. IsApart y m)
    (λ y k n. grind (arith, to_come_in, any_of_each))
    ms (search (arith, each_swap, not_awaited)) (each_no_branch ms nb))

and_then-Some : (o : Option State) → option_and_then (λ t. Some t) o ≡ o
and_then-Some None = refl
and_then-Some (Some s) = refl

pub replay-push : (s : State) (xs : List LogStep) (x : LogStep)
    → replay s (xs ++ x ∷ []) ≡ option_and_then (λ t. do_log_step t x) (replay s xs)
unfolding replay
replay-push s [] x = and_then-Some (do_log_step s x)
replay-push s (y ∷ xs) x = after (do_log_step s y) (λ t. replay-push t xs x)
  where
    after : (o : Option State) → ((t : State)
        → replay t (xs ++ x ∷ []) ≡ option_and_then (λ u. do_log_step u x) (replay t xs))
        → option_and_then (λ t. replay t
        (xs ++ x ∷ [])) o ≡ option_and_then (λ t. do_log_step t x) (option_and_then (λ t. replay t xs) o)
    after None ih = refl
    after (Some t) ih = ih t

-- one more step after a replay
pub replay_more : (s t : State) (xs : List LogStep) (x : LogStep) → replay s xs ≡ Some t
    → replay s (xs ++ x ∷ []) ≡ do_log_step t x
replay_more s t xs x h = replay-push s xs x ∙ ap (λ o. option_and_then (λ u. do_log_step u x) o) h
