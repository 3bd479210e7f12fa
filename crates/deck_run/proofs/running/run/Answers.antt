use Rattle.std.proofs.Common.{Bool, true, ◌≡◌, ◌≤◌, ℕ, List, [], ◌∷◌, ◌++◌, is_some, ◌∙◌, ap, subst, rules}
use Rattle.sequential.specs.Log.{issued}
use Rattle.sequential.specs.Replay.{LogStep, Exchanged, boot}
use Rattle.unit_workers.specs.Beginning.{IsAtRest}
use Rattle.program_order.specs.Processor.{Processor, boot_processor}
use Rattle.sequential_run.specs.Fulfilled.{IsFulfilled}
use Rattle.job_deck.specs.Running.{asks_after}
use Rattle.sequential_run.specs.Run.{is_over}
use Rattle.sequential_run.specs.Turns.{is_in_mid_word}
use Rattle.sequential_run.proofs.Ending.{run_on}
use Rattle.deck_run.proofs.running.run.Goals as goal

booted_memory : (w : Processor) (memory : List ℕ) (budget : ℕ) → w ≡ boot_processor memory budget
    → w.boot_memory ≡ memory
unfolding boot_processor
booted_memory w memory budget h = ap (λ (x : Processor). x.boot_memory) h

booted_budget : (w : Processor) (memory : List ℕ) (budget : ℕ) → w ≡ boot_processor memory budget → w.budget ≡ budget
unfolding boot_processor
booted_budget w memory budget h = ap (λ (x : Processor). x.budget) h

booted_log : (w : Processor) (memory : List ℕ) (budget : ℕ) → w ≡ boot_processor memory budget → w.log ≡ []
unfolding boot_processor
booted_log w memory budget h = ap (λ (x : Processor). x.log) h

booted_rests : (w : Processor) (memory : List ℕ) (budget : ℕ) → w ≡ boot_processor memory budget → IsAtRest w
unfolding boot_processor boot
booted_rests w memory budget h = record {
  pending = ap (λ (x : Processor). x.pending) h;
  request = ap (λ (x : Processor). x.request) h;
  halted = ap (λ (x : Processor). is_some x.state.halt) h;
}

-- if a log begins with no steps and an exchange, it begins with that exchange
begins_with : (log before : List LogStep) (n start : ℕ) → before ≡ [] → n ≡ start
    → (rest : List LogStep) × (log ≡ (before ++ Exchanged n ∷ []) ++ rest)
    → (more : List LogStep) × (log ≡ Exchanged start ∷ more)
begins_with log before n start b e h =
    (h.0, h.1 ∙ ap (λ l. (l ++ Exchanged n ∷ []) ++ h.0) b ∙ ap (λ k. Exchanged k ∷ h.0) e)

-- the requests of the orders are the requests of the deck
fulfilled_as : (start other : ℕ) (after asks : List (ℕ × ℕ)) (free spare : List ℕ) (in_mid_word : Bool)
    (log : List LogStep) → start ≡ other → after ≡ asks → free ≡ spare
    → IsFulfilled start after free in_mid_word log → IsFulfilled other asks spare in_mid_word log
fulfilled_as start other after asks free spare in_mid_word log s a f h =
    subst (λ n. IsFulfilled n asks spare in_mid_word log) s
    (subst (λ l. IsFulfilled start l spare in_mid_word log) a
    (subst (λ l. IsFulfilled start after l in_mid_word log) f h))

-- the snapshot's boot memory is the machine's, so it is the deck's; its budget is the machine's too
pub returns-in-Ok-run_threads-clause-ran : goal.returns-in-Ok-run_threads-clause-ran
returns-in-Ok-run_threads-clause-ran g c =
    let ended = c.in-Ok-run_threads.ensures in
    let booted = c.in-Ok.ensures.machine in
    run_on c.args.deck.now.image.memory c.in-Ok-run_threads.ended.snapshot.boot_memory c.args.deck.now.start
    (asks_after c.args.deck.now) c.args.deck.now.free c.args.budget _ _ (ended.memory ∙ booted_memory _ _ _ booted)
    (begins_with _ _ _ _ (booted_log _ _ _ booted) c.in-Ok.ensures.start (ended.start (booted_rests _ _ _ booted)))
    (fulfilled_as c.in-Ok.orders.start c.args.deck.now.start c.in-Ok.orders.after.items (asks_after c.args.deck.now)
    c.in-Ok.orders.free.items c.args.deck.now.free
    (is_in_mid_word c.in-Ok-run_threads.ended.snapshot.state) c.in-Ok-run_threads.ended.snapshot.log
    c.in-Ok.ensures.start c.in-Ok.ensures.after c.in-Ok.ensures.free
    (ended.requests (booted_rests _ _ _ booted) (booted_log _ _ _ booted)))
    (subst (λ (n : ℕ). issued c.in-Ok-run_threads.ended.snapshot.log ≤ n) (booted_budget _ _ _ booted)
    ended.within)
    (subst (λ (n : ℕ). is_over c.in-Ok-run_threads.ended.snapshot.state c.in-Ok-run_threads.ended.snapshot.log n ≡ true)
    (ended.budget ∙ booted_budget _ _ _ booted) ended.end)
    (search rules)

pub returns-in-Ok-run_threads-clause-budget : goal.returns-in-Ok-run_threads-clause-budget
returns-in-Ok-run_threads-clause-budget g c =
    c.in-Ok-run_threads.ensures.budget ∙ booted_budget _ _ _ c.in-Ok.ensures.machine
