use Rattle.std.proofs.Common.{◌≡◌, ℕ, false, List, ◌∷◌, [], Some, ap, replicate, sym, ◌∙◌}
use Rattle.std.specs.Prelude.{IfOk, MatchResult, Result, Ok, Err}
use Rattle.instructions.specs.declared.refusal.Refusal.{Refusal}
use Rattle.in_flight.specs.Lookup.{is_pending}
use Rattle.sequential.specs.Replay.{boot, replay}
use Rattle.program_order.specs.declared.event.Done.{Done}
use Rattle.program_order.specs.declared.event.Done.TheVariants.{Made}
use Rattle.program_order.specs.declared.event.Event.{Event}
use Rattle.program_order.specs.declared.event.Event.TheVariants.{Ask, Exchange, Issue}
use Rattle.program_order.specs.Headline.{log_of}
use Rattle.program_order.specs.SnapshotView.{Snapped}
use Rattle.program_order.specs.Processor.{Processor}
use Rattle.machine_tests.proofs.reached_tests.shown.Goals as goal

-- the contents of a snapshot, for a machine whose boot memory and log are known
taken : (r : Result Snapped Refusal) (w : Processor) (memory : List ℕ) (more : List Event)
    (answers : List (Result Done Refusal)) (Q : Refusal → Type 0)
    → MatchResult r (λ s. (is_pending w.pending ≡ false) × (s.state ≡ w.state) × (s.log ≡ w.log)
    × (s.boot_memory ≡ w.boot_memory)) Q
    → IfOk r (λ s. replay (boot s.boot_memory) s.log ≡ Some s.state)
    → w.boot_memory ≡ memory → w.log ≡ log_of (Ask 32 ∷ Exchange ∷ Issue ∷ more) answers
    → IfOk r (λ s. (s.boot_memory ≡ memory) × (replay (boot memory) s.log ≡ Some s.state)
    × ((ys : List Event) × ((zs : List (Result Done Refusal))
    × (s.log ≡ log_of (Ask 32 ∷ Exchange ∷ Issue ∷ ys) zs))))
taken (Ok s) w memory more answers Q t p b l =
    let e = t.3 ∙ b in (e, ap (λ m. replay (boot m) s.log) (sym e) ∙ p, (more, (answers, t.2 ∙ l)))
taken (Err k) w memory more answers Q t p b l = tt

pub returns : goal.returns
returns c =
    let asked = c.apply.ensures.reached c.args.memory 100 [] [] c.in-Ok.ensures.reached in
    let exchanged = c.apply-2.ensures.reached c.args.memory 100 (Ask 32 ∷ []) (c.apply.result ∷ []) asked in
    let issued = c.apply-3.ensures.reached c.args.memory 100 (Ask 32 ∷ Exchange ∷ [])
    (c.apply.result ∷ c.apply-2.result ∷ []) exchanged in
    let given = c.seats.ensures.reached c.args.memory 100 (Ask 32 ∷ Exchange ∷ Issue ∷ [])
    (c.apply.result ∷ c.apply-2.result ∷ c.apply-3.result ∷ []) issued in
    let drained = c.drain.ensures.reached c.args.memory 100 (Ask 32 ∷ Exchange ∷ Issue ∷ [])
    (c.apply.result ∷ c.apply-2.result ∷ c.apply-3.result ∷ []) given in
    let answers = c.apply.result ∷ c.apply-2.result ∷ c.apply-3.result ∷ replicate c.drain.result (Ok Made) in
    let faithful = c.what_is_reached_is_faithful.ensures c.args.memory 100 (Ask 32 ∷ Exchange ∷ Issue ∷ drained.more)
    answers c.drain.new.self drained.reached in
    taken c.snapshot.result c.drain.new.self c.args.memory drained.more answers _ c.snapshot.ensures.taken
    c.snapshot.ensures.replay faithful.boot_memory faithful.log
