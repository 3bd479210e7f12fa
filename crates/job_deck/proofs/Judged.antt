-- A run of a judged deck reaches no exchange whose sixteen words aren't within memory.
use Rattle.std.proofs.Common.{◌≡◌, ℕ, List, length, true, Option, Result, Ok, Err, refl}
use Rattle.std.proofs.lemmas.List.Elements.{All-map}
use Rattle.deck.specs.Deck.{Good, deck}
use Rattle.deck.specs.declared.deck.Deck.{Deck}
use Rattle.relocation.specs.Relocation.{package_fits}
use Rattle.device_text.specs.Device.{Moves}
use Rattle.device_text.proofs.Moving.{Moves-weaker}
use Rattle.instructions.specs.declared.refusal.Refusal.{Refusal}
use Rattle.instructions.specs.declared.refusal.Refusal.TheVariants as refusals
use Rattle.sequential.specs.declared.state.State.{State}
use Rattle.sequential_run.specs.Run.{IsUnfitRun}
use Rattle.job_deck.specs.Running.{PrintsSequentialRun, RunsSequentially, asks_after}
use Rattle.job_deck.proofs.Fitting.{deck_fits}
use Rattle.job_deck.proofs.Unfit.{never_unfit}

judged_fits : (bytes : List ℕ) (d : Deck) (n : ℕ) (rest : List ℕ) (budget : ℕ) → deck bytes ≡ Good d n rest
    → IsUnfitRun d.image.memory d.start (asks_after d) d.free budget → ⊥
judged_fits bytes d n rest budget e =
    let fit = deck_fits bytes d n rest e in
    never_unfit d.image.memory d.start (asks_after d) d.free budget fit.start
    (All-map (λ ask. package_fits ask.0 (length d.image.memory) ≡ true) (λ ask. (ask.at, ask.after)) d.asks fit.asks)
    fit.free

-- the output for a deck that was read is the output for its bytes
runs_good : (r : Result State Refusal) (bytes : List ℕ) (d : Deck) (n : ℕ) (rest : List ℕ) (budget : ℕ)
    (old new : Option (List ℕ)) → deck bytes ≡ Good d n rest → PrintsSequentialRun r d budget old new
    → RunsSequentially r (deck bytes) budget rest old new
runs_good (Ok s) bytes d n rest budget old new e p = rw e (refl, p)
runs_good (Err refusals.Write) bytes d n rest budget old new e p = rw e (refl, p)
runs_good (Err refusals.OutOfMemory) bytes d n rest budget old new e p = p.1
runs_good (Err refusals.PackageRange) bytes d n rest budget old new e p =
    judged_fits bytes d n rest budget e p.0
runs_good (Err other) bytes d n rest budget old new e p = absurd p.0

pub runs_of_deck : (a b : Option (List ℕ)) (r : Result State Refusal) (d : Deck) (n budget : ℕ)
    (old new : Option (List ℕ)) → Moves a b (λ xs ys. deck xs ≡ Good d n ys) → PrintsSequentialRun r d budget old new
    → Moves a b (λ xs ys. RunsSequentially r (deck xs) budget ys old new)
runs_of_deck a b r d n budget old new m p =
    Moves-weaker a b (λ xs ys. deck xs ≡ Good d n ys) (λ xs ys. RunsSequentially r (deck xs) budget ys old new)
    (λ xs ys h. runs_good r xs d n ys budget old new h p) m
