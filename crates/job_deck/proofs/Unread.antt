-- The answers if no deck was read.
use Rattle.std.proofs.Common.{ℕ, List, Option, Err, inl, inr}
use Rattle.std.proofs.KnownBytes.{Keeps-refl}
use Rattle.instructions.specs.declared.refusal.Refusal.{Refusal}
use Rattle.device_text.specs.Device.{Moves}
use Rattle.device_text.proofs.Moving.{Moves-weaker}
use Rattle.deck.specs.Deck.{Reading, deck}
use Rattle.deck.specs.Reading.{GivesNoDeck}
use Rattle.job_deck.specs.Running.{RunsSequentially}

runs_there : (e : Refusal) (reading : Reading) (budget : ℕ) (rest : List ℕ) (old : Option (List ℕ))
    → GivesNoDeck e reading rest → RunsSequentially (Err e) reading budget rest old old
runs_there e reading budget rest old (inl h) = rw h.2 (h.3, Keeps-refl old)
runs_there e reading budget rest old (inr (inl h)) = rw h (Keeps-refl old)
runs_there e reading budget rest old (inr (inr h)) = rw h (Keeps-refl old)

pub runs_refused : (a b : Option (List ℕ)) (e : Refusal) (budget : ℕ) (old : Option (List ℕ))
    → Moves a b (λ xs ys. GivesNoDeck e (deck xs) ys)
    → Moves a b (λ xs ys. RunsSequentially (Err e) (deck xs) budget ys old old)
runs_refused a b e budget old m =
    Moves-weaker a b (λ xs ys. GivesNoDeck e (deck xs) ys)
    (λ xs ys. RunsSequentially (Err e) (deck xs) budget ys old old)
    (λ xs ys h. runs_there e (deck xs) budget ys old h) m
