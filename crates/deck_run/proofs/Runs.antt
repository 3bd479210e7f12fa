-- The end of a deck's run, and the end if no deck could be read.
use Rattle.std.proofs.Common.{◌≡◌, List, ℕ, Option, Err, true, false, refl, inl, inr}
use Rattle.std.proofs.KnownBytes.{Keeps-refl}
use Rattle.instructions.specs.declared.refusal.Refusal.{Refusal}
use Rattle.instructions.specs.declared.refusal.Refusal.TheVariants as refusals
use Rattle.device_text.specs.Device.{Moves}
use Rattle.device_text.proofs.Moving.{Moves-weaker}
use Rattle.deck.specs.Deck.{Reading, deck}
use Rattle.deck.specs.Reading.{GivesNoDeck, is_of_reading, is_read_failure}
use Rattle.deck.specs.declared.deck.Deck.{Deck}
use Rattle.operator_terms.specs.declared.fault.ProgramFault.{ProgramFault}
use Rattle.deck_run.specs.Running.{Runs, is_read_fault, is_write_fault}
use Rattle.operator_terms.specs.Status.{fault_of}

refused_there : (e : Refusal) (reading : Reading) (budget : ℕ) (rest : List ℕ) (old : Option (List ℕ))
    → GivesNoDeck e reading rest → Runs (Err (fault_of e)) reading budget rest old old
refused_there e reading budget rest old (inl h) = rw h.2 (h.3, Keeps-refl old)
refused_there e reading budget rest old (inr (inl h)) = rw h (Keeps-refl old)
refused_there e reading budget rest old (inr (inr h)) = rw h (Keeps-refl old)

pub runs_refused : (a b : Option (List ℕ)) (e : Refusal) (fault : ProgramFault) (budget : ℕ) (old : Option (List ℕ))
    → fault ≡ fault_of e → Moves a b (λ xs ys. GivesNoDeck e (deck xs) ys)
    → Moves a b (λ xs ys. Runs (Err fault) (deck xs) budget ys old old)
runs_refused a b e fault budget old same m =
    Moves-weaker a b (λ xs ys. GivesNoDeck e (deck xs) ys) (λ xs ys. Runs (Err fault) (deck xs) budget ys old old)
    (λ xs ys h. rw same (refused_there e (deck xs) budget ys old h)) m

-- if no deck was read, the program reports a failed read exactly if a read failed
pub read_told : (e : Refusal) → is_read_failure {T = Deck × ℕ} (Err e) ≡ is_read_fault (Err (fault_of e))
read_told refusals.Read = refl
read_told other = refl

-- if no deck was read, the program never reports a failed write
pub unwritten : (e : Refusal) → is_of_reading {T = Deck × ℕ} (Err e) ≡ true → is_write_fault (Err (fault_of e)) ≡ false
unwritten refusals.Write h = cc
unwritten other h = refl
