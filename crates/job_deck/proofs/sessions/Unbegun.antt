-- The answers if no deck was read or no machine booted.
use Rattle.std.proofs.Common.{◌≡◌, ◌∙◌, ◌⊎◌, ℕ, true, false, Result, List, length, Option, None, Some, Err, inl, inr}
use Rattle.std.proofs.Common.{refl, ap, arith}
use Rattle.std.proofs.KnownBytes.{Keeps-refl}
use Rattle.instructions.specs.declared.refusal.Refusal.{Refusal}
use Rattle.instructions.specs.declared.refusal.Refusal.TheVariants as refusals
use Rattle.device_text.specs.Device.{Moves}
use Rattle.device_text.proofs.Moving.{Moves-trans, Moves-weaker}
use Rattle.deck.specs.Deck.{Bad, Good, Reading, deck}
use Rattle.deck.specs.Reading.{EndsWithin, GivesNoDeck, is_cut, is_of_reading}
use Rattle.deck.specs.declared.deck.Deck.{Deck}
use Rattle.job_deck.specs.Listing.{Lists, is_write_failure}
use Rattle.job_deck.specs.Replaying.{Replays, ReplaysFollowing}
use Rattle.log_text.specs.FollowingLog.{ReadsWithinLine}
use Rattle.job_deck.specs.SessionResult.{Performs}

-- no write failed if no deck was read
no_write : (U : Type 0) (e : Refusal) → is_of_reading {T = Deck × ℕ} (Err e) ≡ true
    → is_write_failure {T = U} (Err e) ≡ false
no_write U refusals.Write h = cc
no_write U other h = refl

pub unwritten : {U : Type 0} (r : Result U Refusal) (y e : Refusal) → r ≡ Err y → y ≡ e
    → is_of_reading {T = Deck × ℕ} (Err e) ≡ true → is_write_failure r ≡ false
unwritten {U = U} r y e p q h =
    ap (λ x. is_write_failure x) p ∙ ap (λ x. is_write_failure {T = U} (Err x)) q ∙ no_write U e h

-- ---- a listing

lists_there : (e : Refusal) (reading : Reading) (rest : List ℕ) (old : Option (List ℕ)) → GivesNoDeck e reading rest
    → Lists (Err e) reading rest old old
lists_there e reading rest old (inl h) = rw h.2 (h.3, Keeps-refl old)
lists_there e reading rest old (inr (inl h)) = rw h (Keeps-refl old)
lists_there e reading rest old (inr (inr h)) = rw h (Keeps-refl old)

pub lists_refused : (a b : Option (List ℕ)) (e : Refusal) (old : Option (List ℕ))
    → Moves a b (λ xs ys. GivesNoDeck e (deck xs) ys) → Moves a b (λ xs ys. Lists (Err e) (deck xs) ys old old)
lists_refused a b e old m =
    Moves-weaker a b (λ xs ys. GivesNoDeck e (deck xs) ys) (λ xs ys. Lists (Err e) (deck xs) ys old old)
    (λ xs ys h. lists_there e (deck xs) ys old h) m

-- ---- a replay

replays_there : (e : Refusal) (reading : Reading) (rest text : List ℕ) (old : Option (List ℕ))
    → GivesNoDeck e reading rest → Replays (Err e) reading rest text old old
replays_there e reading rest text old (inl h) = rw h.2 (h.3, Keeps-refl old)
replays_there e reading rest text old (inr (inl h)) = rw h (Keeps-refl old)
replays_there e reading rest text old (inr (inr h)) = rw h (Keeps-refl old)

pub replays_refused : (a b : Option (List ℕ)) (e : Refusal) (text : List ℕ) (old : Option (List ℕ))
    → Moves a b (λ xs ys. GivesNoDeck e (deck xs) ys)
    → Moves a b (λ xs ys. Replays (Err e) (deck xs) ys text old old)
replays_refused a b e text old m =
    Moves-weaker a b (λ xs ys. GivesNoDeck e (deck xs) ys) (λ xs ys. Replays (Err e) (deck xs) ys text old old)
    (λ xs ys h. replays_there e (deck xs) ys text old h) m

-- ---- a replay of the log in the line after the deck

follows_there : (e : Refusal) (reading : Reading) (rest : List ℕ) (old : Option (List ℕ))
    → GivesNoDeck e reading rest → ReplaysFollowing (Err e) reading rest old old
follows_there e reading rest old (inl h) = rw h.2 (h.3, Keeps-refl old)
follows_there e reading rest old (inr (inl h)) = rw h (Keeps-refl old)
follows_there e reading rest old (inr (inr h)) = rw h (Keeps-refl old)

-- the deck was read, but not its log
pub follows_unread : (a b c : Option (List ℕ)) (e : Refusal) (d : Deck) (n : ℕ) (old : Option (List ℕ))
    → (e ≡ refusals.OutOfMemory) ⊎ (e ≡ refusals.Read) → Moves a b (λ xs ys. deck xs ≡ Good d n ys)
    → Moves b c ReadsWithinLine → Moves a c (λ xs ys. ReplaysFollowing (Err e) (deck xs) ys old old)
follows_unread a b c e d n old why m r =
    Moves-trans a b c (λ xs ys. deck xs ≡ Good d n ys) ReadsWithinLine
    (λ xs ys. ReplaysFollowing (Err e) (deck xs) ys old old)
    (λ xs ys zs p q. follows_there e (deck xs) zs old (inr why)) m r

-- ---- a session

memory_there : (budget : ℕ) (reading : Reading) (rest : List ℕ) (old : Option (List ℕ))
    → EndsWithin (length rest) reading → Performs (Err refusals.OutOfMemory) budget reading rest old old
memory_there budget (Good deck n after) rest old h = inl (h, Keeps-refl old)
memory_there budget (Bad n fault after) rest old h = Keeps-refl old

read_there : (budget : ℕ) (reading : Reading) (rest : List ℕ) (old : Option (List ℕ))
    → EndsWithin (length rest) reading → Performs (Err refusals.Read) budget reading rest old old
read_there budget (Good deck n after) rest old h = inl (h, Keeps-refl old)
read_there budget (Bad n fault after) rest old h = Keeps-refl old

fault_there : (budget n : ℕ) (fault : _) (reading : Reading) (rest : List ℕ) (old : Option (List ℕ))
    → reading ≡ Bad n fault rest → Performs (Err (refusals.Deck n fault)) budget reading rest old old
fault_there budget n fault reading rest old h = rw h (refl, refl, refl, Keeps-refl old)

-- neither the deck nor a fault of it was found
abbrev pub IsCut : Refusal → Type 0
IsCut e = is_cut {T = Deck × ℕ} (Err e) ≡ true

performs_there : (e : Refusal) (budget : ℕ) (reading : Reading) (rest : List ℕ) (old : Option (List ℕ))
    → GivesNoDeck e reading rest → (IsCut e → EndsWithin (length rest) reading)
    → Performs (Err e) budget reading rest old old
performs_there e budget reading rest old (inl h) unread = rw h.2 (fault_there budget h.0 h.1 reading rest old h.3)
performs_there e budget reading rest old (inr (inl h)) unread =
    rw h (memory_there budget reading rest old (unread (ap (λ x. is_cut {T = Deck × ℕ} (Err x)) h)))
performs_there e budget reading rest old (inr (inr h)) unread =
    rw h (read_there budget reading rest old (unread (ap (λ x. is_cut {T = Deck × ℕ} (Err x)) h)))

pub performs_refused : (a b : Option (List ℕ)) (e : Refusal) (budget : ℕ) (old : Option (List ℕ))
    → Moves a b (λ xs ys. GivesNoDeck e (deck xs) ys)
    → (IsCut e → Moves a b (λ xs ys. EndsWithin (length ys) (deck xs)))
    → Moves a b (λ xs ys. Performs (Err e) budget (deck xs) ys old old)
performs_refused None b e budget old m unread = tt
performs_refused (Some xs) None e budget old m unread = absurd m
performs_refused (Some xs) (Some ys) e budget old m unread = performs_there e budget (deck xs) ys old m unread

not_booted : (budget n : ℕ) (d : Deck) (reading : Reading) (rest : List ℕ) (old : Option (List ℕ))
    → reading ≡ Good d n rest → Performs (Err refusals.OutOfMemory) budget reading rest old old
not_booted budget n d reading rest old h = rw h (inl (omega arith, Keeps-refl old))

pub performs_unbooted : (a b : Option (List ℕ)) (budget n : ℕ) (d : Deck) (old : Option (List ℕ))
    → Moves a b (λ xs ys. deck xs ≡ Good d n ys)
    → Moves a b (λ xs ys. Performs (Err refusals.OutOfMemory) budget (deck xs) ys old old)
performs_unbooted a b budget n d old m =
    Moves-weaker a b (λ xs ys. deck xs ≡ Good d n ys)
    (λ xs ys. Performs (Err refusals.OutOfMemory) budget (deck xs) ys old old)
    (λ xs ys h. not_booted budget n d (deck xs) ys old h) m
