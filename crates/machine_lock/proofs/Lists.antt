-- Prefixes of lists, positions in lists, and the views at the numbers of passes.
use Rattle.std.proofs.Common.{◌≡◌, ◌⊎◌, ℕ, zero, suc, ◌==◌, ◌||◌, Bool, true, false, List, [], ◌∷◌, ◌++◌, length}
use Rattle.std.proofs.Common.{replicate, take, ◌+◌, ◌<◌, get_or, add-one, refl, sym, ap, ◌∙◌, ⊎_elim, inl, inr, arith}
use Rattle.std.proofs.Common.{append_assoc}
use Rattle.std.proofs.lemmas.List.{append-nil}
use Rattle.std.proofs.lemmas.Bool.Decides.{nat_tests}
use Rattle.std.specs.Prelude.{if◌then◌else◌}
use mathlib.Core.Option.{some, some-ne-none, some-injective}
use lib.ListN.{get_elem?}
use Rattle.sequential.specs.Replay.{LogStep, Issued, Exchanged, ReadAt, Wrote}
use Rattle.sequential.specs.Log.{steps_of}
use Rattle.sequential.specs.declared.log.Entry.{Entry}
use Rattle.sequential.specs.declared.log.Entry.TheVariants.{Issued as Count, Exchange, PpRead, PpWrite}
use Rattle.sequential.proofs.Runs.{taken_steps}
use Rattle.machine_lock.specs.CallerKnowledge.{StartsWith, is_in}
use Rattle.machine_lock.specs.inner.Rules.{Knowing}

pub starts_all : (xs : List LogStep) → StartsWith xs xs
starts_all xs = ([], sym (append-nil xs))

pub starts_more : (xs ys front : List LogStep) → StartsWith xs front → StartsWith (xs ++ ys) front
starts_more xs ys front h = (h.0 ++ ys, ap (λ l. l ++ ys) h.1 ∙ append_assoc front h.0 ys)

pub at_snoc : (l : List Knowing) (a b : Knowing) (j : ℕ) → get_elem? (l ++ a ∷ []) j ≡ some b
    → (get_elem? l j ≡ some b) ⊎ ((j ≡ length l) × (a ≡ b))
at_snoc [] a b zero e = inr (refl, some-injective a b e)
at_snoc [] a b (suc j) e = absurd (some-ne-none b (sym e))
at_snoc (x ∷ xs) a b zero e = inl e
at_snoc (x ∷ xs) a b (suc j) e = ⊎_elim (λ h. inl h) (λ h. inr (omega (arith, h.0), h.1)) (at_snoc xs a b j e)

pub in_append : (p : ℕ) (xs ys : List ℕ) → is_in p (xs ++ ys) ≡ true → (is_in p xs ≡ true) ⊎ (is_in p ys ≡ true)
in_append p [] ys e = inr e
in_append p (x ∷ xs) ys e = by_head (p == x) refl (in_append p xs ys)
  where
    by_head : (b : Bool) → (p == x) ≡ b → (is_in p (xs ++ ys) ≡ true → (is_in p xs ≡ true) ⊎ (is_in p ys ≡ true))
        → (is_in p (x ∷ xs) ≡ true) ⊎ (is_in p ys ≡ true)
    by_head true is rest = inl (ap (λ c. c || is_in p xs) is)
    by_head false is rest =
        ⊎_elim (λ h. inl (ap (λ c. c || is_in p xs) is ∙ h)) (λ h. inr h)
        (rest (sym (ap (λ c. c || is_in p (xs ++ ys)) is) ∙ e))

pub in_one : (p x : ℕ) → is_in p (x ∷ []) ≡ true → p ≡ x
in_one p x e = grind (arith, nat_tests)

-- these positions pass to another owner
abbrev pub give : (ℕ → ℕ) → List ℕ → ℕ → ℕ → ℕ
give owner positions to p = if is_in p positions then to else owner p

pub give_in : (owner : ℕ → ℕ) (positions : List ℕ) (to p : ℕ) → is_in p positions ≡ true → give owner positions to p
    ≡ to
give_in owner positions to p e = ap (λ (b : Bool). if b then to else owner p) e

pub give_out : (owner : ℕ → ℕ) (positions : List ℕ) (to p : ℕ) → (is_in p positions ≡ true → ⊥)
    → give owner positions to p ≡ owner p
give_out owner positions to p out = by_test (is_in p positions) refl
  where
    by_test : (b : Bool) → is_in p positions ≡ b → give owner positions to p ≡ owner p
    by_test true e = absurd (out e)
    by_test false e = ap (λ (b : Bool). if b then to else owner p) e

-- the steps of one more entry
pub steps_of-more : (es : List Entry) (i : ℕ) (d : Entry) → i < length es → steps_of (take (i + 1) es) ≡ steps_of
    (take i es) ++ steps_of (get_or es i d ∷ [])
steps_of-more es i d l = ap (λ n. steps_of (take n es)) (add-one i) ∙ taken_steps es i d l

-- the step of an entry that is one
abbrev pub step_of : Entry → LogStep
step_of (Count n) = Issued
step_of (Exchange n) = Exchanged n
step_of (PpRead a) = ReadAt a
step_of (PpWrite a w) = Wrote a w

pub steps_of-exchange : (e : Entry) (n : ℕ) → e ≡ Exchange n → steps_of (e ∷ []) ≡ step_of e ∷ []
unfolding steps_of
steps_of-exchange e n h = ap (λ x. steps_of (x ∷ [])) h ∙ ap (λ x. step_of x ∷ []) (sym h)

pub steps_of-read : (e : Entry) (a : ℕ) → e ≡ PpRead a → steps_of (e ∷ []) ≡ step_of e ∷ []
unfolding steps_of
steps_of-read e a h = ap (λ x. steps_of (x ∷ [])) h ∙ ap (λ x. step_of x ∷ []) (sym h)

pub steps_of-write : (e : Entry) (a w : ℕ) → e ≡ PpWrite a w → steps_of (e ∷ []) ≡ step_of e ∷ []
unfolding steps_of
steps_of-write e a w h = ap (λ x. steps_of (x ∷ [])) h ∙ ap (λ x. step_of x ∷ []) (sym h)

pub steps_of-count : (e : Entry) (n : ℕ) → e ≡ Count n → steps_of (e ∷ []) ≡ replicate n Issued
unfolding steps_of
steps_of-count e n h = ap (λ x. steps_of (x ∷ [])) h ∙ append-nil (replicate n Issued)
