-- The loop over the due requests.
use Rattle.std.proofs.Common.{◌≡◌, ◌<◌, ◌≤◌, ◌+◌, ℕ, Bool, true, false, List, [], ◌∷◌, length, refl, sym, ap, ◌∙◌}
use Rattle.std.proofs.Common.{arith, le-leb, subst, drop_of_length-le}
use Rattle.std.proofs.lemmas.Bool.{lt-leb}
use Rattle.std.proofs.lemmas.List.{drop_more}
use Rattle.std.specs.Prelude.{drop, slice_index_or}
use Rattle.sequential_run.specs.inner.Judging.{is_made, starts_with_due}

not_due : (now : ℕ) (ask : ℕ × ℕ) (asks made : List (ℕ × ℕ)) → now < ask.1
    → starts_with_due now (ask ∷ asks) made ≡ true
unfolding starts_with_due
not_due now ask asks [] l = rw (lt-leb ask.1 now l) refl
not_due now ask asks (x ∷ more) l = rw (lt-leb ask.1 now l) refl

not_made : (now : ℕ) (ask : ℕ × ℕ) (asks made : List (ℕ × ℕ)) → ask.1 ≤ now → length made ≡ 0
    → starts_with_due now (ask ∷ asks) made ≡ false
unfolding starts_with_due
not_made now ask asks [] d n = rw (le-leb ask.1 now d) refl
not_made now ask asks (x ∷ more) d n = absurd (omega (arith, n))

another_made : (now : ℕ) (ask made : ℕ × ℕ) (asks more : List (ℕ × ℕ)) → ask.1 ≤ now → is_made now ask made ≡ false
    → starts_with_due now (ask ∷ asks) (made ∷ more) ≡ false
unfolding starts_with_due
another_made now ask made asks more d e = grind arith

this_made : (now : ℕ) (ask made : ℕ × ℕ) (asks more : List (ℕ × ℕ)) → ask.1 ≤ now → is_made now ask made ≡ true
    → starts_with_due now (ask ∷ asks) (made ∷ more) ≡ starts_with_due now asks more
unfolding starts_with_due
this_made now ask made asks more d e = grind arith

-- the request at this position of the list
abbrev request_at : List (ℕ × ℕ) → ℕ → ℕ × ℕ
request_at asks i = slice_index_or asks i (0, 0)

here : (now i : ℕ) (asks made : List (ℕ × ℕ)) (all : Bool) → starts_with_due now (drop i asks) made ≡ all
    → i < length asks → starts_with_due now (request_at asks i ∷ drop (i + 1) asks) made ≡ all
here now i asks made all e l = ap (λ x. starts_with_due now x made) (sym (drop_more asks i (0, 0) l)) ∙ e

-- the next request isn't due
pub due_past : (now i : ℕ) (asks made : List (ℕ × ℕ)) (all : Bool) → starts_with_due now (drop i asks) made ≡ all
    → i < length asks → now < (request_at asks i).1 → true ≡ all
due_past now i asks made all e l d = sym (not_due now (request_at asks i) _ made d) ∙ here now i asks made all e l

-- no exchange is left
pub due_alone : (now i : ℕ) (asks made : List (ℕ × ℕ)) (all : Bool) → starts_with_due now (drop i asks) made ≡ all
    → i < length asks → (request_at asks i).1 ≤ now → length made ≡ 0 → false ≡ all
due_alone now i asks made all e l d n = sym (not_made now (request_at asks i) _ made d n) ∙ here now i asks made all e l

-- the next exchange belongs to another request
pub due_other : (now i : ℕ) (asks made : List (ℕ × ℕ)) (all : Bool) (x : ℕ × ℕ) (more : List (ℕ × ℕ))
    → starts_with_due now (drop i asks) made ≡ all → i < length asks → (request_at asks i).1 ≤ now → made ≡ x ∷ more
    → is_made now (request_at asks i) x ≡ false → false ≡ all
due_other now i asks made all x more e l d m f =
    sym (another_made now (request_at asks i) x _ more d f) ∙ here now i asks (x ∷ more) all
    (subst (λ y. starts_with_due now (drop i asks) y ≡ all) m e) l

-- the next exchange belongs to the next request
pub due_more : (now i : ℕ) (asks made : List (ℕ × ℕ)) (all : Bool) (x : ℕ × ℕ) (more : List (ℕ × ℕ))
    → starts_with_due now (drop i asks) made ≡ all → i < length asks → (request_at asks i).1 ≤ now → made ≡ x ∷ more
    → is_made now (request_at asks i) x ≡ true → starts_with_due now (drop (i + 1) asks) more ≡ all
due_more now i asks made all x more e l d m t =
    sym (this_made now (request_at asks i) x _ more d t) ∙ here now i asks (x ∷ more) all
    (subst (λ y. starts_with_due now (drop i asks) y ≡ all) m e) l

-- no request is left
pub due_done : (now i : ℕ) (asks made : List (ℕ × ℕ)) (all : Bool) → starts_with_due now (drop i asks) made ≡ all
    → length asks ≤ i → true ≡ all
unfolding starts_with_due
due_done now i asks made all e l = ap (λ x. starts_with_due now x made) (sym (drop_of_length-le asks l)) ∙ e
