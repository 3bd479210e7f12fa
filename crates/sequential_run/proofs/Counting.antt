-- The exchanges among a log's entries, each with the number of instructions before it.
use Rattle.std.proofs.Common.{◌≡◌, ◌<◌, ◌≤◌, ◌+◌, ℕ, zero, suc, List, [], ◌∷◌, ◌++◌, length, refl, sym, ap, subst}
use Rattle.std.proofs.Common.{◌∙◌, arith}
use Rattle.std.proofs.lemmas.List.{take_more, take-append-drop}
use Rattle.std.specs.Prelude.{◌-◌, ◌^◌, drop, min, take, replicate, slice_index_or}
use Rattle.sequential.specs.declared.log.Entry.{Entry}
use Rattle.sequential.specs.Log.{issued, steps_of}
use Rattle.sequential.proofs.Entries.{steps-append, issued-append}
use Rattle.sequential.specs.Replay.{LogStep, Issued, Exchanged, ReadAt, Wrote}
use Rattle.sequential_run.specs.Fulfilled.{exchanges_after}
use Rattle.sequential_run.specs.inner.Judging.{AreWithin}

-- ---- one entry ----

pub no_exchange : (n count : ℕ) → exchanges_after n (replicate count Issued ++ []) ≡ []
unfolding exchanges_after
no_exchange n zero = refl
no_exchange n (suc count) = no_exchange (suc n) count

pub issues_alone : (count : ℕ) → issued (replicate count Issued ++ []) ≡ count
unfolding issued
issues_alone zero = refl
issues_alone (suc count) = ap suc (issues_alone count)

-- ---- entry by entry ----

pub exchanges_append : (n : ℕ) (xs ys : List LogStep)
    → exchanges_after n (xs ++ ys) ≡ exchanges_after n xs ++ exchanges_after (n + issued xs) ys
unfolding exchanges_after issued
exchanges_append n [] ys = ap (λ k. exchanges_after k ys) (let e : n ≡ n + 0 = omega arith in e)
exchanges_append n (Issued ∷ xs) ys = grind (arith, exchanges_append (suc n) xs ys)
exchanges_append n (Exchanged at ∷ xs) ys = ap (λ l. (at, n) ∷ l) (exchanges_append n xs ys)
exchanges_append n (ReadAt a ∷ xs) ys = exchanges_append n xs ys
exchanges_append n (Wrote a w ∷ xs) ys = exchanges_append n xs ys

-- the steps of the entries before position i, and with the entry there
steps_more : (entries : List Entry) (i : ℕ) (d : Entry) → i < length entries
    → steps_of (take (i + 1) entries) ≡ steps_of (take i entries) ++ steps_of (slice_index_or entries i d ∷ [])
steps_more entries i d l =
    ap steps_of (take_more entries i d l) ∙ steps-append (take i entries) (slice_index_or entries i d ∷ [])

pub exchanges_more : (entries : List Entry) (i : ℕ) (d : Entry) → i < length entries
    → exchanges_after 0 (steps_of (take (i + 1) entries)) ≡ exchanges_after 0 (steps_of (take i entries))
    ++ exchanges_after (issued (steps_of (take i entries))) (steps_of (slice_index_or entries i d ∷ []))
exchanges_more entries i d l =
    ap (exchanges_after 0) (steps_more entries i d l)
    ∙ exchanges_append 0 (steps_of (take i entries)) (steps_of (slice_index_or entries i d ∷ []))
    ∙ ap (λ k. exchanges_after 0 (steps_of (take i entries))
    ++ exchanges_after k (steps_of (slice_index_or entries i d ∷ [])))
    (let e : 0 + issued (steps_of (take i entries)) ≡ issued (steps_of (take i entries)) = omega arith in e)

pub count_more : (entries : List Entry) (i : ℕ) (d : Entry) → i < length entries
    → issued (steps_of (take (i + 1) entries))
    ≡ issued (steps_of (take i entries)) + issued (steps_of (slice_index_or entries i d ∷ []))
count_more entries i d l =
    ap issued (steps_more entries i d l)
    ∙ issued-append (steps_of (take i entries)) (steps_of (slice_index_or entries i d ∷ []))

-- the first entries have no more instructions than all entries
pub count_within : (entries : List Entry) (i : ℕ)
    → issued (steps_of (take i entries)) ≤ issued (steps_of entries)
count_within entries i =
    let e : issued (steps_of entries) ≡ issued (steps_of (take i entries)) + issued (steps_of (drop i entries)) =
    ap (λ l. issued (steps_of l)) (sym (take-append-drop i entries))
    ∙ ap issued (steps-append (take i entries) (drop i entries))
    ∙ issued-append (steps_of (take i entries)) (steps_of (drop i entries)) in
    omega (arith, e)

-- ---- within the log's instructions ----

within_more : (n m : ℕ) (made : List (ℕ × ℕ)) → n ≡ m → AreWithin n made → AreWithin m made
within_more n m made e a = subst (λ k. AreWithin k made) e a

-- no exchange comes after more instructions than the log has
pub all_within : (n : ℕ) (steps : List LogStep) → AreWithin (n + issued steps) (exchanges_after n steps)
unfolding exchanges_after issued
all_within n [] = tt
all_within n (Issued ∷ steps) =
    within_more (suc n + issued steps) (n + suc (issued steps)) _ (omega arith) (all_within (suc n) steps)
all_within n (Exchanged at ∷ steps) = (omega arith, all_within n steps)
all_within n (ReadAt a ∷ steps) = all_within n steps
all_within n (Wrote a w ∷ steps) = all_within n steps

-- no exchange in a log comes after more instructions than the log's count
pub log_within : (total : ℕ) (steps : List LogStep) (made : List (ℕ × ℕ)) → made ≡ exchanges_after 0 steps
    → total ≡ min (issued steps) (2 ^ 64 - 1) → issued steps < 2 ^ 64 → AreWithin total made
log_within total steps made e t l = grind (arith, all_within 0 steps)
