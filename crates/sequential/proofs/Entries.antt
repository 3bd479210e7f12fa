-- The entries of a log, after one is appended or a count is raised.
use Rattle.std.proofs.Common.{◌≡◌, ◌<◌, ◌≤◌, ◌+◌, ◌-◌, ℕ, zero, suc, true, false, List, [], ◌∷◌, ◌++◌, Some, None}
use Rattle.std.proofs.Common.{length, refl, sym, ap, ◌∙◌, append_assoc, append-nil, arith}
use Rattle.std.specs.Prelude.{◌^◌, ◌||◌, Bool, if◌then◌else◌, min, nat_lt, replicate, slice_get, slice_set}
use Rattle.std.proofs.lemmas.Bool.Decides.{nat_tests}
use Rattle.sequential.specs.declared.log.Entry.{Entry}
use Rattle.sequential.specs.declared.log.Entry.TheVariants.{Issued as Count, Exchange, PpRead, PpWrite}
use Rattle.sequential.specs.Log.{Logged, steps_of, entries_of, one_before, ends_issuing, issued}
use Rattle.sequential.specs.Log.{run_after, last_run}
use Rattle.sequential.specs.Replay.{LogStep, Issued, Exchanged, ReadAt, Wrote}

-- the entries with n more instructions at the end
unfoldable pub more_after : ℕ → List Entry → List Entry
more_after n [] = Count n ∷ []
more_after n (Count k ∷ []) = Count (k + n) ∷ []
more_after n (Exchange k ∷ []) = Exchange k ∷ Count n ∷ []
more_after n (PpRead a ∷ []) = PpRead a ∷ Count n ∷ []
more_after n (PpWrite a w ∷ []) = PpWrite a w ∷ Count n ∷ []
more_after n (e ∷ f ∷ es) = e ∷ more_after n (f ∷ es)

-- the last entry is a count of instructions
unfoldable pub ends_open : List Entry → Bool
ends_open [] = false
ends_open (Count n ∷ []) = true
ends_open (Exchange n ∷ []) = false
ends_open (PpRead a ∷ []) = false
ends_open (PpWrite a w ∷ []) = false
ends_open (e ∷ f ∷ es) = ends_open (f ∷ es)

-- an entry that is no count, with its one step
pub record IsSingle (x : LogStep) (e : Entry) : Type 0 where
  pub steps : (es : List Entry) → steps_of (e ∷ es) ≡ x ∷ steps_of es
  pub entries : (xs : List LogStep) → entries_of (x ∷ xs) ≡ e ∷ entries_of xs
  pub alone : (es : List Entry) → one_before (e ∷ es) ≡ Count 1 ∷ e ∷ es
  pub followed : (n : ℕ) → more_after n (e ∷ []) ≡ e ∷ Count n ∷ []
  pub closed : ends_open (e ∷ []) ≡ false
  pub no_issue : ends_issuing (x ∷ []) ≡ false
  pub uncounted : (xs : List LogStep) → issued (x ∷ xs) ≡ issued xs
  pub ends_run : (n : ℕ) → run_after n (x ∷ []) ≡ 0

pub an_exchange : (n : ℕ) → IsSingle (Exchanged n) (Exchange n)
unfolding steps_of entries_of more_after ends_open ends_issuing issued run_after
an_exchange n = grind arith

pub a_read : (a : ℕ) → IsSingle (ReadAt a) (PpRead a)
unfolding steps_of entries_of more_after ends_open ends_issuing issued run_after
a_read a = grind arith

pub a_write : (a w : ℕ) → IsSingle (Wrote a w) (PpWrite a w)
unfolding steps_of entries_of more_after ends_open ends_issuing issued run_after
a_write a w = grind arith

pub steps-append : (es fs : List Entry) → steps_of (es ++ fs) ≡ steps_of es ++ steps_of fs
unfolding steps_of
steps-append [] fs = refl
steps-append (Count n ∷ es) fs = ap (λ l. replicate n Issued ++ l) (steps-append es fs)
    ∙ sym (append_assoc (replicate n Issued) (steps_of es) (steps_of fs))
steps-append (Exchange n ∷ es) fs = ap (λ l. Exchanged n ∷ l) (steps-append es fs)
steps-append (PpRead a ∷ es) fs = ap (λ l. ReadAt a ∷ l) (steps-append es fs)
steps-append (PpWrite a w ∷ es) fs = ap (λ l. Wrote a w ∷ l) (steps-append es fs)

pub issued-append : (xs ys : List LogStep) → issued (xs ++ ys) ≡ issued xs + issued ys
unfolding issued
issued-append [] ys = let e : issued ys ≡ 0 + issued ys = omega arith in e
issued-append (Issued ∷ xs) ys =
    let e : issued (xs ++ ys) ≡ issued xs + issued ys = issued-append xs ys in omega (arith, e)
issued-append (Exchanged n ∷ xs) ys = issued-append xs ys
issued-append (ReadAt a ∷ xs) ys = issued-append xs ys
issued-append (Wrote a w ∷ xs) ys = issued-append xs ys

pub issued-replicate : (n : ℕ) → issued (replicate n Issued) ≡ n
unfolding issued
issued-replicate zero = refl
issued-replicate (suc n) = ap suc (issued-replicate n)

pub single_added : (x : LogStep) (e : Entry) → IsSingle x e → (es : List Entry)
    → steps_of (es ++ e ∷ []) ≡ steps_of es ++ x ∷ []
unfolding steps_of
single_added x e s es = steps-append es (e ∷ []) ∙ ap (λ l. steps_of es ++ l) (s.steps [])

pub count_added : (es : List Entry) (n : ℕ) → steps_of (es ++ Count n ∷ []) ≡ steps_of es ++ replicate n Issued
unfolding steps_of
count_added es n = steps-append es (Count n ∷ []) ∙ ap (λ l. steps_of es ++ l) (append-nil (replicate n Issued))

-- whether the last entry is a count
pub open-push : (es : List Entry) (e : Entry) → ends_open (es ++ e ∷ []) ≡ ends_open (e ∷ [])
unfolding ends_open
open-push [] e = refl
open-push (f ∷ []) e = refl
open-push (f ∷ g ∷ es) e = open-push (g ∷ es) e

pub opened_by_count : (es : List Entry) (n : ℕ) → ends_open (es ++ Count n ∷ []) ≡ true
unfolding ends_open
opened_by_count es n = open-push es (Count n)

pub issued-single : (x : LogStep) (e : Entry) → IsSingle x e → (es : List Entry)
    → issued (steps_of (es ++ e ∷ [])) ≡ issued (steps_of es)
unfolding issued
issued-single x e s es = grind (arith, single_added x e s es, issued-append (steps_of es) (x ∷ []))

pub issued-more : (xs : List LogStep) → issued (xs ++ Issued ∷ []) ≡ issued xs + 1
unfolding issued
issued-more xs = issued-append xs (Issued ∷ [])

pub issued-many : (xs : List LogStep) (n : ℕ) → issued (xs ++ replicate n Issued) ≡ issued xs + n
issued-many xs n = issued-append xs (replicate n Issued) ∙ ap (λ k. issued xs + k) (issued-replicate n)

-- ---- the instructions at the end ----

run_after-append : (n : ℕ) (xs ys : List LogStep) → run_after n (xs ++ ys) ≡ run_after (run_after n xs) ys
unfolding run_after
run_after-append n [] ys = refl
run_after-append n (Issued ∷ xs) ys = run_after-append (n + 1) xs ys
run_after-append n (Exchanged k ∷ xs) ys = run_after-append 0 xs ys
run_after-append n (ReadAt a ∷ xs) ys = run_after-append 0 xs ys
run_after-append n (Wrote a w ∷ xs) ys = run_after-append 0 xs ys

run_after-replicate : (n k : ℕ) → run_after n (replicate k Issued) ≡ n + k
unfolding run_after
run_after-replicate n zero = let e : n ≡ n + 0 = omega arith in e
run_after-replicate n (suc k) =
    run_after-replicate (n + 1) k ∙ (let e : n + 1 + k ≡ n + suc k = omega arith in e)

run_after_within : (n : ℕ) (xs : List LogStep) → run_after n xs ≤ n + issued xs
unfolding run_after issued
run_after_within n [] = omega arith
run_after_within n (Issued ∷ xs) = let h = run_after_within (n + 1) xs in omega (arith, h)
run_after_within n (Exchanged k ∷ xs) = let h = run_after_within 0 xs in omega (arith, h)
run_after_within n (ReadAt a ∷ xs) = let h = run_after_within 0 xs in omega (arith, h)
run_after_within n (Wrote a w ∷ xs) = let h = run_after_within 0 xs in omega (arith, h)

-- the instructions at the end are some of all instructions
pub last_run_within : (xs : List LogStep) → last_run xs ≤ issued xs
last_run_within xs = let h = run_after_within 0 xs in omega (arith, h)

pub last_run-many : (xs : List LogStep) (n : ℕ) → last_run (xs ++ replicate n Issued) ≡ last_run xs + n
last_run-many xs n = run_after-append 0 xs (replicate n Issued) ∙ run_after-replicate (last_run xs) n

pub last_run-single : (x : LogStep) (e : Entry) → IsSingle x e → (es : List Entry)
    → last_run (steps_of (es ++ e ∷ [])) ≡ 0
last_run-single x e s es = grind (arith, single_added x e s es, run_after-append 0 (steps_of es) (x ∷ []))

-- ---- the last entry ----

ends_at : (es : List Entry) (i : ℕ) (e : Entry) → length es ≡ suc i → slice_get es i ≡ Some e → (before : List Entry)
    × (es ≡ before ++ e ∷ []) × ((f : Entry) → slice_set es i f ≡ before ++ f ∷ [])
ends_at [] i e l h = cc
ends_at (x ∷ []) zero e l h = ([], cc, λ f. refl)
ends_at (x ∷ y ∷ es) zero e l h = absurd (omega arith)
ends_at (x ∷ es) (suc i) e l h =
    let r = ends_at es i e (omega arith) h in
    (x ∷ r.0, ap (λ k. x ∷ k) r.1, λ f. ap (λ k. x ∷ k) (r.2 f))

replicate-sum : (k n : ℕ) → replicate (k + n) Issued ≡ replicate k Issued ++ replicate n Issued
replicate-sum zero n = ap (λ m. replicate m Issued) (let e : 0 + n ≡ n = omega arith in e)
replicate-sum (suc k) n = ap (λ m. replicate m Issued) (let e : suc k + n ≡ suc (k + n) = omega arith in e)
    ∙ ap (λ l. Issued ∷ l) (replicate-sum k n)

more_counted : (k n : ℕ) → steps_of (Count (k + n) ∷ []) ≡ steps_of (Count k ∷ []) ++ replicate n Issued
unfolding steps_of
more_counted k n = simp (replicate-sum, append-nil)

-- the steps after the last count was raised by n
pub raised_steps : (es : List Entry) (i k n : ℕ) → length es ≡ suc i → slice_get es i ≡ Some (Count k)
    → steps_of (slice_set es i (Count (k + n))) ≡ steps_of es ++ replicate n Issued
raised_steps es i k n l h = grind (arith, ends_at, steps-append, more_counted, append_assoc)

pub raised_open : (es : List Entry) (i k n : ℕ) → length es ≡ suc i → slice_get es i ≡ Some (Count k)
    → ends_open (slice_set es i (Count (k + n))) ≡ true
raised_open es i k n l h = grind (arith, ends_at, opened_by_count)

-- the last entry, if it is a count, counts the instructions at the end
pub count_last : (es : List Entry) (i n : ℕ) → length es ≡ suc i → slice_get es i ≡ Some (Count n)
    → n ≤ last_run (steps_of es)
count_last es i n l h = grind (arith, ends_at, count_added, last_run-many)

pub open_at_count : (es : List Entry) (i n : ℕ) → length es ≡ suc i → slice_get es i ≡ Some (Count n)
    → ends_open es ≡ true
open_at_count es i n l h = grind (arith, ends_at, opened_by_count)

-- the list has no last element
pub none_last : (es : List Entry) → slice_get es (length es - 1) ≡ None → ends_open es ≡ false
unfolding ends_open
none_last [] h = refl
none_last (e ∷ es) h = absurd
    (present (e ∷ es) (length es) (omega arith)
    (ap (slice_get (e ∷ es)) (let k : length es ≡ length (e ∷ es) - 1 = omega arith in k) ∙ h))
  where
    present : (xs : List Entry) (i : ℕ) → i < length xs → slice_get xs i ≡ None → ⊥
    present [] i k h = absurd (omega arith)
    present (x ∷ xs) zero k h = cc
    present (x ∷ xs) (suc i) k h = present xs i (omega arith) h

-- an element that was read is in the list
pub read_within : (es : List Entry) (i : ℕ) (e : Entry) → slice_get es i ≡ Some e → i < length es
read_within [] i e h = cc
read_within (x ∷ es) zero e h = omega arith
read_within (x ∷ es) (suc i) e h = let k : i < length es = read_within es i e h in omega arith

-- the position of the last element
pub last_place : (es : List Entry) (e : Entry) → slice_get es (length es - 1) ≡ Some e → length es ≡ suc (length es - 1)
last_place es e h = let k = read_within es (length es - 1) e h in omega (arith, k)

closed_alone : (e : Entry) → ((n : ℕ) → e ≡ Count n → ⊥) → ends_open (e ∷ []) ≡ false
unfolding ends_open
closed_alone e h = grind arith

-- a last entry that is no count
pub closed_at_last : (es : List Entry) (e : Entry) → slice_get es (length es - 1) ≡ Some e
    → ((n : ℕ) → e ≡ Count n → ⊥) → ends_open es ≡ false
closed_at_last es e h other = grind (arith, ends_at, last_place, open-push, closed_alone)

-- ---- the shortest entries ----

single_past : (x : LogStep) (e : Entry) → IsSingle x e → (es : List Entry)
    → one_before (es ++ e ∷ []) ≡ one_before es ++ e ∷ []
single_past x e s es = grind arith

pub shortest_single : (x : LogStep) (e : Entry) → IsSingle x e → (steps : List LogStep)
    → entries_of (steps ++ x ∷ []) ≡ entries_of steps ++ e ∷ []
unfolding entries_of
shortest_single x e s [] = s.entries []
shortest_single x e s (Issued ∷ steps) =
    ap one_before (shortest_single x e s steps) ∙ single_past x e s (entries_of steps)
shortest_single x e s (Exchanged k ∷ steps) = ap (λ l. Exchange k ∷ l) (shortest_single x e s steps)
shortest_single x e s (ReadAt a ∷ steps) = ap (λ l. PpRead a ∷ l) (shortest_single x e s steps)
shortest_single x e s (Wrote a w ∷ steps) = ap (λ l. PpWrite a w ∷ l) (shortest_single x e s steps)

before_and_after : (n : ℕ) (es : List Entry) → one_before (more_after n es) ≡ more_after n (one_before es)
unfolding more_after
before_and_after n es = grind arith

entries_of_issues : (n : ℕ) → entries_of (replicate (suc n) Issued) ≡ Count (suc n) ∷ []
unfolding entries_of
entries_of_issues zero = refl
entries_of_issues (suc n) =
    ap one_before (entries_of_issues n) ∙ ap (λ k. Count k ∷ []) (let e : suc n + 1 ≡ suc (suc n) = omega arith in e)

shortest_issues : (steps : List LogStep) (n : ℕ)
    → entries_of (steps ++ replicate (suc n) Issued) ≡ more_after (suc n) (entries_of steps)
unfolding entries_of more_after
shortest_issues [] n = entries_of_issues n
shortest_issues (Issued ∷ steps) n =
    ap one_before (shortest_issues steps n) ∙ before_and_after (suc n) (entries_of steps)
shortest_issues (Exchanged k ∷ steps) n = grind (arith, shortest_issues steps n)
shortest_issues (ReadAt a ∷ steps) n = grind (arith, shortest_issues steps n)
shortest_issues (Wrote a w ∷ steps) n = grind (arith, shortest_issues steps n)

last_after : (before : List Entry) (k n : ℕ) → more_after n (before ++ Count k ∷ []) ≡ before ++ Count (k + n) ∷ []
unfolding more_after
last_after [] k n = refl
last_after (Count m ∷ []) k n = refl
last_after (Exchange m ∷ []) k n = refl
last_after (PpRead a ∷ []) k n = refl
last_after (PpWrite a w ∷ []) k n = refl
last_after (e ∷ f ∷ es) k n = ap (λ l. e ∷ l) (last_after (f ∷ es) k n)

-- the entries after the last count was raised by n
pub raised_after : (es : List Entry) (i k n : ℕ) → length es ≡ suc i → slice_get es i ≡ Some (Count k)
    → slice_set es i (Count (k + n)) ≡ more_after n es
raised_after es i k n l h = grind (arith, ends_at, last_after)

-- the entries after a new count was appended
pub added_after : (es : List Entry) (n : ℕ) → ends_open es ≡ false → es ++ Count n ∷ [] ≡ more_after n es
unfolding more_after ends_open
added_after [] n h = refl
added_after (Count k ∷ []) n h = cc
added_after (Exchange k ∷ []) n h = refl
added_after (PpRead a ∷ []) n h = refl
added_after (PpWrite a w ∷ []) n h = refl
added_after (e ∷ f ∷ es) n h = ap (λ l. e ∷ l) (added_after (f ∷ es) n h)

-- the entries remain the shortest ones for their steps
pub shortest_after_issues : (es fs : List Entry) (n : ℕ) → 0 < n → es ≡ entries_of (steps_of es) → fs ≡ more_after n es
    → steps_of fs ≡ steps_of es ++ replicate n Issued → fs ≡ entries_of (steps_of fs)
shortest_after_issues es fs n z h p q = grind (arith, shortest_issues)

pub shortest_after_single : (x : LogStep) (e : Entry) → IsSingle x e → (es fs : List Entry)
    → es ≡ entries_of (steps_of es) → fs ≡ es ++ e ∷ [] → fs ≡ entries_of (steps_of fs)
shortest_after_single x e s es fs h p = p ∙ ap (λ l. l ++ e ∷ []) h ∙ sym (shortest_single x e s (steps_of es))
    ∙ ap entries_of (sym (single_added x e s es)) ∙ ap (λ l. entries_of (steps_of l)) (sym p)

-- ---- whether the last step is an instruction ----

an_entry_before : (es : List Entry) → (e : Entry) × (fs : List Entry) × (one_before es ≡ e ∷ fs)
an_entry_before [] = (Count 1, [], refl)
an_entry_before (Count n ∷ es) = (Count (n + 1), es, refl)
an_entry_before (Exchange n ∷ es) = (Count 1, Exchange n ∷ es, refl)
an_entry_before (PpRead a ∷ es) = (Count 1, PpRead a ∷ es, refl)
an_entry_before (PpWrite a w ∷ es) = (Count 1, PpWrite a w ∷ es, refl)

an_entry : (s : LogStep) (steps : List LogStep) → (e : Entry) × (es : List Entry) × (entries_of (s ∷ steps) ≡ e ∷ es)
unfolding entries_of
an_entry Issued steps = an_entry_before (entries_of steps)
an_entry (Exchanged n) steps = (Exchange n, entries_of steps, refl)
an_entry (ReadAt a) steps = (PpRead a, entries_of steps, refl)
an_entry (Wrote a w) steps = (PpWrite a w, entries_of steps, refl)

open_past : (e : Entry) (s : LogStep) (steps : List LogStep) → ends_open (entries_of (s ∷ steps)) ≡ ends_issuing
    (s ∷ steps)
    → ends_open (e ∷ entries_of (s ∷ steps)) ≡ ends_issuing (s ∷ steps)
unfolding ends_open
open_past e s steps h = grind (arith, an_entry s steps)

shortest_open : (steps : List LogStep) → ends_open (entries_of steps) ≡ ends_issuing steps
unfolding ends_open ends_issuing entries_of
shortest_open [] = refl
shortest_open (Issued ∷ []) = refl
shortest_open (Exchanged n ∷ []) = refl
shortest_open (ReadAt a ∷ []) = refl
shortest_open (Wrote a w ∷ []) = refl
shortest_open (Issued ∷ s ∷ steps) = grind (arith, shortest_open (s ∷ steps))
shortest_open (Exchanged n ∷ s ∷ steps) = open_past (Exchange n) s steps (shortest_open (s ∷ steps))
shortest_open (ReadAt a ∷ s ∷ steps) = open_past (PpRead a) s steps (shortest_open (s ∷ steps))
shortest_open (Wrote a w ∷ s ∷ steps) = open_past (PpWrite a w) s steps (shortest_open (s ∷ steps))

-- the last entry is a count exactly if the last step is an instruction, since the entries are the shortest
pub open_as_issuing : (es : List Entry) → es ≡ entries_of (steps_of es) → ends_open es ≡ ends_issuing (steps_of es)
open_as_issuing es h = ap ends_open h ∙ shortest_open (steps_of es)

-- room for a new count, if one is needed
pub room_for_count : (es : List Entry) (log : Logged) (spare : ℕ) → es ≡ entries_of (steps_of es)
    → record { steps = steps_of es; room = spare } ≡ log → (ends_issuing log.steps ≡ false → 0 < log.room)
    → ends_open es ≡ false → 0 < spare
room_for_count es log spare h e asked closed = grind (arith, open_as_issuing)

-- the room left, if the last count was raised
pub room_kept : (es : List Entry) (log : Logged) (spare n : ℕ) → es ≡ entries_of (steps_of es)
    → record { steps = steps_of es; room = spare } ≡ log → ends_open es ≡ true
    → spare + (if ends_issuing log.steps then 0 else n) ≡ log.room
room_kept es log spare n h e is_open = grind (arith, open_as_issuing)

-- the room left, if a count was appended
pub room_spent : (es : List Entry) (log : Logged) (length capacity new n : ℕ) → es ≡ entries_of (steps_of es)
    → record { steps = steps_of es; room = capacity - length } ≡ log → ends_open es ≡ false → 0 < n
    → length < capacity → new ≡ length + 1
    → capacity - new + (if ends_issuing log.steps then 0 else min n 1) ≡ log.room
room_spent es log length capacity new n h e closed some room k = grind (arith, open_as_issuing)

pub issuing_no_more : (x : LogStep) (e : Entry) → IsSingle x e → (steps : List LogStep)
    → ends_issuing (steps ++ x ∷ []) ≡ false
unfolding ends_issuing
issuing_no_more x e s [] = s.no_issue
issuing_no_more x e s (y ∷ []) = s.no_issue
issuing_no_more x e s (y ∷ z ∷ steps) = issuing_no_more x e s (z ∷ steps)

pub issuing_after : (steps : List LogStep) → ends_issuing (steps ++ Issued ∷ []) ≡ true
unfolding ends_issuing
issuing_after [] = refl
issuing_after (s ∷ []) = refl
issuing_after (s ∷ t ∷ steps) = issuing_after (t ∷ steps)

snoc : (n : ℕ) → replicate (suc n) Issued ≡ replicate n Issued ++ Issued ∷ []
snoc n = ap (λ m. replicate m Issued) (let e : suc n ≡ n + 1 = omega arith in e) ∙ replicate-sum n 1

-- the last step after n more instructions
pub issuing_many : (steps : List LogStep) (n : ℕ)
    → ends_issuing (steps ++ replicate n Issued) ≡ (nat_lt 0 n || ends_issuing steps)
issuing_many steps zero = ap ends_issuing (append-nil steps)
issuing_many steps (suc n) =
    let t : nat_lt 0 (suc n) ≡ true = grind (arith, nat_tests) in
    ap (λ l. ends_issuing (steps ++ l)) (snoc n)
    ∙ ap ends_issuing (sym (append_assoc steps (replicate n Issued) (Issued ∷ [])))
    ∙ issuing_after (steps ++ replicate n Issued) ∙ ap (λ b. b || ends_issuing steps) (sym t)

-- ---- how many instructions there are, as far as a number can tell ----

-- the number of instructions that a log keeps
pub record IsCounted (issues : ℕ) (steps : List LogStep) : Type 0 where
  -- all instructions, or the largest number
  pub count : issues ≡ min (issued steps) (2 ^ 64 - 1)
  -- the instructions at the end can be counted
  pub run : last_run steps ≤ issues

-- the count after n more instructions
pub counted_more : (issues new : ℕ) (xs ys : List LogStep) (n : ℕ) → issues ≡ min (issued xs) (2 ^ 64 - 1)
    → last_run xs ≤ issues → last_run xs + n < 2 ^ 64 → ys ≡ xs ++ replicate n Issued
    → new ≡ min (issues + n) (2 ^ 64 - 1) → IsCounted new ys
counted_more issues new xs ys n c r h e k = grind (arith, issued-many, last_run-many)

-- the count after an entry that is no count
pub counted_single : (x : LogStep) (e : Entry) → IsSingle x e → (issues : ℕ) (es fs : List Entry)
    → issues ≡ min (issued (steps_of es)) (2 ^ 64 - 1) → fs ≡ es ++ e ∷ [] → IsCounted issues (steps_of fs)
counted_single x e s issues es fs c p = grind (arith, last_run-single x e s es, issued-single x e s es)
