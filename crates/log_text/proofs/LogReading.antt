-- The steps in a log's text, entry by entry.
use Rattle.std.proofs.Common.{◌≡◌, ℕ, ◌+◌, ◌≤◌, ◌<◌, ◌==◌, ◌||◌, Bool, true, false, cond, eqb, ltb, subst, List, []}
use Rattle.std.proofs.Common.{◌∷◌, ◌++◌, Option, Some, None, Result, Ok, Err, refl, sym, ap, ◌∙◌, append_assoc}
use Rattle.std.proofs.Common.{append-nil, arith}
use Rattle.std.specs.List.{onto_first, slice_split}
use Rattle.std.proofs.lemmas.Bool.Decides.{nat_tests}
use Rattle.std.specs.Prelude.{replicate, MatchResult, is_err, option_and_then}
use Rattle.instructions.specs.declared.refusal.Refusal.{Refusal}
use Rattle.sequential.specs.declared.log.Entry.{Entry}
use Rattle.sequential.specs.declared.log.Entry.TheVariants.{Issued as Count, Exchange, PpRead, PpWrite}
use Rattle.sequential.specs.Log.{steps_of, issued}
use Rattle.sequential.specs.Replay.{LogStep, Issued}
use Rattle.sequential.proofs.Entries.{issued-append, issued-replicate}
use Rattle.log_text.specs.LogText.{entry_in, entry_count, spent, put_steps, steps_in, write_in, written_in}
use Rattle.log_text.specs.LogText.{AddsField, count_in, exchange_in, read_in}
use Rattle.log_text.specs.LogText.{number_without_leading_zeros, word_without_leading_zeros}
use Rattle.log_text.specs.declared.logs.Allowance.{Allowance}

pub before_none : (found : Option (List LogStep)) → found ≡ put_steps [] found
before_none None = refl
before_none (Some steps) = refl

put_twice : (before more : List LogStep) (found : Option (List LogStep))
    → put_steps before (put_steps more found) ≡ put_steps (before ++ more) found
put_twice before more None = refl
put_twice before more (Some steps) = ap Some (sym (append_assoc before more steps))

-- an allowed entry extends the steps before it
entry_on : (before now : List LogStep) (left : Allowance) (field : List ℕ) (entry : Entry) (more : List (List ℕ))
    → entry_in left field ≡ Some entry → now ≡ before ++ steps_of (entry ∷ [])
    → put_steps before (steps_in left (field ∷ more)) ≡ put_steps now (steps_in (spent left entry) more)
entry_on before now left field entry more found same =
    ap (λ e. put_steps before
    (option_and_then (λ f. put_steps (steps_of (f ∷ [])) (steps_in (spent left f) more)) e)) found
    ∙ put_twice before (steps_of (entry ∷ [])) (steps_in (spent left entry) more)
    ∙ ap (λ steps. put_steps steps (steps_in (spent left entry) more)) (sym same)

-- an added field extends the steps before it
pub field_on : (before now : List LogStep) (left more : Allowance) (field : List ℕ) (fields : List (List ℕ))
    → AddsField (Some more) left field before now
    → put_steps before (steps_in left (field ∷ fields)) ≡ put_steps now (steps_in more fields)
field_on before now left more field fields h =
    entry_on before now left field h.0 fields h.1 h.2 ∙ ap (λ a. put_steps now (steps_in a fields)) (sym h.3)

-- ---- each entry takes from what may still come ----

abbrev pub still_to_come : Allowance → ℕ
still_to_come left = left.instructions + left.exchanges + left.accesses

abbrev TakesSome : Allowance → Entry → Type 0
TakesSome left entry = still_to_come (spent left entry) < still_to_come left

some_is : (b : Bool) (e entry : Entry) → cond b None (Some e) ≡ Some entry → (b ≡ false) × (e ≡ entry)
some_is true e entry h = absurd (cc)
some_is false e entry h = (refl, cc)

neither : (a b c : Bool) → ((a || b) || c) ≡ false → (b ≡ false) × (c ≡ false)
neither true b c h = absurd (cc)
neither false true c h = absurd (cc)
neither false false c h = (refl, h)

exchange_takes : (left : Allowance) (n : Option ℕ) (entry : Entry) → exchange_in left n ≡ Some entry
    → TakesSome left entry
exchange_takes left None entry h = absurd (cc)
exchange_takes left (Some n) entry h =
    let p = some_is (eqb left.exchanges 0) (Exchange n) entry h in
    subst (TakesSome left) p.1 (grind (arith, nat_tests, p.0))

count_takes : (left : Allowance) (n : Option ℕ) (entry : Entry) → count_in left n ≡ Some entry
    → TakesSome left entry
count_takes left None entry h = absurd (cc)
count_takes left (Some n) entry h =
    let p = some_is _ (Count n) entry h in
    let q = neither left.after_count (eqb n 0) (ltb left.instructions n) p.0 in
    subst (TakesSome left) p.1 (grind (arith, nat_tests, q))

read_takes : (left : Allowance) (a : Option ℕ) (entry : Entry) → read_in left a ≡ Some entry → TakesSome left entry
read_takes left None entry h = absurd (cc)
read_takes left (Some a) entry h =
    let p = some_is (eqb left.accesses 0) (PpRead a) entry h in
    subst (TakesSome left) p.1 (grind (arith, nat_tests, p.0))

write_takes : (left : Allowance) (a w : Option ℕ) (entry : Entry) → write_in left a w ≡ Some entry
    → TakesSome left entry
write_takes left None w entry h = absurd (cc)
write_takes left (Some a) None entry h = absurd (cc)
write_takes left (Some a) (Some w) entry h =
    let p = some_is (eqb left.accesses 0) (PpWrite a w) entry h in
    subst (TakesSome left) p.1 (grind (arith, nat_tests, p.0))

written_takes : (left : Allowance) (parts : List (List ℕ)) (entry : Entry) → written_in left parts ≡ Some entry
    → TakesSome left entry
written_takes left [] entry h = absurd (cc)
written_takes left (a ∷ []) entry h = absurd (cc)
written_takes left (a ∷ w ∷ []) entry h =
    write_takes left (number_without_leading_zeros 8 6 a) (word_without_leading_zeros w) entry h
written_takes left (a ∷ w ∷ other ∷ more) entry h = absurd (cc)

by_letter : (P : Type 0) (a b c d : Bool) (e i r w : Option Entry) (entry : Entry) → (e ≡ Some entry → P)
    → (i ≡ Some entry → P) → (r ≡ Some entry → P) → (w ≡ Some entry → P)
    → cond a e (cond b i (cond c r (cond d w None))) ≡ Some entry → P
by_letter P true b c d e i r w entry x y z v h = x h
by_letter P false true c d e i r w entry x y z v h = y h
by_letter P false false true d e i r w entry x y z v h = z h
by_letter P false false false true e i r w entry x y z v h = v h
by_letter P false false false false e i r w entry x y z v h = absurd (cc)

entry_takes : (left : Allowance) (field : List ℕ) (entry : Entry) → entry_in left field ≡ Some entry
    → TakesSome left entry
entry_takes left [] entry h = absurd (cc)
entry_takes left (letter ∷ digits) entry h =
    by_letter (TakesSome left entry) (eqb letter 69) (eqb letter 73) (eqb letter 82) (eqb letter 87) _ _ _ _ entry
    (exchange_takes left (number_without_leading_zeros 8 6 digits) entry)
    (count_takes left (number_without_leading_zeros 10 8 digits) entry)
    (read_takes left (number_without_leading_zeros 8 6 digits) entry)
    (written_takes left (slice_split (λ b. eqb b 61) digits) entry) h

pub takes_some : (left more : Allowance) (field : List ℕ) (before now : List LogStep)
    → AddsField (Some more) left field before now → still_to_come more < still_to_come left
takes_some left more field before now h =
    subst (λ m. still_to_come m < still_to_come left) (sym h.3) (entry_takes left field h.0 h.1)

entry_issued : (entry : Entry) → issued (steps_of (entry ∷ [])) ≡ entry_count entry
unfolding steps_of issued
entry_issued (Exchange n) = refl
entry_issued (PpRead a) = refl
entry_issued (PpWrite a w) = refl
entry_issued (Count n) = ap issued (append-nil (replicate n Issued)) ∙ issued-replicate n

-- the instruction count so far, and the allowance that is left
pub count_on : (before now : List LogStep) (left : Allowance) (entry : Entry) → now ≡ before ++ steps_of (entry ∷ [])
    → entry_count entry ≤ left.instructions → issued before + left.instructions ≤ 10000000
    → issued now + (spent left entry).instructions ≤ 10000000
count_on before now left (Exchange n) same within few =
    let a = ap issued same ∙ issued-append before (steps_of (Exchange n ∷ [])) in
    let b = entry_issued (Exchange n) in
    omega (arith, a, b)
count_on before now left (PpRead k) same within few =
    let a = ap issued same ∙ issued-append before (steps_of (PpRead k ∷ [])) in
    let b = entry_issued (PpRead k) in
    omega (arith, a, b)
count_on before now left (PpWrite k w) same within few =
    let a = ap issued same ∙ issued-append before (steps_of (PpWrite k w ∷ [])) in
    let b = entry_issued (PpWrite k w) in
    omega (arith, a, b)
count_on before now left (Count n) same within few =
    let a = ap issued same ∙ issued-append before (steps_of (Count n ∷ [])) in
    let b = entry_issued (Count n) in
    omega (arith, a, b)

pub added : {P : Type 0} (Q : Refusal → Type 0) (result : Result (Unit {0}) Refusal) → is_err result ≡ false
    → MatchResult result (λ _. P) Q → P
added Q (Ok x) ok h = h
added Q (Err e) ok h = cc

-- ---- a word that was written ----

three_onto : (left : Allowance) (a w : List ℕ) (x : ℕ) (parts : List (List ℕ))
    → None ≡ written_in left (a ∷ w ∷ onto_first x parts)
three_onto left a w x [] = refl
three_onto left a w x (part ∷ parts) = refl

three_parts : (left : Allowance) (a w more : List ℕ)
    → None ≡ written_in left (a ∷ w ∷ slice_split (λ b. b == 61) more)
three_parts left a w [] = refl
three_parts left a w (x ∷ xs) =
    elim (eqb x 61) as (λ v. None ≡ written_in left (a ∷ w ∷ cond v ([] ∷ slice_split (λ b. b == 61) xs)
    (onto_first x (slice_split (λ b. b == 61) xs))))
    [ true ↦ refl | false ↦ three_onto left a w x (slice_split (λ b. b == 61) xs) ]

-- a field with two equals signs is no entry
pub two_signs : (left : Allowance) (digits a rest w more : List ℕ)
    → slice_split (λ b. b == 61) digits ≡ a ∷ slice_split (λ b. b == 61) rest
    → slice_split (λ b. b == 61) rest ≡ w ∷ slice_split (λ b. b == 61) more
    → None ≡ written_in left (slice_split (λ b. b == 61) digits)
two_signs left digits a rest w more e f =
    three_parts left a w more ∙ ap (λ l. written_in left (a ∷ l)) (sym f) ∙ ap (written_in left) (sym e)

pub one_sign : (left : Allowance) (digits a rest w : List ℕ) (found : Option Entry)
    → slice_split (λ b. b == 61) digits ≡ a ∷ slice_split (λ b. b == 61) rest
    → slice_split (λ b. b == 61) rest ≡ w ∷ []
    → found ≡ write_in left (number_without_leading_zeros 8 6 a) (word_without_leading_zeros w)
    → found ≡ written_in left (slice_split (λ b. b == 61) digits)
one_sign left digits a rest w found e f h =
    h ∙ ap (λ l. written_in left (a ∷ l)) (sym f) ∙ ap (written_in left) (sym e)
