-- An entry of a log has at most 28 bytes.
use Rattle.std.proofs.Common.{◌≡◌, ◌≢◌, ℕ, suc, ◌+◌, ◌<◌, ◌≤◌, Bool, true, false, cond, eqb, List, [], ◌∷◌, ◌++◌}
use Rattle.std.proofs.Common.{length, length-append, All, Option, Some, None, refl, sym, ap, ◌∙◌, subst, arith, ◌⊎◌}
use Rattle.std.proofs.Common.{inl, inr}
use Rattle.std.proofs.lemmas.Bool.{ne_eqb}
use Rattle.std.proofs.lemmas.Bool.Decides.{nat_tests}
use Rattle.std.proofs.lemmas.List.Splits.{join_with_byte-slice_split}
use Rattle.std.proofs.lemmas.List.Elements.{All-head, All-tail}
use Rattle.std.specs.List.{join_with_byte, onto_first, slice_split}
use Rattle.std.specs.Prelude.{nat_le, ◌&&◌, option_and_then}
use Rattle.word60.specs.Words.{from_octal}
use Rattle.sequential.specs.Log.{steps_of}
use Rattle.sequential.specs.declared.log.Entry.{Entry}
use Rattle.device_text.specs.Text.{fields_of, number_of}
use Rattle.log_text.specs.LogText.{entry_in, exchange_in, count_in, read_in, write_in, written_in, steps_in, put_steps}
use Rattle.log_text.specs.LogText.{number_without_leading_zeros, word_without_leading_zeros, has_leading_zero, spent}
use Rattle.log_text.specs.declared.logs.Allowance.{Allowance}

unless : {X : Type 0} (b : Bool) (found : Option X) → found ≡ None → cond b None found ≡ None
unless true found h = refl
unless false found h = h

many_digits : (a b c : Bool) (x : ℕ) → b ≡ false → cond ((a && b) && c) (Some x) None ≡ None
many_digits true true c x h = cc
many_digits true false c x h = refl
many_digits false b c x h = refl

too_many : (n most : ℕ) → most < n → nat_le n most ≡ false
too_many n most h = grind (arith, nat_tests)

number_long : (base most : ℕ) (digits : List ℕ) → most < length digits
    → number_without_leading_zeros base most digits ≡ None
number_long base most digits h =
    unless (has_leading_zero digits) (number_of base most digits)
    (many_digits _ (nat_le (length digits) most) _ _ (too_many (length digits) most h))

word_long : (digits : List ℕ) → 20 < length digits → word_without_leading_zeros digits ≡ None
unfolding from_octal
word_long digits h =
    unless (has_leading_zero digits) (from_octal 20 digits)
    (many_digits _ (nat_le (length digits) 20) _ _ (too_many (length digits) 20 h))

-- no entry writes a word if its field is longer than an address and a word
write_no_word : (left : Allowance) (a : Option ℕ) → write_in left a None ≡ None
write_no_word left None = refl
write_no_word left (Some n) = refl

long_parts : (left : Allowance) (a w : List ℕ) → 6 < length a ⊎ 20 < length w
    → written_in left (a ∷ w ∷ []) ≡ None
long_parts left a w (inl h) =
    ap (λ n. write_in left n (word_without_leading_zeros w)) (number_long 8 6 a h)
long_parts left a w (inr h) =
    ap (write_in left (number_without_leading_zeros 8 6 a)) (word_long w h) ∙ write_no_word left _

six_or_twenty : (a w : ℕ) → 27 < a + suc w → (6 < a) ⊎ (20 < w)
six_or_twenty a w h = grind (arith, nat_tests)

written_long : (left : Allowance) (parts : List (List ℕ)) → 27 < length (join_with_byte 61 parts)
    → written_in left parts ≡ None
written_long left [] h = refl
written_long left (a ∷ []) h = refl
written_long left (a ∷ w ∷ []) h =
    long_parts left a w (six_or_twenty (length a) (length w) (omega (arith, h, length-append a (61 ∷ w))))
written_long left (a ∷ w ∷ other ∷ more) h = refl

-- a field longer than 28 bytes is no entry
pub entry_long : (left : Allowance) (field : List ℕ) → 28 < length field → entry_in left field ≡ None
entry_long left [] h = refl
entry_long left (letter ∷ digits) h =
    let e = ap (exchange_in left) (number_long 8 6 digits (omega (arith, h))) in
    let i = ap (count_in left) (number_long 10 8 digits (omega (arith, h))) in
    let r = ap (read_in left) (number_long 8 6 digits (omega (arith, h))) in
    let w = written_long left (slice_split (λ b. eqb b 61) digits)
    (subst (λ (l : List ℕ). 27 < length l) (sym (join_with_byte-slice_split 61 digits)) (omega (arith, h))) in
    rw (e, i, r, w) (none_of (eqb letter 69) (eqb letter 73) (eqb letter 82) (eqb letter 87))
  where
    none_of : (a b c d : Bool) → cond {A = Option Entry} a None (cond b None (cond c None (cond d None None))) ≡ None
    none_of true b c d = refl
    none_of false true c d = refl
    none_of false false true d = refl
    none_of false false false true = refl
    none_of false false false false = refl

-- ---- the first field of a text that begins with bytes that aren't spaces ----

abbrev pub FirstHas : ℕ → List (List ℕ) → Type 0
FirstHas n [] = ⊥
FirstHas n (field ∷ more) = n ≤ length field

onto_has : (n b : ℕ) (fields : List (List ℕ)) → FirstHas n fields → FirstHas (suc n) (onto_first b fields)
onto_has n b [] h = absurd h
onto_has n b (field ∷ fields) h = omega (arith, h)

onto_any : (b : ℕ) (fields : List (List ℕ)) → FirstHas 0 fields → FirstHas 0 (onto_first b fields)
onto_any b [] h = absurd h
onto_any b (field ∷ fields) h = omega arith

by_space : (b : ℕ) (v : Bool) (fields : List (List ℕ)) → FirstHas 0 fields
    → FirstHas 0 (cond v ([] ∷ fields) (onto_first b fields))
by_space b true fields h = omega arith
by_space b false fields h = onto_any b fields h

has_field : (text : List ℕ) → FirstHas 0 (fields_of text)
has_field [] = omega arith
has_field (b ∷ text) = by_space b (eqb b 32) (fields_of text) (has_field text)

first_long : (text more : List ℕ) → All (λ b. b ≢ 32) text → FirstHas (length text) (fields_of (text ++ more))
first_long [] more h = has_field more
first_long (b ∷ text) more h =
    subst (λ v. FirstHas (suc (length text))
    (cond v ([] ∷ fields_of (text ++ more)) (onto_first b (fields_of (text ++ more)))))
    (sym (ne_eqb b 32 (All-head (λ c. c ≢ 32) b text h)))
    (onto_has (length text) b (fields_of (text ++ more)) (first_long text more (All-tail (λ c. c ≢ 32) b text h)))

none_steps : (left : Allowance) (n : ℕ) (fields : List (List ℕ)) → 28 < n → FirstHas n fields
    → steps_in left fields ≡ None
none_steps left n [] l h = absurd h
none_steps left n (field ∷ more) l h =
    ap (option_and_then (λ entry. put_steps (steps_of (entry ∷ [])) (steps_in (spent left entry) more)))
    (entry_long left field (omega (arith, l, h)))

-- a text whose first field is longer than 28 bytes has no steps
pub steps_long : (left : Allowance) (text more : List ℕ) → All (λ b. b ≢ 32) text → 28 < length text
    → steps_in left (fields_of (text ++ more)) ≡ None
steps_long left text more h l =
    none_steps left (length text) (fields_of (text ++ more)) l (first_long text more h)
