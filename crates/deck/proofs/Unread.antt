-- The number of bytes after a deck that was read only in part.
use Rattle.std.proofs.Common.{◌≡◌, ◌≢◌, ℕ, ◌+◌, ◌≤◌, true, false, cond, Bool, ltb, List, [], ◌∷◌, ◌++◌, length, drop}
use Rattle.std.proofs.Common.{Option, None, Some, Ok, Err, sym, subst, arith, inl, inr, ap, ◌∙◌}
use Rattle.std.proofs.lemmas.Bool.{ne_eqb}
use Rattle.std.proofs.lemmas.List.Elements.{All-head, All-tail}
use Rattle.deck.specs.Deck.{Goes, Ends, Reading, Bad, LineOutcome, deck, read_from, read_on}
use Rattle.deck.specs.Deck.{applied_line, applied_to, refuse_if}
use Rattle.device_text.specs.Device.{Moves}
use Rattle.device_text.specs.Line.{IsText, ReadsPart, left_after, lines_of, onto}
use Rattle.deck.specs.Reading.{EndsWithin, Refuses, is_cut, is_read_failure}
use Rattle.deck.specs.declared.deck.Deck.{Deck}
use Rattle.deck.specs.declared.deck.Draft.{Draft}
use Rattle.instructions.specs.declared.refusal.Refusal.{Refusal}
use Rattle.instructions.specs.declared.refusal.DeckFault.TheVariants as faults
use Rattle.deck.proofs.DeckLines.{ReadsOn, Taken}
use Rattle.device_text.proofs.Moving.{Moves-trans}

-- after each line, at most k bytes are left
abbrev Behind : ℕ → List (List ℕ × List ℕ) → Type 0
Behind k [] = Unit {0}
Behind k (line ∷ lines) = (length line.1 ≤ k) × Behind k lines

after_more : (k m : ℕ) (lines : List (List ℕ × List ℕ)) → k ≤ m → Behind k lines → Behind m lines
after_more k m [] l h = tt
after_more k m (line ∷ lines) l h = let first = h.0 in (omega (arith, l, first), after_more k m lines l h.1)

after_onto : (k b : ℕ) (lines : List (List ℕ × List ℕ)) → Behind k lines → Behind k (onto b lines)
after_onto k b [] h = (omega arith, tt)
after_onto k b (line ∷ lines) h = h

after_lines : (ys : List ℕ) → Behind (length ys) (lines_of ys)
after_lines [] = tt
after_lines (b ∷ ys) = grind (arith, after_lines ys, after_more, after_onto)

after_part : (part ys : List ℕ) → IsText part → Behind (length ys) (lines_of (part ++ ys))
after_part [] ys h = after_lines ys
after_part (b ∷ part) ys h =
    rw (ne_eqb b 10 (All-head (λ b. b ≢ 10) b part h))
    (after_onto (length ys) b (lines_of (part ++ ys)) (after_part part ys (All-tail (λ b. b ≢ 10) b part h)))

on_within : (k n : ℕ) (j : LineOutcome) (rest : List ℕ) (next : Draft → Reading) → length rest ≤ k
    → ((s : Draft) → EndsWithin k (next s)) → EndsWithin k (read_on n j rest next)
on_within k n (Ok (Goes s)) rest next l h = h s
on_within k n (Ok (Ends whole)) rest next l h = l
on_within k n (Err fault) rest next l h = tt

-- the same for a line that may be too long
line_within : (k n : ℕ) (long : Bool) (j : LineOutcome) (bytes rest : List ℕ) (next : Draft → Reading) → length rest ≤ k
    → ((s : Draft) → EndsWithin k (next s))
    → EndsWithin k (read_on n (refuse_if long faults.Long j) (cond long (drop 201 bytes) rest) next)
line_within k n true j bytes rest next l h = tt
line_within k n false j bytes rest next l h = on_within k n j rest next l h

from_within : (k n : ℕ) (s : Option Draft) (bytes : List ℕ) (lines : List (List ℕ × List ℕ)) → Behind k lines
    → EndsWithin k (read_from n s bytes lines)
from_within k n s bytes [] h = tt
from_within k n s bytes (line ∷ lines) h =
    elim (ltb 10000000 n) as (λ v. EndsWithin k
    (cond v (Bad n faults.Lines bytes)
    (read_on n (applied_line s line.0) (left_after bytes line) (λ t. read_from (n + 1) (Some t) line.1 lines)))) [
      | true ↦ tt
      | false ↦ line_within k n (ltb 200 (length line.0)) (applied_to s line.0) bytes line.1
          (λ t. read_from (n + 1) (Some t) line.1 lines) h.0 (λ t. from_within k (n + 1) (Some t) line.1 lines h.1)
    ]

-- the unread bytes are at most the bytes after the deck
abbrev pub Unread : List ℕ → List ℕ → Type 0
Unread xs ys = EndsWithin (length ys) (deck xs)

-- reading a line failed, since the line's only other refusal is a fault of the deck
failed_read : (n : ℕ) (e : Refusal) (xs ys : List ℕ) → Refuses n e xs ys (lines_of xs)
    → is_cut {T = Deck × ℕ} (Err e) ≡ true → is_read_failure {T = Unit {0}} (Err e) ≡ true
failed_read n e xs ys (inl h) c =
    let fault : false ≡ true = sym (ap (λ x. is_cut {T = Deck × ℕ} (Err x)) h.1) ∙ c in absurd (cc)
failed_read n e xs ys (inr h) c = ap (λ x. is_read_failure {T = Unit {0}} (Err x)) h

pub line_cut : (a b c : Option (List ℕ)) (n : ℕ) (d : Option Draft) (e : Refusal) → Moves a b (ReadsOn n d)
    → Moves b c (λ xs ys. Refuses n e xs ys (lines_of xs))
    → (is_read_failure {T = Unit {0}} (Err e) ≡ true → Moves b c ReadsPart)
    → is_cut {T = Deck × ℕ} (Err e) ≡ true → Moves a c Unread
line_cut None b c n d e told m part h = tt
line_cut (Some xs) None c n d e told m part h = absurd told
line_cut (Some xs) (Some ys) None n d e told m part h = absurd m
line_cut (Some xs) (Some ys) (Some zs) n d e told m part h = grind (arith, failed_read, from_within, after_part)

pub line_taken : (a b c : Option (List ℕ)) (n : ℕ) (d : Option Draft) (text : List ℕ) → Moves a b (ReadsOn n d)
    → Moves b c (Taken text) → Moves a c Unread
line_taken a b c n d text told taken =
    Moves-trans a b c (ReadsOn n d) (Taken text) Unread (λ xs ys zs p q.
    subst (EndsWithin (length zs)) (sym p)
    (from_within (length zs) n d ys (lines_of ys)
    (subst (Behind (length zs)) (sym q) (omega arith, after_lines zs)))) told taken
