-- The effect of reading a line on the reading of a deck.
use Rattle.std.proofs.Common.{◌≡◌, ℕ, ◌+◌, ◌<◌, ◌≤◌, true, false, ltb, List, [], ◌∷◌, length, Option, None, Some, Ok}
use Rattle.std.proofs.Common.{Result, refl, sym, inl, inr, Err, ap, ◌∙◌, ◌++◌, drop, subst, arith}
use Rattle.std.proofs.lemmas.Bool.{lt-ltb, le-ltb}
use Rattle.std.proofs.Math.Seq.{drop-append_seam}
use Rattle.device_text.specs.Device.{Moves}
use Rattle.device_text.specs.Line.{IsText, LineTaken, left_after, lines_of}
use Rattle.device_text.specs.declared.line.LineRead.TheVariants.{Whole, Long}
use Rattle.device_text.proofs.Moving.{Moves-refl, Moves-weaker, Moves-trans}
use Rattle.deck.specs.Deck.{Ends, Good, Bad, deck, goes_on, read_from, read_on, applied_first, applied_line}
use Rattle.std.specs.Prelude.{MatchResult, IfOk}
use Rattle.deck.specs.Reading.{HasNoLine, Refuses, GivesNoDeck}
use Rattle.deck.specs.declared.deck.Draft.{Draft}
use Rattle.deck.specs.declared.deck.Deck.{Deck}
use Rattle.instructions.specs.declared.refusal.DeckFault.{DeckFault}
use Rattle.instructions.specs.declared.refusal.DeckFault.TheVariants as faults
use Rattle.instructions.specs.declared.refusal.Refusal.{Refusal}
use Rattle.instructions.specs.declared.refusal.Refusal.TheVariants as refusals
use Rattle.device_text.proofs.Lines.{FirstHas, lines_whole, lines_first_long}

-- a fault, after its line number was added
pub numbered : {T : Type 0} (found : Result T DeckFault) (told : Result T Refusal) (n : ℕ) (refusal : Refusal)
    → MatchResult found (λ x. told ≡ Ok x) (λ fault. told ≡ Err (refusals.Deck n fault))
    → told ≡ Err refusal → (fault : DeckFault) × (found ≡ Err fault) × (refusal ≡ refusals.Deck n fault)
numbered (Ok x) told n refusal m h = cc
numbered (Err fault) told n refusal m h = grind arith

-- a success, after the step that adds line numbers to faults
pub unrefused : {T : Type 0} (found : Result T DeckFault) (told : Result T Refusal) (n : ℕ) (x : T)
    → MatchResult found (λ y. told ≡ Ok y) (λ fault. told ≡ Err (refusals.Deck n fault))
    → told ≡ Ok x → found ≡ Ok x
unrefused (Ok y) told n x m h = ap Ok (subst (λ r. IfOk r (λ z. y ≡ z)) h
    (subst (λ r. IfOk r (λ z. y ≡ z)) (sym m) refl))
unrefused (Err fault) told n x m h = cc

-- the bytes that are left are the bytes after the next line
abbrev pub Taken : List ℕ → List ℕ → List ℕ → Type 0
Taken text xs ys = lines_of xs ≡ (text, ys) ∷ lines_of ys

pub taken_whole : (a b : Option (List ℕ)) (text : List ℕ) → IsText text → Moves a b (LineTaken Whole text)
    → Moves a b (Taken text)
taken_whole a b text h m =
    Moves-weaker a b (LineTaken Whole text) (Taken text) (λ xs ys e. lines_whole text xs ys h e) m

refuses_long : (n : ℕ) (xs ys : List ℕ) (lines : List (List ℕ × List ℕ)) → FirstHas 201 lines → ys ≡ drop 201 xs
    → Refuses n (refusals.Deck n faults.Long) xs ys lines
refuses_long n xs ys [] h left = absurd h
refuses_long n xs ys (line ∷ more) h left = inl (faults.Long, refl, (refl, omega arith, left))

-- reading a line that is too long takes 201 bytes
pub long_taken : (text xs ys : List ℕ) → length text ≡ 201 → xs ≡ text ++ ys → ys ≡ drop 201 xs
long_taken text xs ys e q =
    sym (drop-append_seam text ys) ∙ ap (λ n. drop n (text ++ ys)) e ∙ ap (drop 201) (sym q)

pub taken_long : (a b : Option (List ℕ)) (n : ℕ) (text : List ℕ) → IsText text → length text ≡ 201
    → Moves a b (LineTaken Long text) → Moves a b (λ xs ys. Refuses n (refusals.Deck n faults.Long) xs ys (lines_of xs))
taken_long a b n text h e m =
    Moves-weaker a b (LineTaken Long text) (λ xs ys. Refuses n (refusals.Deck n faults.Long) xs ys (lines_of xs))
    (λ xs ys q.
    refuses_long n xs ys (lines_of xs) (lines_first_long text xs ys h e q) (long_taken text xs ys e q)) m

-- reading a line that isn't too long leaves the bytes after it
left_short : (text xs ys : List ℕ) → length text ≤ 200 → left_after xs (text, ys) ≡ ys
left_short text xs ys h = let fits : ltb 200 (length text) ≡ false = le-ltb _ _ h in rw fits refl

-- before the first byte is read
pub read_nothing : (a : Option (List ℕ)) → Moves a a (λ xs ys. deck xs ≡ read_from 1 None ys (lines_of ys))
read_nothing a = Moves-refl a (λ xs ys. deck xs ≡ read_from 1 None ys (lines_of ys)) (λ xs. refl)

-- reading the whole deck equals reading on from line n with the draft that the earlier lines made
abbrev pub ReadsOn : ℕ → Option Draft → List ℕ → List ℕ → Type 0
ReadsOn n d xs ys = deck xs ≡ read_from n d ys (lines_of ys)

fault_there : (n : ℕ) (d : Option Draft) (fault : DeckFault) (xs ys : List ℕ) (lines : List (List ℕ × List ℕ))
    → n ≤ 10000000 → HasNoLine fault xs ys lines → read_from n d xs lines ≡ Bad n fault ys
fault_there n d fault xs ys [] low h =
    let within : ltb 10000000 n ≡ false = le-ltb _ _ low in rw (within, h.0, h.1) refl
fault_there n d fault xs ys (line ∷ more) low h = grind arith

refused_there : (n : ℕ) (d : Option Draft) (e : Refusal) (xs ys : List ℕ) (lines : List (List ℕ × List ℕ))
    → n ≤ 10000000
    → Refuses n e xs ys lines → GivesNoDeck e (read_from n d xs lines) ys
refused_there n d e xs ys lines low (inl h) = inl (n, h.0, h.1, fault_there n d h.0 xs ys lines low h.2)
refused_there n d e xs ys lines low (inr h) = inr (inr h)

pub line_refused : (a b c : Option (List ℕ)) (n : ℕ) (d : Option Draft) (e : Refusal) → n ≤ 10000000
    → Moves a b (ReadsOn n d) → Moves b c (λ xs ys. Refuses n e xs ys (lines_of xs))
    → Moves a c (λ xs ys. GivesNoDeck e (deck xs) ys)
line_refused a b c n d e low told m =
    Moves-trans a b c (ReadsOn n d) (λ xs ys. Refuses n e xs ys (lines_of xs)) (λ xs ys. GivesNoDeck e (deck xs) ys)
    (λ xs ys zs p q. subst (λ r. GivesNoDeck e r zs) (sym p) (refused_there n d e ys zs (lines_of ys) low q)) told m

-- reading on after one more line
reading_after_a_line : (n : ℕ) (d : Option Draft) (text xs ys zs : List ℕ) → n ≤ 10000000 → length text ≤ 200
    → ReadsOn n d xs ys → Taken text ys zs
    → deck xs ≡ read_on n (applied_line d text) zs (λ s. read_from (n + 1) (Some s) zs (lines_of zs))
reading_after_a_line n d text xs ys zs low short p q = search (arith, left_short, le-ltb)

pub line_fault : (a b c : Option (List ℕ)) (n : ℕ) (d : Option Draft) (text : List ℕ) (fault : DeckFault)
    → n ≤ 10000000 → length text ≤ 200 → Moves a b (ReadsOn n d) → Moves b c (Taken text)
    → applied_line d text ≡ Err fault → Moves a c (λ xs ys. GivesNoDeck (refusals.Deck n fault) (deck xs) ys)
line_fault a b c n d text fault low short told m h = search (arith, reading_after_a_line)

pub line_goes : (a b c : Option (List ℕ)) (n : ℕ) (d : Option Draft) (text : List ℕ) (next : Draft) → n ≤ 10000000
    → length text ≤ 200 → Moves a b (ReadsOn n d) → Moves b c (Taken text)
    → applied_line d text ≡ goes_on next → Moves a c (ReadsOn (n + 1) (Some next))
line_goes a b c n d text next low short told m h =
    Moves-trans a b c (ReadsOn n d) (Taken text) (ReadsOn (n + 1) (Some next))
    (λ xs ys zs p q. reading_after_a_line n d text xs ys zs low short p q
    ∙ ap (λ j. read_on n j zs (λ s. read_from (n + 1) (Some s) zs (lines_of zs))) h) told m

pub line_ends : (a b c : Option (List ℕ)) (n : ℕ) (d : Option Draft) (text : List ℕ) (whole : Deck) → n ≤ 10000000
    → length text ≤ 200 → Moves a b (ReadsOn n d) → Moves b c (Taken text)
    → applied_line d text ≡ Ok (Ends whole) → Moves a c (λ xs ys. deck xs ≡ Good whole n ys)
line_ends a b c n d text whole low short told m h =
    Moves-trans a b c (ReadsOn n d) (Taken text) (λ xs ys. deck xs ≡ Good whole n ys)
    (λ xs ys zs p q. reading_after_a_line n d text xs ys zs low short p q
    ∙ ap (λ j. read_on n j zs (λ s. read_from (n + 1) (Some s) zs (lines_of zs))) h) told m

all_read : (n : ℕ) (d : Option Draft) (bytes : List ℕ) (lines : List (List ℕ × List ℕ)) → 10000000 < n
    → read_from n d bytes lines ≡ Bad n faults.Lines bytes
all_read n d bytes [] h = let past : ltb 10000000 n ≡ true = lt-ltb _ _ h in rw past refl
all_read n d bytes (line ∷ more) h = let past : ltb 10000000 n ≡ true = lt-ltb _ _ h in rw past refl

pub lines_over : (a b : Option (List ℕ)) (n : ℕ) (d : Option Draft) → n ≡ 10000001 → Moves a b (ReadsOn n d)
    → Moves a b (λ xs ys. GivesNoDeck (refusals.Deck 10000001 faults.Lines) (deck xs) ys)
lines_over a b n d e told = grind (arith, all_read)

-- the first line, if it isn't too long
first_applied : (text : List ℕ) → length text ≤ 200 → applied_line None text ≡ applied_first text
first_applied text short = let fits : ltb 200 (length text) ≡ false = le-ltb _ _ short in rw fits refl

pub first_fault : (a b : Option (List ℕ)) (text : List ℕ) (fault : DeckFault) → length text ≤ 200
    → Moves a b (Taken text) → applied_first text ≡ Err fault
    → Moves a b (λ xs ys. GivesNoDeck (refusals.Deck 1 fault) (deck xs) ys)
first_fault a b text fault short m h =
    line_fault a a b 1 None text fault (omega arith) short (read_nothing a) m (first_applied text short ∙ h)
