-- The packages that a judged deck names are within its memory.
use Rattle.std.proofs.Common.{◌≡◌, ℕ, ◌+◌, Bool, true, false, not, cond, ltb, List, [], ◌∷◌, length, Option, None}
use Rattle.std.proofs.Common.{Some, Ok, Err, refl, sym, subst}
use Rattle.std.specs.Prelude.{All, IfSome, is_some, nat_le, nat_lt}
use Rattle.std.proofs.lemmas.Bool.{not-false}
use Rattle.std.proofs.lemmas.List.{length-set}
use Rattle.std.proofs.lemmas.List.Elements.{All-nil, All-push}
use Rattle.deck.specs.Code.{items_of, parcels_in, word_of}
use Rattle.deck.specs.Deck.{Ends, Goes, LineOutcome, Reading, Good, Bad, applied, applied_core, applied_line, applied_to}
use Rattle.deck.specs.Deck.{begun, coded, deck, ended, goes_on, has_all_asks, is_no_size, parsed_line, read_from}
use Rattle.deck.specs.Deck.{read_on, refuse_if, size, with_number, with_request, with_word}
use Rattle.deck.specs.declared.deck.AskLine.{AskLine}
use Rattle.deck.specs.declared.deck.Deck.{Deck}
use Rattle.deck.specs.declared.deck.Draft.{Draft}
use Rattle.deck.specs.declared.parsing.Line.{Line}
use Rattle.deck.specs.declared.parsing.Line.TheVariants as says
use Rattle.device_text.specs.Line.{left_after, lines_of}
use Rattle.device_text.specs.Text.{number_of}
use Rattle.instructions.specs.declared.refusal.DeckFault.{DeckFault}
use Rattle.instructions.specs.declared.refusal.DeckFault.TheVariants as faults
use Rattle.relocation.specs.Relocation.{package_fits}
use Rattle.word60.specs.Words.{from_octal}

-- the sixteen words of each package that the deck names are within its memory
pub record IsFit (deck : Deck) : Type 0 where
  pub start : package_fits deck.start (length deck.image.memory) ≡ true
  pub asks : All (λ ask. package_fits ask.at (length deck.image.memory) ≡ true) deck.asks
  pub free : All (λ at. package_fits at (length deck.image.memory) ≡ true) deck.free

-- the sixteen words of a package are within a memory of this size
abbrev pub Lies : ℕ → ℕ → Type 0
Lies size at = package_fits at size ≡ true

-- the packages named so far are within a memory of this size
record Fits (size : ℕ) (first : Option ℕ) (given : List AskLine) (always : List ℕ) : Type 0 where
  pub start : IfSome first (Lies size)
  pub asks : All (λ (ask : AskLine). Lies size ask.at) given
  pub free : All (Lies size) always

-- the packages that a draft names are within its memory
abbrev DraftFits : Draft → Type 0
DraftFits d = Fits (size d) d.start d.asks d.free

-- a draft or deck that comes of a line has its packages within memory. It is unfolded only where it is named, so that
-- the tests of a line are found by comparing its argument
unfoldable OutcomeFits : LineOutcome → Type 0
OutcomeFits (Ok (Goes d)) = DraftFits d
OutcomeFits (Ok (Ends whole)) = IsFit whole
OutcomeFits (Err fault) = Unit {0}

-- ---- one line ----

-- after a test that refuses, its condition is false
if_taken : (bad : Bool) (fault : DeckFault) (next : LineOutcome) → (bad ≡ false → OutcomeFits next)
    → OutcomeFits (refuse_if bad fault next)
unfolding OutcomeFits
if_taken true fault next h = tt
if_taken false fault next h = h refl

if_number : (o : Option ℕ) (next : ℕ → LineOutcome) → ((n : ℕ) → OutcomeFits (next n))
    → OutcomeFits (with_number o next)
unfolding OutcomeFits
if_number None next h = tt
if_number (Some n) next h = h n

goes : (d : Draft) → DraftFits d → OutcomeFits (goes_on d)
unfolding OutcomeFits
goes d f = f

fails : (fault : DeckFault) → OutcomeFits (Err fault)
unfolding OutcomeFits
fails fault = tt

begun_fits : (n : ℕ) → DraftFits (begun n)
begun_fits n = record { start = tt; asks = All-nil _; free = All-nil _ }

-- placing a word keeps the size of memory
word_fits : (d : Draft) (w : ℕ) → DraftFits d → DraftFits (with_word d w)
word_fits d w f =
    subst (λ n. Fits n d.start d.asks d.free) (sym (length-set d.image.memory d.next_address w)) f

request_fits : (d next : Draft) (n : ℕ) → (Lies (size d) n → DraftFits next)
    → OutcomeFits (with_request d n next)
request_fits d next n h =
    if_taken (has_all_asks d) faults.Many _ (λ a. if_taken (not (package_fits n (size d))) faults.Package _
    (λ b. goes next (h (not-false _ b))))

coded_fits : (d : Draft) (o : Option (List ℕ)) → DraftFits d → OutcomeFits (coded d o)
coded_fits d None f = fails faults.Instruction
coded_fits d (Some parcels) f = if_taken _ faults.Full _ (λ a. goes _ (word_fits d (word_of parcels) f))

ended_fits : (d : Draft) (start : Option ℕ) → Fits (size d) start d.asks d.free → OutcomeFits (ended d start)
unfolding OutcomeFits
ended_fits d None f = tt
ended_fits d (Some n) f = record { start = f.start; asks = f.asks; free = f.free }

core_fits : (line : Line (List ℕ)) → OutcomeFits (applied_core line)
core_fits (says.Core w) =
    if_number (number_of 10 6 w) _ (λ n. if_taken (is_no_size n) faults.Size _ (λ a. goes _ (begun_fits n)))
core_fits other = fails faults.Unknown

line_fits : (d : Draft) (line : Line (List ℕ)) → DraftFits d → OutcomeFits (applied d line)
line_fits d (says.Core w) f =
    if_number (number_of 10 6 w) _ (λ n. if_taken (is_no_size n) faults.Size _ (λ t. fails faults.Repeated))
line_fits d (says.At a) f = if_number (number_of 8 6 a) _ (λ n. if_taken _ faults.Range _ (λ t. goes _ f))
line_fits d (says.Word v) f =
    if_number (from_octal 20 v) _ (λ w. if_taken _ faults.Range _ (λ t. goes _ (word_fits d w f)))
line_fits d (says.Code texts) f = if_taken _ faults.Range _ (λ t. coded_fits d (parcels_in (items_of texts)) f)
line_fits d (says.Start a) f =
    if_number (number_of 8 6 a) _ (λ n. if_taken (is_some d.start) faults.Repeated _ (λ t.
    if_taken (not (package_fits n (size d))) faults.Package _ (λ u.
    goes _ (record { start = not-false _ u; asks = f.asks; free = f.free }))))
line_fits d (says.Show a b) f =
    if_number (number_of 8 6 a) _ (λ low. if_number (number_of 8 6 b) _ (λ high.
    if_taken (nat_le 64 (length d.shows)) faults.Many _ (λ t. if_taken _ faults.Range _ (λ u. goes _ f))))
line_fits d (says.Ask a k) f =
    if_number (number_of 8 6 a) _ (λ n. if_number (number_of 10 8 k) _ (λ count.
    if_taken (nat_lt 10000000 count) faults.Number _ (λ t. request_fits d _ n (λ lies. record {
      start = f.start;
      asks = All-push (λ (ask : AskLine). Lies (size d) ask.at) d.asks _ f.asks lies;
      free = f.free;
    }))))
line_fits d (says.AskFree a) f =
    if_number (number_of 8 6 a) _ (λ n. request_fits d _ n (λ lies. record {
      start = f.start;
      asks = f.asks;
      free = All-push (Lies (size d)) d.free n f.free lies;
    }))
line_fits d says.End f = ended_fits d d.start f
line_fits d says.Unknown f = fails faults.Unknown

-- ---- the lines of a deck ----

-- the draft of the earlier lines, if there is one, has its packages within memory
abbrev BeforeFits : Option Draft → Type 0
BeforeFits None = Unit {0}
BeforeFits (Some d) = DraftFits d

-- the deck, if one is read, has its packages within memory
abbrev ReadingFits : Reading → Type 0
ReadingFits (Good d n rest) = IsFit d
ReadingFits (Bad n fault rest) = Unit {0}

to_fits : (before : Option Draft) (text : List ℕ) → BeforeFits before → OutcomeFits (applied_to before text)
to_fits None text f = if_taken _ faults.First _ (λ a. core_fits (parsed_line text))
to_fits (Some d) text f = line_fits d (parsed_line text) f

on_fits : (n : ℕ) (j : LineOutcome) (rest : List ℕ) (next : Draft → Reading) → OutcomeFits j
    → ((d : Draft) → DraftFits d → ReadingFits (next d)) → ReadingFits (read_on n j rest next)
unfolding OutcomeFits
on_fits n (Ok (Goes d)) rest next f h = h d f
on_fits n (Ok (Ends whole)) rest next f h = f
on_fits n (Err fault) rest next f h = tt

from_fits : (n : ℕ) (before : Option Draft) (bytes : List ℕ) (lines : List (List ℕ × List ℕ)) → BeforeFits before
    → ReadingFits (read_from n before bytes lines)
from_fits n before bytes [] f = tt
from_fits n before bytes (line ∷ lines) f =
    elim (ltb 10000000 n) as (λ v. ReadingFits (cond v (Bad n faults.Lines bytes)
    (read_on n (applied_line before line.0) (left_after bytes line)
    (λ d. read_from (n + 1) (Some d) line.1 lines)))) [
      | true ↦ tt
      | false ↦ on_fits n (applied_line before line.0) (left_after bytes line)
          (λ d. read_from (n + 1) (Some d) line.1 lines)
          (if_taken _ faults.Long _ (λ a. to_fits before line.0 f))
          (λ d g. from_fits (n + 1) (Some d) line.1 lines g)
    ]

-- the packages that a judged deck names are within its memory
pub deck_fits : (bytes : List ℕ) (d : Deck) (n : ℕ) (rest : List ℕ) → deck bytes ≡ Good d n rest → IsFit d
deck_fits bytes d n rest e = subst ReadingFits e (from_fits 1 None bytes (lines_of bytes) tt)
