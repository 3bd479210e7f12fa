-- The meaning of a deck's lines, and their effects on a deck, one line after another. Decks, lines and results are the
-- types of the code.
-- Source: ours.
use Rattle.std.specs.Prelude.{ℕ, ◌+◌, Bool, false, not, List, [], ◌∷◌, ◌++◌, length, Option, Some, None, is_some}
use Rattle.std.specs.Prelude.{Result, Ok, Err, nat_lt, nat_le, ◌&&◌, ◌||◌, if◌then◌else◌, codes}
use Rattle.std.specs.Str.{bytes_eq}
use Rattle.deck.specs.Image.{blank, placed_at}
use Rattle.device_text.specs.Line.{left_after, lines_of}
use Rattle.relocation.specs.Relocation.{package_fits}
use Rattle.word60.specs.Words.{from_octal}
use Rattle.device_text.specs.Text.{fields_of, from_space, number_of}
use Rattle.deck.specs.Code.{items_of, parcels_in, word_of}
use Rattle.deck.specs.declared.deck.Deck.{Deck}
use Rattle.deck.specs.declared.deck.Draft.{Draft}
use Rattle.deck.specs.declared.parsing.Line.{Line}
use Rattle.deck.specs.declared.parsing.Line.TheVariants as says
use Rattle.instructions.specs.declared.refusal.DeckFault.{DeckFault}
use Rattle.instructions.specs.declared.refusal.DeckFault.TheVariants as faults

-- the line with these fields, if it isn't a `code` line
abbrev pub parsed_fields : List (List ℕ) → Line (List ℕ)
parsed_fields [] = says.Unknown
parsed_fields (word ∷ []) = if bytes_eq word (codes "end") then says.End else says.Unknown
parsed_fields (word ∷ a ∷ []) =
    if bytes_eq word (codes "core") then says.Core a
    else if bytes_eq word (codes "at") then says.At a
    else if bytes_eq word (codes "word") then says.Word a
    else if bytes_eq word (codes "start") then says.Start a
    else says.Unknown
parsed_fields (word ∷ a ∷ b ∷ []) =
    if bytes_eq word (codes "show") then says.Show a b
    else if bytes_eq word (codes "ask") && bytes_eq b (codes "free") then says.AskFree a
    else says.Unknown
parsed_fields (word ∷ a ∷ b ∷ c ∷ []) =
    if bytes_eq word (codes "ask") && bytes_eq b (codes "after") then says.Ask a c else says.Unknown
parsed_fields (word ∷ a ∷ b ∷ c ∷ d ∷ more) = says.Unknown

-- whether the first field is this word
abbrev pub begins_with : List ℕ → List (List ℕ) → Bool
begins_with word [] = false
begins_with word (field ∷ more) = bytes_eq field word

-- the `code` line with this text after the word `code`. The text has to be longer than a space, or the fault is
-- `unknown`
abbrev pub parsed_code : List ℕ → Line (List ℕ)
parsed_code rest = if nat_lt 1 (length rest) then says.Code rest else says.Unknown

-- the line of a text
abbrev pub parsed_line : List ℕ → Line (List ℕ)
parsed_line text =
    if begins_with (codes "code") (fields_of text) then parsed_code (from_space text)
    else parsed_fields (fields_of text)

-- a deck after a line: either more lines follow, or the deck is whole
pub data Step : Type 0 where
  Goes : Draft → Step
  Ends : Deck → Step

-- the effect of a line on a deck: more lines follow, the deck is whole, or the line is at fault
abbrev pub LineOutcome : Type 0
LineOutcome = Result Step DeckFault

-- more lines of the deck follow
abbrev pub goes_on : Draft → LineOutcome
goes_on draft = Ok (Goes draft)

-- the fault if the test holds, or else what follows
abbrev pub refuse_if : Bool → DeckFault → LineOutcome → LineOutcome
refuse_if bad fault next = if bad then Err fault else next

-- what follows with the number, or the fault `number` if there is no number
abbrev pub with_number : Option ℕ → (ℕ → LineOutcome) → LineOutcome
with_number None next = Err faults.Number
with_number (Some n) next = next n

-- whether no memory can have this size (fault `size`)
abbrev pub is_no_size : ℕ → Bool
is_no_size n = nat_lt n 32 || nat_lt 131072 n

-- a deck with a memory of this many words and nothing else
abbrev pub begun : ℕ → Draft
begun n = record { image = blank n; next_address = 0; start = None; asks = []; free = []; shows = [] }

-- the effect of a `core` line as the first line. Its faults are `unknown` for a wrong number of fields, `number` and
-- `size`
abbrev pub applied_core : Line (List ℕ) → LineOutcome
applied_core (says.Core w) =
    with_number (number_of 10 6 w) (λ n. refuse_if (is_no_size n) faults.Size (goes_on (begun n)))
applied_core other = Err faults.Unknown

-- the whole deck of a draft, with the first exchange package at n
abbrev pub whole : Draft → ℕ → Deck
whole d n = record { image = d.image; start = n; asks = d.asks; free = d.free; shows = d.shows }

-- the effect of an `end` line: the deck is whole, or the fault is `no start`
abbrev pub ended : Draft → Option ℕ → LineOutcome
ended d None = Err faults.NoStart
ended d (Some n) = Ok (Ends (whole d n))

-- the number of words in memory
abbrev pub size : Draft → ℕ
size d = length d.image.memory

-- whether the deck has as many `ask` lines as a deck may have
abbrev pub has_all_asks : Draft → Bool
has_all_asks d = nat_le 64 (length d.asks + length d.free)

-- the deck with another request for an exchange with the package at n, or its fault: `many` comes before `package`
abbrev pub with_request : Draft → ℕ → Draft → LineOutcome
with_request d n next =
    refuse_if (has_all_asks d) faults.Many (refuse_if (not (package_fits n (size d))) faults.Package (goes_on next))

-- the deck after a word is placed at the next address, which increases by one
abbrev pub with_word : Draft → ℕ → Draft
with_word d w = record d { image = placed_at d.image d.next_address w; next_address = d.next_address + 1 }

-- the effect of a `code` line with these parcels: they make a word. If any text isn't that of an instruction the fault
-- is `instruction`. If there are more than four parcels it is `full`
abbrev pub coded : Draft → Option (List ℕ) → LineOutcome
coded d None = Err faults.Instruction
coded d (Some parcels) = refuse_if (nat_lt 4 (length parcels)) faults.Full (goes_on (with_word d (word_of parcels)))

-- the effect of a later line, or the first of its faults in this order: `unknown`, `number`, `size`, `repeated`,
-- `many`, `range`, `package`, `instruction`, `full`, `no start`
abbrev pub applied : Draft → Line (List ℕ) → LineOutcome
applied d (says.Core w) =
    with_number (number_of 10 6 w) (λ n. refuse_if (is_no_size n) faults.Size (Err faults.Repeated))
applied d (says.At a) =
    with_number (number_of 8 6 a)
    (λ n. refuse_if (nat_le (size d) n) faults.Range (goes_on (record d { next_address = n })))
applied d (says.Word v) =
    with_number (from_octal 20 v) (λ w. refuse_if (nat_le (size d) d.next_address) faults.Range
    (goes_on (with_word d w)))
applied d (says.Code texts) = refuse_if (nat_le (size d) d.next_address) faults.Range
    (coded d (parcels_in (items_of texts)))
applied d (says.Start a) =
    with_number (number_of 8 6 a)
    (λ n. refuse_if (is_some d.start) faults.Repeated
    (refuse_if (not (package_fits n (size d))) faults.Package (goes_on (record d { start = Some n }))))
applied d (says.Show a b) =
    with_number (number_of 8 6 a) (λ low. with_number (number_of 8 6 b) (λ high.
    refuse_if (nat_le 64 (length d.shows)) faults.Many
    (refuse_if (nat_le (size d) high || nat_lt high low) faults.Range
    (goes_on (record d { shows = d.shows ++ record { first = low; last = high } ∷ [] })))))
applied d (says.Ask a k) =
    with_number (number_of 8 6 a) (λ n. with_number (number_of 10 8 k) (λ count.
    refuse_if (nat_lt 10000000 count) faults.Number
    (with_request d n (record d { asks = d.asks ++ record { at = n; after = count } ∷ [] }))))
applied d (says.AskFree a) =
    with_number (number_of 8 6 a) (λ n. with_request d n (record d { free = d.free ++ n ∷ [] }))
applied d says.End = ended d d.start
applied d says.Unknown = Err faults.Unknown

-- the effect of the first line. If its first field isn't `core` the fault is `first`
abbrev pub applied_first : List ℕ → LineOutcome
applied_first text =
    refuse_if (not (begins_with (codes "core") (fields_of text))) faults.First (applied_core (parsed_line text))

-- the effect of a line on the deck of the lines before it, if there are any
abbrev pub applied_to : Option Draft → List ℕ → LineOutcome
applied_to None text = applied_first text
applied_to (Some d) text = applied d (parsed_line text)

-- the effect of a line that may be too long (`long`)
abbrev pub applied_line : Option Draft → List ℕ → LineOutcome
applied_line before text = refuse_if (nat_lt 200 (length text)) faults.Long (applied_to before text)

-- the reading of a deck. `Good` has the deck, the number of its `end` line and the bytes after that line. `Bad` has the
-- number of a line, its fault and the bytes left unread
pub data Reading : Type 0 where
  Good : Deck → ℕ → List ℕ → Reading
  Bad : ℕ → DeckFault → List ℕ → Reading

-- the reading that continues after line n, which leaves these bytes
abbrev pub read_on : ℕ → LineOutcome → List ℕ → (Draft → Reading) → Reading
read_on n (Ok (Goes draft)) rest next = next draft
read_on n (Ok (Ends whole)) rest next = Good whole n rest
read_on n (Err fault) rest next = Bad n fault rest

-- the reading of these bytes from line n on. Each line comes with the bytes after it. Past line 10,000,000 the fault is
-- `lines`, and nothing more is read. If no line is left before that the fault is `no end`, and no byte is left
abbrev pub read_from : ℕ → Option Draft → List ℕ → List (List ℕ × List ℕ) → Reading
read_from n before bytes [] = Bad n (if nat_lt 10000000 n then faults.Lines else faults.NoEnd) bytes
read_from n before bytes (line ∷ lines) = if nat_lt 10000000 n then Bad n faults.Lines bytes
    else read_on n (applied_line before line.0) (left_after bytes line)
    (λ next. read_from (n + 1) (Some next) line.1 lines)

-- the reading of the deck at the beginning of the bytes
abbrev pub deck : List ℕ → Reading
deck bytes = read_from 1 None bytes (lines_of bytes)
