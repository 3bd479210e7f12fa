-- The steps that the text of a log lists.
-- Source: ours.
use Rattle.std.specs.Prelude.{◌≡◌, ℕ, ◌+◌, ◌-◌, ◌≤◌, Bool, true, false, ◌||◌, ◌==◌, nat_lt, if◌then◌else◌, List, []}
use Rattle.std.specs.Prelude.{◌∷◌, ◌++◌, Option, Some, None, codes, option_map, option_and_then}
use Rattle.std.specs.List.{slice_split}
use Rattle.std.specs.Str.{bytes_eq}
use Rattle.word60.specs.Words.{from_octal}
use Rattle.sequential.specs.declared.log.Entry.{Entry}
use Rattle.sequential.specs.declared.log.Entry.TheVariants.{Issued as Count, Exchange, PpRead, PpWrite}
use Rattle.sequential.specs.declared.log.Log.{Log}
use Rattle.sequential.specs.Log.{steps_of, issued}
use Rattle.sequential.specs.Replay.{LogStep}
use Rattle.device_text.specs.Text.{fields_of, number_of}
use Rattle.log_text.specs.declared.logs.Allowance.{Allowance}

-- the allowance at the beginning of a log: 10,000,000 instructions, 1,000,000 exchanges and 1,000,000 peripheral
-- accesses
abbrev pub whole_allowance : Allowance
whole_allowance =
    record { after_count = false; instructions = 10000000; exchanges = 1000000; accesses = 1000000 }

-- whether a 0 comes before another digit
abbrev pub has_leading_zero : List ℕ → Bool
has_leading_zero [] = false
has_leading_zero (d ∷ []) = false
has_leading_zero (d ∷ e ∷ more) = d == 48

-- the number that digits without leading zeros denote, if there are no more digits than allowed
abbrev pub number_without_leading_zeros : ℕ → ℕ → List ℕ → Option ℕ
number_without_leading_zeros base most digits = if has_leading_zero digits then None else number_of base most digits

-- the entry of an exchange, if its address is a number and another exchange may come
abbrev pub exchange_in : Allowance → Option ℕ → Option Entry
exchange_in left None = None
exchange_in left (Some n) = if left.exchanges == 0 then None else Some (Exchange n)

-- the entry of a count, unless the count is 0, follows another count or is more than the instructions that are left
abbrev pub count_in : Allowance → Option ℕ → Option Entry
count_in left None = None
count_in left (Some n) = if left.after_count || (n == 0) || nat_lt left.instructions n then None else Some (Count n)

-- the word that at most twenty octal digits without leading zeros denote
abbrev pub word_without_leading_zeros : List ℕ → Option ℕ
word_without_leading_zeros digits = if has_leading_zero digits then None else from_octal 20 digits

-- the entry of a peripheral read, if its address is a number and another access may come
abbrev pub read_in : Allowance → Option ℕ → Option Entry
read_in left None = None
read_in left (Some a) = if left.accesses == 0 then None else Some (PpRead a)

-- the entry of a peripheral write, if its address and its word are numbers and another access may come
abbrev pub write_in : Allowance → Option ℕ → Option ℕ → Option Entry
write_in left None word = None
write_in left (Some a) None = None
write_in left (Some a) (Some w) = if left.accesses == 0 then None else Some (PpWrite a w)

-- the entry of a peripheral write, from its parts between `=` signs: there have to be two parts
abbrev pub written_in : Allowance → List (List ℕ) → Option Entry
written_in left [] = None
written_in left (address ∷ []) = None
written_in left (address ∷ word ∷ []) =
    write_in left (number_without_leading_zeros 8 6 address) (word_without_leading_zeros word)
written_in left (address ∷ word ∷ other ∷ more) = None

-- the entry of a field, such as `E40`, `I10`, `R110` or `W110=5`. An address has one to six octal digits, a count one
-- to eight decimal digits, and a word one to twenty octal digits
abbrev pub entry_in : Allowance → List ℕ → Option Entry
entry_in left [] = None
entry_in left (letter ∷ digits) =
    if letter == 69 then exchange_in left (number_without_leading_zeros 8 6 digits)
    else if letter == 73 then count_in left (number_without_leading_zeros 10 8 digits)
    else if letter == 82 then read_in left (number_without_leading_zeros 8 6 digits)
    else if letter == 87 then written_in left (slice_split (λ b. b == 61) digits)
    else None

-- how many issued instructions an entry counts
abbrev pub entry_count : Entry → ℕ
entry_count (Exchange n) = 0
entry_count (Count n) = n
entry_count (PpRead a) = 0
entry_count (PpWrite a w) = 0

-- the allowance after an entry
abbrev pub spent : Allowance → Entry → Allowance
spent left (Exchange n) = record left { after_count = false; exchanges = left.exchanges - 1 }
spent left (Count n) = record left { after_count = true; instructions = left.instructions - n }
spent left (PpRead a) = record left { after_count = false; accesses = left.accesses - 1 }
spent left (PpWrite a w) = record left { after_count = false; accesses = left.accesses - 1 }

-- the steps followed by the others, if the others are valid
abbrev pub put_steps : List LogStep → Option (List LogStep) → Option (List LogStep)
put_steps steps more = option_map (λ others. steps ++ others) more

-- the steps of a list of fields, if each field is an entry that may come
abbrev pub steps_in : Allowance → List (List ℕ) → Option (List LogStep)
steps_in left [] = Some []
steps_in left (field ∷ more) =
    option_and_then (λ entry. put_steps (steps_of (entry ∷ [])) (steps_in (spent left entry) more))
    (entry_in left field)

-- the steps of a log's text: `none`, or entries with one space between them; any other text is refused as `bad log`
unfoldable pub log_in : List ℕ → Option (List LogStep)
log_in text = if bytes_eq text (codes "none") then Some [] else steps_in whole_allowance (fields_of text)

-- the log that was read has these steps. `None` means that the text isn't that of a log
abbrev pub LogHas : Option Log → Option (List LogStep) → Type 0
LogHas None steps = steps ≡ None
LogHas (Some log) steps = steps ≡ Some log.steps

-- the steps of the log that was read, if one was read
abbrev pub steps_of_log : Option Log → Option (List LogStep)
steps_of_log found = option_map (λ (log : Log). log.steps) found

-- a field was read as the next entry, which took the log from `before` to `now` and left an allowance. The instructions
-- so far and those that may still come are at most 10,000,000. `None` means that the field isn't an entry that may come
abbrev pub AddsField : Option Allowance → Allowance → List ℕ → List LogStep → List LogStep → Type 0
AddsField None left field before now = entry_in left field ≡ None
AddsField (Some more) left field before now =
    (entry : Entry) × (entry_in left field ≡ Some entry) × (now ≡ before ++ steps_of (entry ∷ []))
    × (more ≡ spent left entry) × (issued now + more.instructions ≤ 10000000)
