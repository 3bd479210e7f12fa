-- The meaning of a line of a schedule, or its fault.
-- Source: ours.
use Rattle.std.specs.Prelude.{ℕ, List, [], ◌∷◌, length, Option, Some, None, nat_lt, if◌then◌else◌, codes}
use Rattle.std.specs.Str.{bytes_eq}
use Rattle.word60.specs.Words.{from_octal}
use Rattle.instructions.specs.declared.instr.Unit.{Unit as FunctionalUnit}
use Rattle.instructions.specs.declared.refusal.DeckFault.TheVariants as faults
use Rattle.program_order.specs.declared.event.Event.{Event}
use Rattle.program_order.specs.declared.event.Event.TheVariants as events
use Rattle.device_text.specs.Line.{left_after}
use Rattle.device_text.specs.Text.{fields_of, number_of}
use Rattle.device_text.specs.Names.{unit_named}
use Rattle.job_deck.specs.declared.schedule.ScheduleLine.{ScheduleLine}
use Rattle.job_deck.specs.declared.schedule.ScheduleLine.TheVariants.{Makes, Ends, Drains, Faulty}

-- the event with the unit, or the fault `unknown` if there is no such unit
abbrev pub with_unit : Option FunctionalUnit → (FunctionalUnit → Event) → ScheduleLine
with_unit None event = Faulty faults.Unknown
with_unit (Some unit) event = Makes (event unit)

-- the event with the number, or the fault `number` if the field isn't a number. A number that no place, channel, bank
-- or package has is not a fault of the line
abbrev pub with_number : Option ℕ → (ℕ → Event) → ScheduleLine
with_number None event = Faulty faults.Number
with_number (Some n) event = Makes (event n)

-- the peripheral write of the word to the address, or the fault `number` if either isn't a number
abbrev pub with_word : Option ℕ → Option ℕ → ScheduleLine
with_word None word = Faulty faults.Number
with_word (Some address) None = Faulty faults.Number
with_word (Some address) (Some word) = Makes (events.PpWrite address word)

-- a line of one field: `issue`, `exchange`, `end` or `drain`; any other has the fault `unknown`
abbrev pub line_of_one_field : List ℕ → ScheduleLine
line_of_one_field word =
    if bytes_eq word (codes "issue") then Makes events.Issue
    else if bytes_eq word (codes "exchange") then Makes events.Exchange
    else if bytes_eq word (codes "end") then Ends
    else if bytes_eq word (codes "drain") then Drains
    else Faulty faults.Unknown

-- a line of two fields, the second a number. Places, channels and banks are decimal; addresses are octal
abbrev pub line_with_number : List ℕ → List ℕ → ScheduleLine
line_with_number word field =
    if bytes_eq word (codes "accept") then with_number (number_of 10 2 field) events.Accept
    else if bytes_eq word (codes "return") then with_number (number_of 10 2 field) events.Return
    else if bytes_eq word (codes "bank") then with_number (number_of 10 2 field) events.BankFree
    else if bytes_eq word (codes "ask") then with_number (number_of 8 6 field) events.Ask
    else if bytes_eq word (codes "ppread") then with_number (number_of 8 6 field) events.PpRead
    else Faulty faults.Unknown

-- a line of two fields. The second is a unit after `read`, `finish` and `store`, and a number after other words
abbrev pub line_of_two_fields : List ℕ → List ℕ → ScheduleLine
line_of_two_fields word field =
    if bytes_eq word (codes "read") then with_unit (unit_named field) events.Read
    else if bytes_eq word (codes "finish") then with_unit (unit_named field) events.Finish
    else if bytes_eq word (codes "store") then with_unit (unit_named field) events.Store
    else line_with_number word field

-- a line of three fields: `ppwrite` with an address and a word, both octal
abbrev pub line_of_three_fields : List ℕ → List ℕ → List ℕ → ScheduleLine
line_of_three_fields word field other =
    if bytes_eq word (codes "ppwrite") then with_word (number_of 8 6 field) (from_octal 20 other)
    else Faulty faults.Unknown

-- the meaning of a line with these fields. A line of more than three fields has the fault `unknown`
abbrev pub line_of_fields : List (List ℕ) → ScheduleLine
line_of_fields [] = Faulty faults.Unknown
line_of_fields (word ∷ []) = line_of_one_field word
line_of_fields (word ∷ field ∷ []) = line_of_two_fields word field
line_of_fields (word ∷ field ∷ other ∷ []) = line_of_three_fields word field other
line_of_fields (word ∷ field ∷ other ∷ one ∷ more) = Faulty faults.Unknown

-- the meaning of a line of at most 200 bytes
abbrev pub schedule_line : List ℕ → ScheduleLine
schedule_line text = line_of_fields (fields_of text)

-- the meaning of line n, which is the first of these lines. Past line 10,000,000 the fault is `lines`. If no line is
-- left the fault is `no end`, and a line of more than 200 bytes has the fault `long`. Each line comes with the bytes
-- after it
abbrev pub line_says : ℕ → List (List ℕ × List ℕ) → ScheduleLine
line_says n [] = Faulty (if nat_lt 10000000 n then faults.Lines else faults.NoEnd)
line_says n (line ∷ more) =
    if nat_lt 10000000 n then Faulty faults.Lines
    else if nat_lt 200 (length line.0) then Faulty faults.Long
    else schedule_line line.0

-- the bytes left after reading line n, which is the first of these lines. Past line 10,000,000 nothing is read
abbrev pub left_after_line : ℕ → List ℕ → List (List ℕ × List ℕ) → List ℕ
left_after_line n bytes [] = bytes
left_after_line n bytes (line ∷ more) = if nat_lt 10000000 n then bytes else left_after bytes line
