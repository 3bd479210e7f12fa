-- The lines of a dump. An octal number has as many digits as its kind requires, and fields are one space apart.
-- Source: ours; the names of the registers are the manual's.
use Rattle.std.specs.Prelude.{ℕ, zero, suc, ◌+◌, ◌-◌, Bool, true, false, List, [], ◌∷◌, Option, Some, None, codes}
use Rattle.std.specs.Prelude.{decimal, slice_index, slice_index_or}
use Rattle.std.specs.List.{flat_map, concat}
use Rattle.word60.specs.Words.{octal_text}
use Rattle.instructions.specs.declared.refusal.Halt.{Halt}
use Rattle.registers.specs.declared.file.RegisterFile.{RegisterFile}
use Rattle.relocation.specs.declared.area.Area.{Area}
use Rattle.sequential.specs.declared.log.Entry.{Entry}
use Rattle.sequential.specs.declared.log.Entry.TheVariants as entries
use Rattle.sequential.specs.declared.position.ProgramPosition.{ProgramPosition}
use Rattle.sequential.specs.declared.state.State.{State}
use Rattle.device_text.specs.Pieces.{reason_text, trimmed}
use Rattle.deck.specs.declared.deck.Show.{Show}

-- the held word in twenty digits, or `none` if it isn't fetched yet
abbrev pub held_text : Option ℕ → List ℕ
held_text None = codes "none"
held_text (Some word) = octal_text 20 word

-- the line `P p PARCEL n HELD w`
abbrev pub place_line : ProgramPosition → List ℕ
place_line position = concat (codes "P " ∷ octal_text 6 position.p ∷ codes " PARCEL " ∷ ((48 + position.parcel) ∷ [])
    ∷ codes " HELD " ∷ held_text position.held ∷ codes "\n" ∷ [])

-- the first half of the line `HALT h FAULT f`: `running`, or why the machine is halted
abbrev pub halt_text : Option Halt → List ℕ
halt_text None = codes "HALT running"
halt_text (Some halt) = concat (codes "HALT " ∷ reason_text halt ∷ [])

-- the second half of the line `HALT h FAULT f`: `address` for an address fault, or `none`
abbrev pub fault_text : Bool → List ℕ
fault_text true = codes " FAULT address\n"
fault_text false = codes " FAULT none\n"

-- the line `RA r FL l EM m`
abbrev pub area_line : Area → List ℕ
area_line area = concat (codes "RA " ∷ octal_text 6 area.ra ∷ codes " FL " ∷ octal_text 6 area.fl ∷ codes " EM "
    ∷ octal_text 6 area.mode ∷ codes "\n" ∷ [])

-- a space and a number in six digits
abbrev pub spaced_index : ℕ → List ℕ
spaced_index n = concat (codes " " ∷ octal_text 6 n ∷ [])

-- a line with a name and numbers of six digits
abbrev pub index_line : List ℕ → List ℕ → List ℕ
index_line name indexes = concat (name ∷ flat_map spaced_index indexes ∷ codes "\n" ∷ [])

-- the line of X register n: its name and its word in twenty digits
abbrev pub x_line : List ℕ → ℕ → List ℕ
x_line x n = concat (codes "X" ∷ decimal n ∷ codes " " ∷ octal_text 20 (slice_index x n) ∷ codes "\n" ∷ [])

-- n addresses in sequence, from a on
abbrev pub addresses : ℕ → ℕ → List ℕ
addresses zero a = []
addresses (suc n) a = a ∷ addresses n (a + 1)

-- the lines of X0 to X7
unfoldable pub x_lines : List ℕ → List ℕ
x_lines x = flat_map (x_line x) (addresses 8 0)

-- the lines of P, of halt and fault, and of RA, FL and EM
abbrev pub state_lines : State → List ℕ
state_lines s = concat (place_line s.position ∷ halt_text s.halt ∷ fault_text s.fault ∷ area_line s.area ∷ [])

-- the lines of A, B and X; B0 is always +0
abbrev pub register_lines : RegisterFile → List ℕ
register_lines r = concat (index_line (codes "A") r.a ∷ index_line (codes "B 000000") r.b ∷ x_lines r.x ∷ [])

-- the line `M a w` of the word at an address
abbrev pub word_line : List ℕ → ℕ → List ℕ
word_line memory a =
    concat (codes "M " ∷ octal_text 6 a ∷ codes " " ∷ octal_text 20 (slice_index_or memory a 0) ∷ codes "\n" ∷ [])

-- the lines of the words from the first to the last address of a `show` line, both included
abbrev pub show_lines : List ℕ → Show → List ℕ
show_lines memory show = flat_map (word_line memory) (addresses (show.last + 1 - show.first) show.first)

-- a space and an entry of the log, such as `E40`, `I10`, `R110` or `W110=5`. Addresses and words are octal, and counts
-- are decimal
abbrev pub spaced_entry : Entry → List ℕ
spaced_entry (entries.Exchange a) = concat (codes " E" ∷ trimmed (octal_text 20 a) ∷ [])
spaced_entry (entries.Issued n) = concat (codes " I" ∷ decimal n ∷ [])
spaced_entry (entries.PpRead a) = concat (codes " R" ∷ trimmed (octal_text 20 a) ∷ [])
spaced_entry (entries.PpWrite a w) =
    concat (codes " W" ∷ trimmed (octal_text 20 a) ∷ codes "=" ∷ trimmed (octal_text 20 w) ∷ [])

-- the entries of the log, each after a space. An empty log is `none`, after a space too
abbrev pub log_text : List Entry → List ℕ
log_text [] = codes " none"
log_text (entry ∷ more) = flat_map spaced_entry (entry ∷ more)

-- the line `LOG t`
abbrev pub log_line : List Entry → List ℕ
log_line log = concat (codes "LOG" ∷ log_text log ∷ codes "\n" ∷ [])

-- the whole dump: the state, the registers, the words of each `show` line, and the log
unfoldable pub dump_text : State → List Entry → List Show → List ℕ
dump_text s log shows =
    concat (state_lines s ∷ register_lines s.registers ∷ flat_map (show_lines s.memory) shows ∷ log_line log ∷ [])
