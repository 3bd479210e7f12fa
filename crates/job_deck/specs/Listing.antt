-- The lines of a listing: each word that a deck placed, with its instructions.
-- Source: ours; the texts and the codes of the instructions are the manual's.
use Rattle.std.specs.Prelude.{◌≡◌, Bool, true, Option, Result, Ok, Err, ℕ, zero, suc, ◌+◌, ◌==◌, if◌then◌else◌, false}
use Rattle.std.specs.Prelude.{List, [], ◌∷◌, ◌++◌, codes, length, nat_lt, slice_index_or}
use Rattle.std.specs.List.{flat_map, concat}
use Rattle.word60.specs.Words.{octal_text}
use Rattle.instruction_table.specs.declared.decoding.Decoded.{Decoded}
use Rattle.instruction_table.specs.declared.decoding.Decoded.TheVariants.{Legal, Refused, Straddle}
use Rattle.instruction_table.specs.Decoding.{reading_at}
use Rattle.instruction_table.specs.Spelling.{spelling}
use Rattle.std.specs.Io.KnownBytes.{Keeps, Appends}
use Rattle.instructions.specs.declared.refusal.Refusal.{Refusal}
use Rattle.instructions.specs.declared.refusal.Refusal.TheVariants as refusals
use Rattle.deck.specs.Deck.{Reading, Good, Bad}
use Rattle.device_text.specs.Device.{WritesFront}
use Rattle.deck.specs.Image.{Placed}
use Rattle.device_text.specs.Pieces.{code_text}
use Rattle.job_deck.specs.Dump.{addresses}

-- the text of an item: a legal instruction's text, or `?` and the code of a refused opcode, or `?straddle`
abbrev pub item_text : Decoded → List ℕ
item_text (Legal instr next) = spelling instr
item_text (Refused op) = codes "?" ++ code_text op
item_text Straddle = codes "?straddle"

-- the parcel after an item. A refused opcode counts as one parcel, and so does an instruction that straddles words
abbrev pub after : ℕ → Decoded → ℕ
after parcel (Legal instr next) = next
after parcel (Refused op) = parcel + 1
after parcel Straddle = parcel + 1

-- the separator before an item: nothing before the first
abbrev pub separator : ℕ → List ℕ
separator parcel = if parcel == 0 then [] else codes "; "

-- an item after its separator
abbrev pub separated : ℕ → Decoded → List ℕ
separated parcel item = separator parcel ++ item_text item

-- at most this many items of a word, from a parcel on
abbrev pub items_from : ℕ → ℕ → ℕ → List ℕ
items_from zero word parcel = []
items_from (suc more) word parcel = if nat_lt parcel 4
    then separated parcel (reading_at word parcel) ++ items_from more word (after parcel (reading_at word parcel))
    else []

-- all items of a word; it has at most four
unfoldable pub items_text : ℕ → List ℕ
items_text word = items_from 4 word 0

-- the address in six digits and the word in twenty, with a space after each
abbrev pub placed_word : ℕ → ℕ → List ℕ
placed_word address word = concat (octal_text 6 address ∷ codes " " ∷ octal_text 20 word ∷ codes " " ∷ [])

-- the line of a word: its address, the word and its items
abbrev pub listed_word : ℕ → ℕ → List ℕ
listed_word address word = concat (placed_word address word ∷ items_text word ∷ codes "\n" ∷ [])

-- the line of the word at an address, if the deck placed that word, or else nothing
abbrev pub listed : Placed → ℕ → List ℕ
listed image address = if slice_index_or image.placed address false
    then listed_word address (slice_index_or image.memory address 0) else []

-- the lines of the words that the deck placed, in order of address
abbrev pub listing : Placed → List ℕ
listing image = flat_map (listed image) (addresses (length image.memory) 0)

-- the result of listing a deck, and the bytes that it reads and writes. A success writes the listing, and a failed
-- write leaves a prefix of it. Any other error writes nothing
abbrev pub Lists : Result (Unit {0}) Refusal → Reading → List ℕ → Option (List ℕ) → Option (List ℕ) → Type 0
Lists (Ok x) (Good deck n after) rest old new = (rest ≡ after) × Appends old new (listing deck.image)
Lists (Ok x) (Bad n fault after) rest old new = ⊥
Lists (Err (refusals.Deck m fault)) reading rest old new = (reading ≡ Bad m fault rest) × Keeps old new
Lists (Err refusals.OutOfMemory) reading rest old new = Keeps old new
Lists (Err refusals.Read) reading rest old new = Keeps old new
Lists (Err refusals.Write) (Good deck n after) rest old new = (rest ≡ after) × WritesFront old new (listing deck.image)
Lists (Err refusals.Write) (Bad n fault after) rest old new = ⊥
Lists (Err other) reading rest old new = ⊥

-- whether the result is a failed write (`E23`)
abbrev pub is_write_failure : {T : Type 0} → Result T Refusal → Bool
is_write_failure (Err refusals.Write) = true
is_write_failure other = false
