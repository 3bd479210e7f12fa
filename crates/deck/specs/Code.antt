-- The word of a `code` line.
-- Source: ours; the texts and the parcels of the instructions are the manual's.
use Rattle.std.specs.Prelude.{◌≡◌, ℕ, Bool, true, false, List, [], ◌∷◌, ◌++◌, Option, Some, None, ◌==◌, if◌then◌else◌}
use Rattle.std.specs.Prelude.{slice_index, slice_index_or, option_map, option_and_then}
use Rattle.std.specs.List.{slice_split}
use Rattle.parcel.specs.Parcels.{joined}
use Rattle.instructions.specs.declared.instr.Instr.{Instr}
use Rattle.instructions.specs.declared.instr.Instr.TheVariants.{Pass}
use Rattle.instruction_table.specs.Table.{parcels_of}
use Rattle.instruction_table.specs.Spelling.{instr_of}

-- the items of a `code` line, ` TEXT; TEXT; TEXT` after the word `code`: the parts between the semicolons, each with
-- the space before its text
abbrev pub items_of : List ℕ → List (List ℕ)
items_of texts = slice_split (λ b. b == 59) texts

-- the instruction of an item: a space and the text of an instruction
abbrev pub instr_in : List ℕ → Option Instr
instr_in [] = None
instr_in (b ∷ text) = if b == 32 then instr_of text else None

-- the parcels followed by the others, if the others come from instructions
abbrev pub put_before : List ℕ → Option (List ℕ) → Option (List ℕ)
put_before parcels more = option_map (λ others. parcels ++ others) more

-- the parcels of an item, if it is an instruction
abbrev pub item_parcels : List ℕ → Option (List ℕ)
item_parcels item = option_map parcels_of (instr_in item)

-- the parcels of all items, if each is an instruction
abbrev pub parcels_in : List (List ℕ) → Option (List ℕ)
parcels_in [] = Some []
parcels_in (item ∷ more) = option_and_then (λ parcels. put_before parcels (parcels_in more)) (item_parcels item)

-- these items were found if the answer is true, and nothing was found if it is false
abbrev pub OptionalItems : Bool → List ℕ → Option (List ℕ) → Type 0
OptionalItems false items found = found ≡ None
OptionalItems true items found = found ≡ Some items

-- the parcel at a position, or the parcel of a pass if there are fewer parcels
abbrev pub parcel_or_pass : List ℕ → ℕ → ℕ
parcel_or_pass parcels n = slice_index_or parcels n (slice_index (parcels_of Pass) 0)

-- the word of at most four parcels, filled up with `NO`
abbrev pub word_of : List ℕ → ℕ
word_of parcels = joined (parcel_or_pass parcels 0 ∷ parcel_or_pass parcels 1 ∷ parcel_or_pass parcels 2
    ∷ parcel_or_pass parcels 3 ∷ [])
