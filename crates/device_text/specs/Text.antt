-- Fields and numbers in a line.
-- Source: ours.
use Rattle.std.specs.Prelude.{ℕ, List, [], length, drop, Option, Some, None, nat_lt, nat_le, ◌==◌, ◌&&◌, if◌then◌else◌}
use Rattle.std.specs.Borrow.{Bor}
use Rattle.std.specs.List.{slice_split, list_all, position_or_len}
use Rattle.std.specs.Char.{is_digit}
use Rattle.std.specs.Str.Parse.{digits_value}

-- the fields of a line: its parts between the spaces
abbrev pub fields_of : List ℕ → List (List ℕ)
fields_of text = slice_split (λ b. b == 32) text

-- the text from its first space on
abbrev pub from_space : List ℕ → List ℕ
from_space text = drop (position_or_len (λ b. b == 32) text) text

-- the number that a text of 1 to `most` digits in the base denotes
abbrev pub number_of : ℕ → ℕ → List ℕ → Option ℕ
number_of base most text =
    if nat_lt 0 (length text) && nat_le (length text) most && list_all (λ c. is_digit c base) text
    then Some (digits_value base text) else None

-- the parts of the text after a separator, if there was a separator
abbrev pub other_parts : ℕ → Option (Bor (List ℕ)) → List (List ℕ)
other_parts separator None = []
other_parts separator (Some rest) = slice_split (λ b. b == separator) rest.now
