-- The parts of reading the log in the line after a deck: the fields of the line, and the entries read so far.
-- Source: ours.
use Rattle.std.specs.Prelude.{◌≡◌, ◌≢◌, ◌⊎◌, ℕ, Bool, false, List, [], ◌∷◌, ◌++◌, length, All, Option, codes}
use Rattle.std.specs.Str.{bytes_eq}
use Rattle.sequential.specs.declared.log.Log.{Log}
use Rattle.device_text.specs.Line.{IsText}
use Rattle.device_text.specs.Text.{fields_of}
use Rattle.log_text.specs.FollowingLog.{LeavesAfterText, ReadsWithinLine, following_line}
use Rattle.log_text.specs.LogText.{LogHas, steps_in, whole_allowance}
use Rattle.log_text.specs.declared.following_log.FieldEnd.{FieldEnd}
use Rattle.log_text.specs.declared.following_log.FieldEnd.TheVariants.{Space, Line, Long}

-- the text is a field of a line or a part of one: it has no space and no line end
abbrev pub IsInField : List ℕ → Type 0
IsInField text = IsText text × All (λ b. b ≢ 32) text

-- `read_field` took this text from xs and left ys. A space, a line end or the end of the bytes ends a field
abbrev pub FieldTaken : FieldEnd → List ℕ → List ℕ → List ℕ → Type 0
FieldTaken Space text xs ys = xs ≡ text ++ 32 ∷ ys
FieldTaken Line text xs ys = (xs ≡ text ++ 10 ∷ ys) ⊎ ((xs ≡ text) × (ys ≡ []))
FieldTaken Long text xs ys = (length text ≡ 29) × (xs ≡ text ++ ys)

-- the entries of a line were read, from the bytes xs after its first field to the bytes ys. The first field had this
-- text and this end
abbrev pub ReadsEntries : Option Log → FieldEnd → List ℕ → List ℕ → List ℕ → Type 0
ReadsEntries found end text xs ys =
    (after : List ℕ) → FieldTaken end text after xs
    → LogHas found (steps_in whole_allowance (fields_of (following_line after)))
    × LeavesAfterText (steps_in whole_allowance (fields_of (following_line after))) after ys

-- memory ran out or a read failed before the end of such a line, and nothing past the line was read
abbrev pub ReadsSomeEntries : FieldEnd → List ℕ → List ℕ → List ℕ → Type 0
ReadsSomeEntries end text xs ys = (after : List ℕ) → FieldTaken end text after xs → ReadsWithinLine after ys

-- whether a line is `none`, the text of an empty log. Its first field has this text and this end
abbrev pub is_none_line : FieldEnd → List ℕ → Bool
is_none_line Space text = false
is_none_line Line text = bytes_eq text (codes "none")
is_none_line Long text = false
