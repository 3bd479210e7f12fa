-- Bytes split into lines.
-- Source: ours.
use Rattle.std.specs.Prelude.{◌≡◌, ◌≢◌, ℕ, ◌≤◌, ◌<◌, List, [], ◌∷◌, ◌++◌, length, drop, All, ◌⊎◌, ◌==◌}
use Rattle.std.specs.Prelude.{nat_lt, if◌then◌else◌}
use Rattle.device_text.specs.declared.line.LineRead.{LineRead}
use Rattle.device_text.specs.declared.line.LineRead.TheVariants.{Whole, Long, Nothing}

-- the lines, with a byte added at the beginning of the first line
abbrev pub onto : ℕ → List (List ℕ × List ℕ) → List (List ℕ × List ℕ)
onto b [] = (b ∷ [], []) ∷ []
onto b (line ∷ lines) = (b ∷ line.0, line.1) ∷ lines

-- the lines of the bytes without their line ends, each with the bytes after it. A byte 10 ends a line. The end of the
-- bytes also ends a line that has begun
abbrev pub lines_of : List ℕ → List (List ℕ × List ℕ)
lines_of [] = []
lines_of (b ∷ bytes) = if b == 10 then ([], bytes) ∷ lines_of bytes else onto b (lines_of bytes)

-- the first line was read, and `rest` are the bytes after it
abbrev pub IsTaken : List (List ℕ × List ℕ) → List ℕ → Type 0
IsTaken lines rest = (line : List ℕ) × (lines ≡ (line, rest) ∷ lines_of rest)

-- the bytes left after reading their first line, which comes with the bytes after it. A line of more than 200 bytes is
-- read up to its byte 201
abbrev pub left_after : List ℕ → List ℕ × List ℕ → List ℕ
left_after bytes line = if nat_lt 200 (length line.0) then drop 201 bytes else line.1

-- none of the bytes is a line end
abbrev pub IsText : List ℕ → Type 0
IsText text = All (λ b. b ≢ 10) text

-- nothing, or only bytes before the end of the next line, were read
abbrev pub ReadsPart : List ℕ → List ℕ → Type 0
ReadsPart xs ys = (part : List ℕ) × IsText part × (xs ≡ part ++ ys)

-- the text that `read_line` leaves in its buffer
abbrev pub LineText : LineRead → List ℕ → Type 0
LineText Whole text = IsText text × (length text ≤ 200)
LineText Long text = IsText text × (length text ≡ 201)
LineText Nothing text = text ≡ []

-- `read_line` took this text from xs and left ys
abbrev pub LineTaken : LineRead → List ℕ → List ℕ → List ℕ → Type 0
LineTaken Whole text xs ys = (xs ≡ text ++ 10 ∷ ys) ⊎ ((0 < length text) × (xs ≡ text) × (ys ≡ []))
LineTaken Long text xs ys = xs ≡ text ++ ys
LineTaken Nothing text xs ys = (xs ≡ []) × (ys ≡ [])
