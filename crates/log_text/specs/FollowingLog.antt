-- A log in the line after a deck.
-- Source: ours.
use Rattle.std.specs.Prelude.{ℕ, ◌⊎◌, List, [], ◌∷◌, Option, Some, None}
use Rattle.sequential.specs.declared.log.Log.{Log}
use Rattle.sequential.specs.Replay.{LogStep}
use Rattle.device_text.specs.Line.{IsTaken, ReadsPart, lines_of}
use Rattle.log_text.specs.LogText.{LogHas, log_in}

-- the first of these lines without its line end, or an empty text if there is no line
abbrev pub first_text : List (List ℕ × List ℕ) → List ℕ
first_text [] = []
first_text (line ∷ lines) = line.0

-- the text in the line after a deck, without the line end. It is empty if no line follows. An empty text isn't that of
-- a log
abbrev pub following_line : List ℕ → List ℕ
following_line after = first_text (lines_of after)

-- the first line or a part of it was read, and nothing past it
abbrev pub ReadsWithinLine : List ℕ → List ℕ → Type 0
ReadsWithinLine after rest = IsTaken (lines_of after) rest ⊎ ReadsPart after rest

-- the bytes left unread after reading a text as a log. The line of a log is read to its end, and nothing past it. If
-- the text isn't that of a log, reading may stop before the end of the line
abbrev pub LeavesAfterText : Option (List LogStep) → List ℕ → List ℕ → Type 0
LeavesAfterText (Some steps) after rest = IsTaken (lines_of after) rest
LeavesAfterText None after rest = ReadsWithinLine after rest

-- the bytes left unread after reading the line after a deck as the text of a log
abbrev pub LeavesAfterLog : List ℕ → List ℕ → Type 0
LeavesAfterLog after rest = LeavesAfterText (log_in (following_line after)) after rest

-- the log in the line after a deck was read, and `rest` are the bytes left unread. `None` means that the line isn't the
-- text of a log
abbrev pub ReadsLogLine : Option Log → List ℕ → List ℕ → Type 0
ReadsLogLine found after rest = LogHas found (log_in (following_line after)) × LeavesAfterLog after rest
