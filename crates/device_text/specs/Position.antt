-- A position in a line.
-- Source: ours.
use Rattle.std.specs.Prelude.{◌≡◌, ◌≤◌, ◌⊎◌, ℕ, List, length, take, drop}
use Rattle.instructions.specs.declared.refusal.DeckFault.{DeckFault}
use Rattle.instructions.specs.declared.refusal.DeckFault.TheVariants.{Lines, NoEnd}

-- the text is the part of the line that begins after this many bytes
abbrev pub IsPart : List ℕ → ℕ → List ℕ → Type 0
IsPart line start text = (start ≤ length line) × (text ≡ take (length text) (drop start line))

-- the fault is in no line: too many lines were read, or the input has ended
abbrev pub IsOfNoLine : DeckFault → Type 0
IsOfNoLine fault = (fault ≡ Lines) ⊎ (fault ≡ NoEnd)
