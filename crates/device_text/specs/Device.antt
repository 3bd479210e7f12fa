-- The effect of calls on the bytes left in an input and on the bytes written to an output, if those are known.
-- Source: ours.
use Rattle.std.specs.Prelude.{◌≡◌, ℕ, Bool, true, false, List, [], ◌∷◌, ◌++◌, Option, Some, None, Result, Ok, Err, ⊤}
use Rattle.std.specs.Io.KnownBytes.{Appends}

-- P relates the bytes before a call to the bytes after it. Nothing is claimed of bytes that aren't known
abbrev pub Moves : Option (List ℕ) → Option (List ℕ) → (List ℕ → List ℕ → Type 0) → Type 0
Moves None new P = ⊤
Moves (Some xs) None P = ⊥
Moves (Some xs) (Some ys) P = P xs ys

-- the next byte was taken, or there was none
abbrev pub Takes : Option ℕ → List ℕ → List ℕ → Type 0
Takes (Some b) xs ys = xs ≡ b ∷ ys
Takes None xs ys = (xs ≡ []) × (ys ≡ [])

-- whether a device has failed after a call: from its first failed call on, it has
abbrev pub failed_after : {T E : Type 0} → Bool → Result T E → Bool
failed_after before (Ok x) = before
failed_after before (Err e) = true

-- whether bytes remain to be flushed after a flush: no after a success, and as before after an error
abbrev pub waits_after : {T E : Type 0} → Bool → Result T E → Bool
waits_after before (Ok x) = false
waits_after before (Err e) = before

-- unless a write failed, no bytes remain to be flushed if none did before
abbrev pub NothingWaits : Bool → Bool → Bool → Type 0
NothingWaits failed before now = failed ≡ false → before ≡ false → now ≡ false

-- the text up to the rest was written
abbrev pub WritesAllBut : List ℕ → Option (List ℕ) → Option (List ℕ) → List ℕ → Type 0
WritesAllBut rest old new all = (front : List ℕ) × (all ≡ front ++ rest) × Appends old new front

-- a prefix of the text was written
abbrev pub WritesFront : Option (List ℕ) → Option (List ℕ) → List ℕ → Type 0
WritesFront old new all = (rest : List ℕ) × WritesAllBut rest old new all

-- the whole text was written, or a prefix of it at an error
abbrev pub Writes : {E : Type 0} → Result (Unit {0}) E → Option (List ℕ) → Option (List ℕ) → List ℕ → Type 0
Writes (Ok x) old new all = Appends old new all
Writes (Err e) old new all = WritesFront old new all
