-- The words of memory, and for each word whether the deck has placed it.
-- Source: ours.
use Rattle.std.specs.Prelude.{ℕ, Bool, true, false, List, replicate, slice_set}

-- the words of memory, and for each word whether the deck has placed it
pub record Placed : Type 0 where
  -- the words, in order of address
  pub memory : List ℕ
  -- for each word of memory, whether the deck has placed it
  pub placed : List Bool

-- a memory of this many words, all +0 and none of them placed
abbrev pub blank : ℕ → Placed
blank n = record { memory = replicate n 0; placed = replicate n false }

-- a memory after a word is placed at an address
abbrev pub placed_at : Placed → ℕ → ℕ → Placed
placed_at image address word =
    record { memory = slice_set image.memory address word; placed = slice_set image.placed address true }
