-- The notes among the items that a worker took from its lane, and what became of them. Source: ours.
use Rattle.std.specs.Prelude.{◌≡◌, ℕ, ◌+◌, List, [], ◌∷◌, ◌++◌}
use Rattle.unit_queue.specs.declared.item.Item.{Item}
use Rattle.unit_queue.specs.declared.item.Item.TheVariants.{Work, Closed}

-- 1 for a note, 0 for the item that closes a lane
abbrev pub note_count : Item → ℕ
note_count (Work note) = 1
note_count Closed = 0

-- how many of these items are notes
abbrev pub notes_in : List Item → ℕ
notes_in [] = 0
notes_in (x ∷ xs) = note_count x + notes_in xs

-- a worker took more items from its lane, and each note among them was stored or strange
abbrev pub Served : List Item → List Item → ℕ → ℕ → Type 0
Served before after stored strange =
    (taken : List Item) × (after ≡ before ++ taken) × (stored + strange ≡ notes_in taken)
