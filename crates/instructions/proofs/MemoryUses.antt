-- Which references exist, by their effect on memory.
use Rattle.std.proofs.Common.{◌≡◌, Bool, true, false, refl}
use Rattle.std.specs.Prelude.{Option, Some, None, is_some}
use Rattle.instructions.specs.declared.shape.MemoryUse.{MemoryUse}
use Rattle.instructions.specs.declared.shape.MemoryUse.TheVariants as memory
use Rattle.instructions.specs.Shape.{Shape, Sets, Loads, Stores, Jumps, Links, memory_of, has_reference, has_store}

pub reference_used : (s : Shape) → is_some (memory_of s) ≡ has_reference s
unfolding memory_of has_reference
reference_used (Sets rs) = refl
reference_used (Loads n) = refl
reference_used (Stores n) = refl
reference_used Jumps = refl
reference_used Links = refl

-- whether the use writes a word
abbrev pub writes : Option MemoryUse → Bool
writes None = false
writes (Some (memory.Loads n)) = false
writes (Some (memory.Stores n)) = true
writes (Some memory.Links) = true

pub store_used : (s : Shape) → writes (memory_of s) ≡ has_store s
unfolding memory_of has_store
store_used (Sets rs) = refl
store_used (Loads n) = refl
store_used (Stores n) = refl
store_used Jumps = refl
store_used Links = refl
