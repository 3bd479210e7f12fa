-- References that may be made in either order. Source: ours.
use Rattle.std.specs.Prelude.{Bool, false, ◌==◌}
use Rattle.relocation.specs.declared.area.Access.{Access}
use Rattle.relocation.specs.declared.area.Access.TheVariants.{Load, Store}

-- both references load into the same register
unfoldable pub same_register : Access → Access → Bool
same_register (Load n) (Load m) = m == n
same_register (Load n) (Store word) = false
same_register (Store word) access = false
