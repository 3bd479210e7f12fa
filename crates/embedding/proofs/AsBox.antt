-- A pointer to a machine and its parts own the same as a box of the same types.
use mir.Syntax.{impl, tnil, dnil}
use mathlib.Core.List.{[]}
use denote.RattleType.{RattleType}
use denote.Signature.{Slot, plain}
use Rattle.std.specs.Prelude.{◌≡◌, refl, Option, Some, None, is_some, true}
use Rattle.std.proofs.Common.{sym, true≢false}
use Rattle.std_alloc.proofs.BoxSteps.Form.{Bx}
use Rattle.std_heap.specs.contracts.Global as Heap
use Rattle.std_heap.specs.contracts.GlobalAllocator.TheImpl.{ghosts, dict}
use Rattle.std_heap.proofs.Global.TheLaws as heap
use Rattle.embedding.specs.contracts.booted.Booted as Booted
use Rattle.embedding.proofs.booted.Booted.TheLaws as booted
use Rattle.embedding.specs.contracts.box_parts.BoxParts as Parts
use Rattle.embedding.specs.contracts.owned_pointer.OwnedPointer as Pointer

abbrev pub E : Bx
E = record { row = Booted.the_row; laws = booted.the_row_laws; al = record { row = Heap.the_row; laws = heap.the_row_laws; g = ghosts; d = dict; drops = impl [] tnil dnil } }

abbrev pub pointer : RattleType
pointer = Pointer.the_row

abbrev pub FromParts : Slot 0
FromParts = plain (λ _. Parts.the_row Booted.the_row Heap.the_row ghosts)

abbrev pub FromPointer : Slot 0
FromPointer = plain (λ _. Pointer.the_row)

-- the value in an option that isn't `None`
pub held : {A : Type 0} (o : Option A) → is_some o ≡ true → A
held (Some x) is = x
held None is = absurd (true≢false (sym is))

pub is_held : {A : Type 0} (o : Option A) (is : is_some o ≡ true) → Some (held o is) ≡ o
unfolding held
is_held (Some x) is = refl
is_held None is = absurd (true≢false (sym is))

abbrev pub FromAlloc : Slot 0
FromAlloc = plain (λ _. Heap.the_row)
