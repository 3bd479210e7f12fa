-- The ownership of a pointer that C keeps: it owns a machine as a box does, or nothing.
-- Source: ours.
use base.Fml.{Fml, ftrue}
use base.Stored.{Coded}
use denote.RawPtr.{Ptr}
use Rattle.std.specs.Prelude.{Option, Some, None, Result, Ok, Err}
use Rattle.std.specs.Coded.{coded_option}
use Rattle.std.specs.Box.Ownership.{box_owns}
use Rattle.std.specs.declared.alloc.Global.{Global}
use Rattle.std.specs.declared.boxed.Box.{Box}
use Rattle.std.specs.contracts.impls.GlobalAllocator.TheImpl.{ghosts}
use Rattle.instructions.specs.declared.refusal.Refusal.{Refusal}
use Rattle.embedding.specs.declared.booted.Booted.{Booted}
use Rattle.embedding.specs.contracts.booted.Booted.{the_row}

-- the machine in a box, if there is one
abbrev pub in_box : Option (Box Booted Global) → Option Booted
in_box None = None
in_box (Some b) = Some b.value

-- the memory that the pointer owns: with a machine, the block that holds the machine and the right to free that block,
-- and otherwise nothing
abbrev pub pointer_owns : Global → Ptr → Option the_row.Denot → Fml
pointer_owns alloc p (Some machine) = box_owns (ghosts.dealloc_token alloc) the_row p machine
pointer_owns alloc p None = ftrue

-- the form in which the checker stores a machine or none
abbrev pub coded_machine : Coded (Option the_row.Denot)
coded_machine = coded_option the_row.coded

-- the machine in a box, or the refusal
abbrev pub unboxed : Result (Box Booted Global) Refusal → Result Booted Refusal
unboxed (Ok b) = Ok b.value
unboxed (Err refusal) = Err refusal
