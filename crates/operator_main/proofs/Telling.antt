-- The line that the program writes about its end.
use Rattle.std.proofs.Common.{◌≤◌, ℕ, Bool, true, false, List, Option, Result, Ok, Err, arith, length}
use Rattle.std.proofs.KnownBytes.{Keeps-refl}
use Rattle.operator_terms.specs.declared.fault.ProgramFault.{ProgramFault}
use Rattle.operator_terms.specs.declared.status.Status.{Status}
use Rattle.operator_terms.specs.declared.status.Status.TheVariants.{Usage}
use Rattle.operator_main.specs.Program.{EndsWith, Tells, TellsAtMost}

-- nothing is written at an end without a fault
pub tells_nothing : (with_position : Bool) (status : Status) (old : Option (List ℕ))
    → Tells with_position (Ok status) old old
tells_nothing with_position Usage old = tt
tells_nothing with_position other old = Keeps-refl old

-- a line of at most this many bytes has at most any larger number
pub tells_more : (least most : ℕ) (old new : Option (List ℕ)) → least ≤ most → TellsAtMost least old new
    → TellsAtMost most old new
tells_more least most old new le t =
    let within : length t.0 ≤ most = omega (arith, le, t.1) in (t.0, within, t.2)

-- a line without a position is allowed even if positions are shown
told_either : (with_position : Bool) (end : Result Status ProgramFault) (old new : Option (List ℕ))
    → Tells false end old new → Tells with_position end old new
told_either false end old new t = t
told_either true (Err fault) old new t = tells_more 47 237 old new (omega arith) t
told_either true (Ok Usage) old new t = tt
told_either true (Ok other) old new t = t

-- an end without a position is allowed even if positions are shown
pub ends_either : (with_position : Bool) (status : ℕ) (P : Result Status ProgramFault → Type 0)
    (old new : Option (List ℕ)) → EndsWith false status P old new → EndsWith with_position status P old new
ends_either with_position status P old new e = (e.0, e.1, told_either with_position e.0 old new e.2, e.3)
