use Rattle.std.proofs.Common.{◌≡◌, ℕ, refl, arith}
use Rattle.std.specs.Prelude.{IfOk, Result, Ok, Err}
use Rattle.instructions.specs.declared.instr.Unit.{Unit as FunctionalUnit}
use Rattle.instructions.specs.declared.refusal.Refusal.{Refusal}
use Rattle.in_flight.proofs.answering.Beside.{reserve_answered, reserved_as}
use Rattle.in_flight.proofs.flight.InFlight.may_reserve.Goals as goal

if_reserved : (r : Result (FunctionalUnit × ℕ) Refusal) (P : FunctionalUnit × ℕ → Type 0)
    → ((p : FunctionalUnit × ℕ) → r ≡ Ok p → P p) → IfOk r P
if_reserved (Ok p) P h = h p refl
if_reserved (Err k) P h = tt

pub returns-clause-answer : goal.returns-clause-answer
returns-clause-answer c place = grind (arith, reserve_answered)

pub returns-clause-reservation : goal.returns-clause-reservation
returns-clause-reservation c = grind (arith, if_reserved, reserved_as)
