use Rattle.std.proofs.Common.{◌≡◌, length}
use Rattle.device_text.specs.Pieces.{trimmed}
use Rattle.device_text.proofs.digits.trim.Given as goal

abbrev pub invariant-loop-rest : goal.invariant-loop-rest
invariant-loop-rest l = trimmed l.rest ≡ trimmed l.digits

abbrev pub decreases-loop-rest : goal.decreases-loop-rest
decreases-loop-rest l = length l.rest
