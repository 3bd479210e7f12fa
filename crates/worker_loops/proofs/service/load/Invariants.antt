use Rattle.std.proofs.Common.{◌≡◌}
use Rattle.worker_loops.proofs.service.load.Given as goal

-- the reservation is the note's, with the same seat
abbrev pub invariant-loop : goal.invariant-loop
invariant-loop g l = l.token ≡ record { seat = l.fn.seat; number = l.fn.note.number }
