use Rattle.std.proofs.Common.{◌≡◌}
use Rattle.worker_loops.proofs.service.store.Given as goal

-- the reservation is the one with the computed value, and its seat is the same
abbrev pub invariant-loop : goal.invariant-loop
invariant-loop g l = l.token ≡ record { seat = l.fn.computed.seat; number = l.fn.computed.number }
