use Rattle.unit_workers.specs.Onward.{GoesOnFrom}
use Rattle.unit_workers.proofs.issuing.conduct.Given as goal

-- the knowledge so far extends the first knowledge
abbrev pub invariant-loop : goal.invariant-loop
invariant-loop g l = GoesOnFrom l.fn.seen l.seen
