use Rattle.embedding.proofs.Steps.{Going}
use Rattle.embedding.proofs.advancing.advance_machine.Given as goal

-- this many next events were made, and after none of them was the machine at rest at the address
abbrev pub invariant-loop-made : goal.invariant-loop-made
invariant-loop-made l = Going l.most l.address l.fn.machine l.machine l.made
