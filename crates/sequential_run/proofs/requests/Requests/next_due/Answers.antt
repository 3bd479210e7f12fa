use Rattle.std.proofs.Common.{rules, arith}
use Rattle.std.proofs.lemmas.Grind.{common_steps}
use Rattle.sequential_run.proofs.First.{first_of}
use Rattle.sequential_run.proofs.requests.Requests.next_due.Goals as goal

pub returns-then-after-self-clause-due : goal.returns-then-after-self-clause-due
returns-then-after-self-clause-due c = λ k d h. grind (arith, common_steps, c.self.invariant 0 k d)

pub returns-clause-due : goal.returns-clause-due
returns-clause-due c = (
  grind (arith, common_steps),
  λ k d h. grind (arith, common_steps, c.in_ok-next.ensures.lookup, c.self.invariant 0 k d),
)

pub returns-clause-first : goal.returns-clause-first
returns-clause-first c = first_of c.args.self.now.asks c.in_ok-next.next.now (search rules) (search rules)
