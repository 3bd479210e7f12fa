use Rattle.std.proofs.Common.{arith}
use Rattle.std.proofs.lemmas.Grind.{common_steps}
use Rattle.sequential_run.proofs.requests.Requests.until_due.Goals as goal

pub returns-in-Some-clause-none : goal.returns-in-Some-clause-none
returns-in-Some-clause-none c = λ more l k d h.
    grind (arith, common_steps, l, c.in-Some.ensures.lookup, c.saturating_sub.ensures, c.self.invariant 0 k d)
