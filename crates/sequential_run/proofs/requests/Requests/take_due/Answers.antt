use Rattle.std.proofs.lemmas.List.Sorted.{IsNonDecreasingBy-drop}
use Rattle.sequential_run.proofs.requests.Requests.take_due.Goals as goal

pub invariant_of-self : goal.invariant_of-self
invariant_of-self c = rw c.pop_front.ensures.rest
    (IsNonDecreasingBy-drop (λ ask. ask.1) 1 _ c.self.invariant)
