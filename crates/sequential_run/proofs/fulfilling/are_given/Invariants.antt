use Rattle.std.proofs.Common.{◌≡◌, length}
use Rattle.sequential_run.specs.Fulfilled.{fulfils}
use Rattle.sequential_run.specs.inner.Judging.{AreWithin}
use Rattle.sequential_run.proofs.fulfilling.are_given.Given as goal

-- the remaining requests decide
abbrev pub invariant-loop-made : goal.invariant-loop-made
invariant-loop-made l = record {
  same : fulfils l.in_mid_word l.total l.last l.asks l.free l.left
      ≡ fulfils l.in_mid_word l.total 0 l.fn.asks l.fn.free l.exchanges;
  within : AreWithin l.total l.left;
}

abbrev pub decreases-loop-made : goal.decreases-loop-made
decreases-loop-made l = length l.left
