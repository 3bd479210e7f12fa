use Rattle.std.proofs.Common.{◌≡◌, take}
use Rattle.sequential.specs.Log.{issued, steps_of}
use Rattle.sequential_run.specs.Fulfilled.{exchanges_after}
use Rattle.sequential_run.proofs.exchanges.exchanges.Given as goal

-- the exchanges and the instruction count of the entries so far
abbrev pub invariant-loop-entry : goal.invariant-loop-entry
invariant-loop-entry l = record {
  made : l.made.items ≡ exchanges_after 0 (steps_of (take l.entry-index l.entries));
  count : l.count ≡ issued (steps_of (take l.entry-index l.entries));
}
