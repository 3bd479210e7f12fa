use Rattle.std.proofs.Common.{drop}
use Rattle.std.specs.List.{flat_map}
use Rattle.job_deck.specs.Dump.{spaced_index}
use Rattle.device_text.proofs.Putting.{PutsAllBut}
use Rattle.job_deck.proofs.dumping.put_indexes.Given as goal

abbrev pub invariant-loop-index : goal.invariant-loop-index
invariant-loop-index g l =
    PutsAllBut g.O.Output (flat_map spaced_index (drop l.index-index l.indexes)) l.fn.output l.output
    (flat_map spaced_index l.indexes)
