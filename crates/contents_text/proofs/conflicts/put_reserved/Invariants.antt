use Rattle.std.proofs.Common.{drop}
use Rattle.std.specs.List.{flat_map}
use Rattle.contents_text.specs.Contents.{reserved_of}
use Rattle.device_text.proofs.Putting.{PutsAllBut}
use Rattle.contents_text.proofs.conflicts.put_reserved.Given as goal

abbrev pub invariant-loop-writer : goal.invariant-loop-writer
invariant-loop-writer g l =
    PutsAllBut g.O.Output (flat_map (reserved_of) (drop l.writer-index l.pending)) l.fn.output l.output
    (flat_map (reserved_of) l.pending)
