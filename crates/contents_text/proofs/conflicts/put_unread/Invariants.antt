use Rattle.std.proofs.Common.{drop}
use Rattle.std.specs.List.{flat_map}
use Rattle.contents_text.specs.Contents.{unread_of}
use Rattle.device_text.proofs.Putting.{PutsAllBut}
use Rattle.contents_text.proofs.conflicts.put_unread.Given as goal

abbrev pub invariant-loop-reader : goal.invariant-loop-reader
invariant-loop-reader g l =
    PutsAllBut g.O.Output (flat_map (unread_of l.pending) (drop l.reader-index l.pending)) l.fn.output l.output
    (flat_map (unread_of l.pending) l.pending)
