use Rattle.std.proofs.Common.{drop}
use Rattle.std.specs.List.{flat_map}
use Rattle.contents_text.specs.Holding.{holder_line}
use Rattle.device_text.proofs.Putting.{PutsAllBut}
use Rattle.contents_text.proofs.holding.put_held_by.Given as goal

abbrev pub invariant-loop-one : goal.invariant-loop-one
invariant-loop-one g l =
    PutsAllBut g.O.Output (flat_map (holder_line l.machine l.event l.refusal) (drop l.one-index l.pending)) l.fn.output l.output
    (flat_map (holder_line l.machine l.event l.refusal) l.pending)
