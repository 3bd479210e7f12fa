use Rattle.std.proofs.Common.{drop}
use Rattle.std.specs.List.{flat_map}
use Rattle.contents_text.specs.Contents.{unit_line}
use Rattle.device_text.proofs.Putting.{PutsAllBut}
use Rattle.contents_text.proofs.contents.put_units.Given as goal

abbrev pub invariant-loop-unit : goal.invariant-loop-unit
invariant-loop-unit g l =
    PutsAllBut g.O.Output (flat_map (unit_line l.machine.pending) (drop l.unit-index l.units)) l.fn.output l.output
    (flat_map (unit_line l.machine.pending) l.units)
