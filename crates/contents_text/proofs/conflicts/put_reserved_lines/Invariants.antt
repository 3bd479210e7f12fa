use Rattle.std.proofs.Common.{drop}
use Rattle.std.specs.List.{flat_map}
use Rattle.contents_text.specs.Contents.{reserved_line}
use Rattle.device_text.proofs.Putting.{PutsAllBut}
use Rattle.contents_text.proofs.conflicts.put_reserved_lines.Given as goal

abbrev pub invariant-loop-register : goal.invariant-loop-register
invariant-loop-register g l =
    PutsAllBut g.O.Output (flat_map (reserved_line l.writer) (drop l.register-index l.registers)) l.fn.output l.output
    (flat_map (reserved_line l.writer) l.registers)
