use Rattle.std.proofs.Common.{◌-◌}
use Rattle.std.specs.List.{flat_map}
use Rattle.device_text.proofs.Putting.{PutsAllBut}
use Rattle.job_deck.specs.Dump.{x_line, x_lines, addresses}
use Rattle.job_deck.proofs.dumping.put_x_lines.Given as goal

abbrev pub invariant-loop-number : goal.invariant-loop-number
invariant-loop-number g l =
    PutsAllBut g.O.Output (flat_map (x_line l.x) (addresses (8 - l.number) l.number)) l.fn.output l.output (x_lines l.x)
