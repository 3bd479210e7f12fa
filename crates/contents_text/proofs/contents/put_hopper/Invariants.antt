use Rattle.std.proofs.Common.{◌-◌}
use Rattle.std.specs.List.{flat_map}
use Rattle.device_text.proofs.Putting.{PutsAllBut}
use Rattle.job_deck.specs.Dump.{addresses}
use Rattle.contents_text.specs.Contents.{entry_line, hopper_text}
use Rattle.contents_text.proofs.contents.put_hopper.Given as goal

abbrev pub invariant-loop-place : goal.invariant-loop-place
invariant-loop-place g l =
    PutsAllBut g.O.Output (flat_map (entry_line l.machine.pending) (addresses (4 - l.place) l.place)) l.fn.output l.output
    (hopper_text l.machine.pending)
