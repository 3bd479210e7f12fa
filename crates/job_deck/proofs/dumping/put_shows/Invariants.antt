use Rattle.std.proofs.Common.{drop}
use Rattle.std.specs.List.{flat_map}
use Rattle.job_deck.specs.Dump.{show_lines}
use Rattle.device_text.proofs.Putting.{PutsAllBut}
use Rattle.job_deck.proofs.dumping.put_shows.Given as goal

abbrev pub invariant-loop-show : goal.invariant-loop-show
invariant-loop-show g l =
    PutsAllBut g.O.Output (flat_map (show_lines l.memory) (drop l.show-index l.shows)) l.fn.output l.output
    (flat_map (show_lines l.memory) l.shows)
