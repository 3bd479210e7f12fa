use Rattle.std.proofs.Common.{◌≡◌, ◌+◌, ◌-◌, ◌≤◌}
use Rattle.std.specs.List.{flat_map}
use Rattle.device_text.proofs.Putting.{PutsAllBut}
use Rattle.job_deck.specs.Dump.{word_line, show_lines, addresses}
use Rattle.job_deck.proofs.dumping.put_show.Given as goal

abbrev pub invariant-loop-address : goal.invariant-loop-address
invariant-loop-address g l =
    record {
      puts : PutsAllBut g.O.Output
          (flat_map (word_line l.memory) (addresses (l.address-end - l.address) l.address)) l.fn.output l.output
          (show_lines l.memory l.fn.show);
      start : l.fn.show.first ≤ l.address;
      end : l.address-end ≡ l.fn.show.last + 1;
    }
