use Rattle.std.proofs.Common.{◌-◌}
use Rattle.std.specs.List.{flat_map}
use Rattle.device_text.proofs.Putting.{PutsAllBut}
use Rattle.job_deck.specs.Dump.{addresses}
use Rattle.contents_text.specs.Contents.{bank_line, banks_text}
use Rattle.contents_text.proofs.contents.put_banks.Given as goal

abbrev pub invariant-loop-bank : goal.invariant-loop-bank
invariant-loop-bank g l =
    PutsAllBut g.O.Output (flat_map (bank_line l.machine.busy) (addresses (32 - l.bank) l.bank)) l.fn.output l.output
    (banks_text l.machine.busy)
