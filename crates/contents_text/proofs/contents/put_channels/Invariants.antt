use Rattle.std.proofs.Common.{◌-◌}
use Rattle.std.specs.List.{flat_map}
use Rattle.device_text.proofs.Putting.{PutsAllBut}
use Rattle.job_deck.specs.Dump.{addresses}
use Rattle.contents_text.specs.Contents.{arrival_line, channels_text}
use Rattle.contents_text.proofs.contents.put_channels.Given as goal

abbrev pub invariant-loop-channel : goal.invariant-loop-channel
invariant-loop-channel g l =
    PutsAllBut g.O.Output (flat_map (arrival_line l.machine.pending) (addresses (6 - l.channel) l.channel)) l.fn.output l.output
    (channels_text l.machine.pending)
