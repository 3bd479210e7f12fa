use Rattle.contents_text.specs.Contents.{arrival_line}
use Rattle.job_deck.proofs.printing.Ranges.{puts_address, puts_address_cut}
use Rattle.contents_text.proofs.contents.put_channels.Goals as goal

pub returns-in_err-put_arrival : goal.returns-in_err-put_arrival
returns-in_err-put_arrival g c =
    puts_address_cut g.O.Output c.from_residual.result _ c.from_residual.ensures.1 (arrival_line c.args.machine.now.pending) _
    c.loop-channel.channel _ _ c.put_arrival.new.output _ c.loop-channel-test.true c.loop-channel.invariant
    c.in_err-put_arrival.ensures

pub loop-channel-preserved : goal.loop-channel-preserved
loop-channel-preserved g c =
    puts_address g.O.Output (arrival_line c.args.machine.now.pending) _ c.loop-channel.channel _ _ c.put_arrival.new.output _
    c.loop-channel-test.true c.loop-channel.invariant c.in_ok-put_arrival.ensures
