use Rattle.contents_text.specs.Contents.{entry_line}
use Rattle.job_deck.proofs.printing.Ranges.{puts_address, puts_address_cut}
use Rattle.contents_text.proofs.contents.put_hopper.Goals as goal

pub returns-in_err-put_entry : goal.returns-in_err-put_entry
returns-in_err-put_entry g c =
    puts_address_cut g.O.Output c.from_residual.result _ c.from_residual.ensures.1 (entry_line c.args.machine.now.pending) _
    c.loop-place.place _ _ c.put_entry.new.output _ c.loop-place-test.true c.loop-place.invariant
    c.in_err-put_entry.ensures

pub loop-place-preserved : goal.loop-place-preserved
loop-place-preserved g c =
    puts_address g.O.Output (entry_line c.args.machine.now.pending) _ c.loop-place.place _ _ c.put_entry.new.output _
    c.loop-place-test.true c.loop-place.invariant c.in_ok-put_entry.ensures
