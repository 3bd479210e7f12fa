use Rattle.contents_text.specs.Contents.{bank_line}
use Rattle.job_deck.proofs.printing.Ranges.{puts_address, puts_address_cut}
use Rattle.contents_text.proofs.contents.put_banks.Goals as goal

pub returns-in_err-put_bank : goal.returns-in_err-put_bank
returns-in_err-put_bank g c =
    puts_address_cut g.O.Output c.from_residual.result _ c.from_residual.ensures.1 (bank_line c.args.machine.now.busy) _
    c.loop-bank.bank _ _ c.put_bank.new.output _ c.loop-bank-test.true c.loop-bank.invariant
    c.in_err-put_bank.ensures

pub loop-bank-preserved : goal.loop-bank-preserved
loop-bank-preserved g c =
    puts_address g.O.Output (bank_line c.args.machine.now.busy) _ c.loop-bank.bank _ _ c.put_bank.new.output _
    c.loop-bank-test.true c.loop-bank.invariant c.in_ok-put_bank.ensures
