use Rattle.std.proofs.Common.{rules}
use Rattle.job_deck.specs.Listing.{listed}
use Rattle.job_deck.proofs.printing.Ranges.{puts_address, puts_address_cut}
use Rattle.job_deck.proofs.listing.put_listing.Goals as goal

pub returns-in_err-put_listed : goal.returns-in_err-put_listed
returns-in_err-put_listed g c =
    puts_address_cut g.O.Output c.from_residual.result _ c.from_residual.ensures.1 (listed c.args.image.now) _
    c.loop-address.address _ _ c.put_listed.new.output _ c.loop-address-test.true c.loop-address.invariant.puts
    c.in_err-put_listed.ensures

pub loop-address-preserved : goal.loop-address-preserved
loop-address-preserved g c =
    record {
      puts = puts_address g.O.Output (listed c.args.image.now) _ c.loop-address.address _ _ c.put_listed.new.output _
          c.loop-address-test.true c.loop-address.invariant.puts c.in_ok-put_listed.ensures;
      end = search rules;
      range = search rules;
    }
