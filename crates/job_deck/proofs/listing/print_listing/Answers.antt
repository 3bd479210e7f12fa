use Rattle.device_text.proofs.Putting.{puts_flushed}
use Rattle.job_deck.proofs.listing.print_listing.Goals as goal

pub returns-clause-puts : goal.returns-clause-puts
returns-clause-puts g c =
    let e = c.flush.ensures in
    puts_flushed g.O.Output c.flush.result _ _ _ _ c.in_ok-put_listing.ensures e.bytes e.failure e.same
