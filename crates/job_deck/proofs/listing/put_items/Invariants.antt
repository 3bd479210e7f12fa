use Rattle.std.proofs.Common.{◌-◌}
use Rattle.job_deck.specs.Listing.{items_text}
use Rattle.job_deck.proofs.printing.Listings.{AllButItems}
use Rattle.job_deck.proofs.listing.put_items.Given as goal

abbrev pub invariant-loop-parcel : goal.invariant-loop-parcel
invariant-loop-parcel g l = AllButItems g.O.Output l.word l.parcel l.fn.output l.output (items_text l.word)

abbrev pub decreases-loop-parcel : goal.decreases-loop-parcel
decreases-loop-parcel g l = 4 - l.parcel
