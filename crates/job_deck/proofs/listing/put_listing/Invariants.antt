use Rattle.std.proofs.Common.{◌≡◌, ◌-◌, ◌≤◌, length}
use Rattle.std.specs.List.{flat_map}
use Rattle.device_text.proofs.Putting.{PutsAllBut}
use Rattle.job_deck.specs.Dump.{addresses}
use Rattle.job_deck.specs.Listing.{listed, listing}
use Rattle.job_deck.proofs.listing.put_listing.Given as goal

abbrev pub invariant-loop-address : goal.invariant-loop-address
invariant-loop-address g l =
    record {
      puts : PutsAllBut g.O.Output (flat_map (listed l.image) (addresses (l.address-end - l.address) l.address))
          l.fn.output l.output (listing l.image);
      end : l.address-end ≡ length l.image.memory;
      range : l.address-end ≤ 131072;
    }
