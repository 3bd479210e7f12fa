use Rattle.std.proofs.Common.{◌<◌, refl, arith}
use Rattle.job_deck.specs.Listing.{after, items_text}
use Rattle.device_text.proofs.Moving.{nothing_written}
use Rattle.job_deck.proofs.printing.Listings.{goes_on, item_done, item_cut}
use Rattle.job_deck.proofs.listing.put_items.Goals as goal

pub loop-parcel-init : goal.loop-parcel-init
unfolding items_text
loop-parcel-init g c = (
  4,
  omega arith,
  record {
    written = nothing_written (g.O.Output.contents c.args.output.now) (items_text c.args.word);
    failures = refl;
    same = refl;
  },
)

pub returns-in_err-put_pieces : goal.returns-in_err-put_pieces
returns-in_err-put_pieces g c =
    let range = rw c.decode-item.ensures.value at c.decode-item.ensures.range in
    let item = rw (c.separated.ensures, c.decode-item.ensures.value) at c.in_err-put_pieces.ensures in
    item_cut g.O.Output c.from_residual.result _ c.from_residual.ensures.1 c.args.word c.loop-parcel.parcel _ _
    c.put_pieces.new.output _ range c.loop-parcel-test.true c.loop-parcel.invariant item

pub loop-parcel-smaller : goal.loop-parcel-smaller
loop-parcel-smaller g c =
    let on : c.loop-parcel.parcel < after c.loop-parcel.parcel c.decode-item.result =
    goes_on c.loop-parcel.parcel c.decode-item.result c.decode-item.ensures.range in
    omega (arith, on, c.after-parcel.ensures)

pub loop-parcel-preserved : goal.loop-parcel-preserved
loop-parcel-preserved g c =
    let range = rw c.decode-item.ensures.value at c.decode-item.ensures.range in
    let item = rw (c.separated.ensures, c.decode-item.ensures.value) at c.in_ok-put_pieces.ensures in
    let done = item_done g.O.Output c.args.word c.loop-parcel.parcel _ _ c.put_pieces.new.output _ range
    c.loop-parcel-test.true c.loop-parcel.invariant item in
    rw (c.after-parcel.ensures, c.decode-item.ensures.value) done
