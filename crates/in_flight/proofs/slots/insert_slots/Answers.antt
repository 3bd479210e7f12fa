use Rattle.std.proofs.Common.{◌-◌, arith}
use Rattle.in_flight.proofs.in_slots.Listing.{none_yet, one_more}
use Rattle.in_flight.proofs.slots.insert_slots.Goals as goal

pub loop-index-init : goal.loop-index-init
loop-index-init c = (none_yet c.args.slots.now c.args.list.now.items, omega arith)

pub loop-index-preserved : goal.loop-index-preserved
loop-index-preserved c =
    let t = c.loop-index-test.true in
    let r = c.insert_slot.ensures.room in
    let i = c.loop-index.invariant.1 in (
      one_more c.args.slots.now c.loop-index.index (c.loop-index.index - 1) c.index-slots-index.result _
          c.args.list.now.items c.loop-index.list.items c.insert_slot.new.list.items (omega (arith, t))
          (omega (arith, t)) c.index-slots-index.is c.loop-index.invariant.0 c.insert_slot.ensures.items,
      omega (arith, t, r, i),
    )
