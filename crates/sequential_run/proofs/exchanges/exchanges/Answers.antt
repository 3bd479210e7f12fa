use Rattle.std.proofs.Common.{refl, sym, ◌∙◌, arith}
use Rattle.sequential.specs.Log.{issued, steps_of}
use Rattle.sequential_run.specs.Fulfilled.{exchanges_after}
use Rattle.sequential_run.proofs.Counting.{exchanges_more, count_more, count_within}
use Rattle.sequential_run.proofs.exchanges.exchanges.Goals as goal

pub loop-entry-init : goal.loop-entry-init
unfolding steps_of issued exchanges_after
loop-entry-init c = record { made = c.new-made.ensures.items; count = refl }

pub add-requires : goal.add-requires
add-requires c = grind (arith, count_more, count_within)

pub loop-entry-preserved : goal.loop-entry-preserved
loop-entry-preserved c = record {
  made = c.in_ok-add.ensures.made
      ∙ rw (c.loop-entry.invariant.made, c.loop-entry.invariant.count)
      (rw c.entry-item.is (sym (exchanges_more c.args.entries.now c.loop-entry.entry-index c.entry-item.result
      c.loop-entry-test.true)));
  count = c.in_ok-add.ensures.count ∙ rw (c.loop-entry.invariant.count) (rw c.entry-item.is
      (sym (count_more c.args.entries.now c.loop-entry.entry-index c.entry-item.result c.loop-entry-test.true)));
}
