use Rattle.device_text.proofs.Putting.{puts_each, puts_each_cut}
use Rattle.job_deck.specs.Dump.{show_lines}
use Rattle.job_deck.proofs.dumping.put_shows.Goals as goal

pub returns-in_err-put_show : goal.returns-in_err-put_show
returns-in_err-put_show g c =
    puts_each_cut g.O.Output c.from_residual.result _ c.from_residual.ensures.1
    (show_lines c.args.memory.now) c.args.shows.now
    c.loop-show.show-index _ _ _ c.put_show.new.output _ c.loop-show-test.true c.loop-show.invariant
    (rw c.show-item.is at c.in_err-put_show.ensures)

pub loop-show-preserved : goal.loop-show-preserved
loop-show-preserved g c =
    puts_each g.O.Output (show_lines c.args.memory.now) c.args.shows.now c.loop-show.show-index _ _ _
    c.put_show.new.output _
    c.loop-show-test.true c.loop-show.invariant (rw c.show-item.is at c.in_ok-put_show.ensures)
