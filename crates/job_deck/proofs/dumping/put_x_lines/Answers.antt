use Rattle.std.proofs.Common.{refl}
use Rattle.job_deck.specs.Dump.{x_line, x_lines}
use Rattle.device_text.proofs.Moving.{nothing_written}
use Rattle.job_deck.proofs.printing.Ranges.{puts_address, puts_address_cut}
use Rattle.job_deck.proofs.dumping.put_x_lines.Goals as goal

pub loop-number-init : goal.loop-number-init
unfolding x_lines
loop-number-init g c =
    record {
      written = nothing_written (g.O.Output.contents c.args.output.now) (x_lines c.args.x.now);
      failures = refl;
      same = refl;
    }

pub returns-in_err-put_pieces : goal.returns-in_err-put_pieces
returns-in_err-put_pieces g c =
    puts_address_cut g.O.Output c.from_residual.result _ c.from_residual.ensures.1 (x_line c.args.x.now) _
    c.loop-number.number _ _ c.put_pieces.new.output _ c.loop-number-test.true c.loop-number.invariant
    (rw c.x_line.ensures at c.in_err-put_pieces.ensures)

pub loop-number-preserved : goal.loop-number-preserved
loop-number-preserved g c =
    puts_address g.O.Output (x_line c.args.x.now) _ c.loop-number.number _ _ c.put_pieces.new.output _
    c.loop-number-test.true c.loop-number.invariant (rw c.x_line.ensures at c.in_ok-put_pieces.ensures)
