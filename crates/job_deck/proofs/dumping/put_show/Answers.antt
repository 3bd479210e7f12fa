use Rattle.std.proofs.Common.{rules}
use Rattle.job_deck.specs.Dump.{word_line}
use Rattle.job_deck.proofs.printing.Ranges.{puts_address, puts_address_cut}
use Rattle.job_deck.proofs.dumping.put_show.Goals as goal

pub returns-in_err-put_pieces : goal.returns-in_err-put_pieces
returns-in_err-put_pieces g c =
    puts_address_cut g.O.Output c.from_residual.result _ c.from_residual.ensures.1 (word_line c.args.memory.now) _
    c.loop-address.address _ _ c.put_pieces.new.output _ c.loop-address-test.true c.loop-address.invariant.puts
    (rw (c.word_line.ensures, c.from_bits.ensures) at c.in_err-put_pieces.ensures)

pub loop-address-preserved : goal.loop-address-preserved
loop-address-preserved g c =
    record {
      puts = puts_address g.O.Output (word_line c.args.memory.now) _ c.loop-address.address _ _
          c.put_pieces.new.output _ c.loop-address-test.true c.loop-address.invariant.puts
          (rw (c.word_line.ensures, c.from_bits.ensures) at c.in_ok-put_pieces.ensures);
      start = search rules;
      end = search rules;
    }
