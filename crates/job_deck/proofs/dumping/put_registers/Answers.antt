use Rattle.std.proofs.Common.{codes}
use Rattle.device_text.proofs.Putting.{puts_cut, puts_after, puts_last}
use Rattle.job_deck.specs.Dump.{index_line, x_lines}
use Rattle.job_deck.proofs.dumping.put_registers.Goals as goal

pub returns-in_err-put_index_line : goal.returns-in_err-put_index_line
returns-in_err-put_index_line g c =
    puts_cut g.O.Output c.from_residual.result _ c.from_residual.ensures.1 _ _
    (index_line (codes "A") c.args.registers.now.a) _ c.in_err-put_index_line.ensures

pub returns-in_err-put_index_line-2 : goal.returns-in_err-put_index_line-2
returns-in_err-put_index_line-2 g c =
    let residual = c.from_residual-in_err-put_index_line-2 in
    puts_after g.O.Output residual.result _ _ _ (index_line (codes "A") c.args.registers.now.a) _
    c.in_ok-put_index_line.ensures
    (puts_cut g.O.Output residual.result _ residual.ensures.1 _ _
    (index_line (codes "B 000000") c.args.registers.now.b) _ c.in_err-put_index_line-2.ensures)

pub returns : goal.returns
returns g c =
    let result = c.put_x_lines.result in
    puts_after g.O.Output result _ _ _ (index_line (codes "A") c.args.registers.now.a) _
    c.in_ok-put_index_line.ensures
    (puts_after g.O.Output result _ _ _ (index_line (codes "B 000000") c.args.registers.now.b) _
    c.in_ok-put_index_line-2.ensures
    (puts_last g.O.Output result _ _ (x_lines c.args.registers.now.x) c.put_x_lines.ensures))
