use Rattle.device_text.proofs.Putting.{puts_cut, puts_after, puts_last}
use Rattle.job_deck.specs.Dump.{place_line, halt_text, fault_text, area_line}
use Rattle.job_deck.proofs.dumping.put_state.Goals as goal

pub returns-in_err-put_pieces : goal.returns-in_err-put_pieces
returns-in_err-put_pieces g c =
    puts_cut g.O.Output c.from_residual.result _ c.from_residual.ensures.1 _ _ (place_line c.args.state.now.position) _
    (rw c.place_line.ensures at c.in_err-put_pieces.ensures)

pub returns-in_err-put_pieces-2 : goal.returns-in_err-put_pieces-2
returns-in_err-put_pieces-2 g c =
    let residual = c.from_residual-in_err-put_pieces-2 in
    puts_after g.O.Output residual.result _ _ _ (place_line c.args.state.now.position) _
    (rw c.place_line.ensures at c.in_ok-put_pieces.ensures)
    (puts_cut g.O.Output residual.result _ residual.ensures.1 _ _ (halt_text c.args.state.now.halt) _
    (rw c.halt_text.ensures at c.in_err-put_pieces-2.ensures))

pub returns-in_err-put_pieces-3 : goal.returns-in_err-put_pieces-3
returns-in_err-put_pieces-3 g c =
    let residual = c.from_residual-in_err-put_pieces-3 in
    puts_after g.O.Output residual.result _ _ _ (place_line c.args.state.now.position) _
    (rw c.place_line.ensures at c.in_ok-put_pieces.ensures)
    (puts_after g.O.Output residual.result _ _ _ (halt_text c.args.state.now.halt) _
    (rw c.halt_text.ensures at c.in_ok-put_pieces-2.ensures)
    (puts_cut g.O.Output residual.result _ residual.ensures.1 _ _ (fault_text c.args.state.now.fault) _
    (rw c.fault_text.ensures at c.in_err-put_pieces-3.ensures)))

pub returns : goal.returns
returns g c =
    let result = c.put_pieces-4.result in
    puts_after g.O.Output result _ _ _ (place_line c.args.state.now.position) _
    (rw c.place_line.ensures at c.in_ok-put_pieces.ensures)
    (puts_after g.O.Output result _ _ _ (halt_text c.args.state.now.halt) _
    (rw c.halt_text.ensures at c.in_ok-put_pieces-2.ensures)
    (puts_after g.O.Output result _ _ _ (fault_text c.args.state.now.fault) _
    (rw c.fault_text.ensures at c.in_ok-put_pieces-3.ensures)
    (puts_last g.O.Output result _ _ (area_line c.args.state.now.area)
    (rw c.area_line.ensures at c.put_pieces-4.ensures))))
