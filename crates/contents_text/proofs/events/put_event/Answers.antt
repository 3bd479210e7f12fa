use Rattle.device_text.proofs.Putting.{puts_cut, puts_after}
use Rattle.contents_text.specs.Events.{event_line}
use Rattle.contents_text.proofs.events.put_event.Goals as goal

pub returns-in_err-put_pieces : goal.returns-in_err-put_pieces
returns-in_err-put_pieces g c =
    puts_cut g.O.Output c.from_residual.result _ c.from_residual.ensures.1 _ _ (event_line c.args.event) _
    (rw (c.event_pieces.ensures) at c.in_err-put_pieces.ensures)

pub returns : goal.returns
returns g c =
    puts_after g.O.Output c.put_answer.result _ _ _ (event_line c.args.event) _
    (rw (c.event_pieces.ensures) at c.in_ok-put_pieces.ensures) c.put_answer.ensures.puts
