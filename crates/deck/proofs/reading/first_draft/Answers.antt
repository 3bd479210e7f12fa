use Rattle.std.proofs.lemmas.Grind.{common_steps}
use Rattle.std.proofs.Common.{None, Err, arith, refl}
use Rattle.std.proofs.lemmas.Result.{err_from_is_err_and}
use Rattle.deck.proofs.DeckLines.{numbered, read_nothing, line_refused, first_fault}
use Rattle.deck.proofs.Unread.{line_cut, line_taken}
use Rattle.deck.proofs.reading.first_draft.Goals as goal

pub returns-in_err-next_line-clause-refused : goal.returns-in_err-next_line-clause-refused
returns-in_err-next_line-clause-refused g c =
    grind (
      arith,
      common_steps,
      line_refused,
      read_nothing,
      c.from_residual.ensures.1,
      c.in_err-next_line.ensures.err,
    )

pub returns-in_err-next_line-clause-unread : goal.returns-in_err-next_line-clause-unread
returns-in_err-next_line-clause-unread g c =
    let p = err_from_is_err_and c.from_residual.result c.from_residual.ensures.1 in
    rw (p.1, p.2) (line_cut (g.I.Input.remaining c.args.input.now) (g.I.Input.remaining c.args.input.now)
    (g.I.Input.remaining c.next_line.new.input) 1 None _
    (read_nothing (g.I.Input.remaining c.args.input.now)) c.in_err-next_line.ensures.err
    c.in_err-next_line.ensures.part)

pub returns-clause-unread : goal.returns-clause-unread
returns-clause-unread g c =
    λ cut. line_taken (g.I.Input.remaining c.args.input.now) (g.I.Input.remaining c.args.input.now)
    (g.I.Input.remaining c.next_line.new.input) 1 None c.next_line.new.line.items
    (read_nothing (g.I.Input.remaining c.args.input.now)) c.in_ok-next_line.ensures.ok

pub returns-in_err-size-clause-refused : goal.returns-in_err-size-clause-refused
returns-in_err-size-clause-refused g c =
    let p = err_from_is_err_and c.from_residual-in_err-size.result c.from_residual-in_err-size.ensures.1 in
    let fault = numbered c.first_size.result (Err _) 1 _ c.in_err-size.ensures refl in
    let applied = rw (c.as_slice.ensures.value, fault.1) at c.first_size.ensures in
    rw (p.1, p.2, fault.2) (first_fault (g.I.Input.remaining c.args.input.now)
    (g.I.Input.remaining c.next_line.new.input)
    c.next_line.new.line.items fault.0 c.in_ok-next_line.ensures.text c.in_ok-next_line.ensures.ok applied)
