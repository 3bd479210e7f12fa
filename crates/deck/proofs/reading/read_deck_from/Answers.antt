use Rattle.std.proofs.Common.{Some, Ok, Err, arith, refl, rules}
use Rattle.std.proofs.lemmas.Result.{err_from_is_err_and}
use Rattle.deck.proofs.DeckLines.{numbered, unrefused, line_refused, line_fault, line_goes, line_ends, lines_over}
use Rattle.deck.proofs.Unread.{line_cut}
use Rattle.deck.proofs.reading.read_deck_from.Goals as goal

pub returns-in_err-next_line-clause-deck : goal.returns-in_err-next_line-clause-deck
returns-in_err-next_line-clause-deck g c =
    let refused = line_refused _ _ (g.I.Input.remaining c.next_line.new.input) c.loop-number.number
    (Some c.loop-number.draft) _ (omega arith) c.loop-number.invariant.told c.in_err-next_line.ensures.err in
    let p = err_from_is_err_and c.from_residual-in_err-next_line.result
    c.from_residual-in_err-next_line.ensures.1 in
    rw (p.1, p.2) refused

pub returns-in_err-with_line_number-clause-deck : goal.returns-in_err-with_line_number-clause-deck
returns-in_err-with_line_number-clause-deck g c =
    let p = err_from_is_err_and c.from_residual-in_err-with_line_number.result c.from_residual-in_err-with_line_number.ensures.1 in
    let fault = numbered c.apply.result (Err _) c.loop-number.number _ c.in_err-with_line_number.ensures refl in
    let applied = rw (c.as_slice.ensures.value, fault.1) at c.apply.ensures in
    rw (p.1, p.2, fault.2) (line_fault (g.I.Input.remaining c.args.input.now)
    (g.I.Input.remaining c.loop-number.input) (g.I.Input.remaining c.next_line.new.input) c.loop-number.number
    (Some c.loop-number.draft) c.next_line.new.line.items fault.0 (omega arith)
    c.in_ok-next_line.ensures.text c.loop-number.invariant.told c.in_ok-next_line.ensures.ok applied.0)

pub returns-in-Ends-clause-deck : goal.returns-in-Ends-clause-deck
returns-in-Ends-clause-deck g c =
    let applied = rw (c.as_slice.ensures.value, unrefused c.apply.result (Ok _) _ _ c.in_ok-with_line_number.ensures refl, c.in-Ends.is) at c.apply.ensures in
    rw (c.whole.ensures, applied.1) (line_ends _ _ (g.I.Input.remaining c.next_line.new.input) c.loop-number.number
    (Some c.loop-number.draft) c.next_line.new.line.items _ (omega arith) c.in_ok-next_line.ensures.text
    c.loop-number.invariant.told c.in_ok-next_line.ensures.ok applied.0)

pub returns-clause-deck : goal.returns-clause-deck
returns-clause-deck g c =
    rw c.with_line_number-2.ensures
    (lines_over _ _ c.loop-number.number (Some c.loop-number.draft) (omega arith) c.loop-number.invariant.told)

pub loop-number-preserved : goal.loop-number-preserved
loop-number-preserved g c =
    let applied = rw (c.as_slice.ensures.value, unrefused c.apply.result (Ok _) _ _ c.in_ok-with_line_number.ensures refl, c.in-Goes.is) at c.apply.ensures in
    record {
      told = line_goes _ _ (g.I.Input.remaining c.next_line.new.input) c.loop-number.number
          (Some c.loop-number.draft) c.next_line.new.line.items c.apply.new.self (omega arith)
          c.in_ok-next_line.ensures.text c.loop-number.invariant.told c.in_ok-next_line.ensures.ok applied;
      same = search rules;
      failures = search rules;
    }

pub returns-in_err-next_line-clause-unread : goal.returns-in_err-next_line-clause-unread
returns-in_err-next_line-clause-unread g c =
    let p = err_from_is_err_and c.from_residual-in_err-next_line.result
    c.from_residual-in_err-next_line.ensures.1 in
    rw (p.1, p.2) (line_cut (g.I.Input.remaining c.args.input.now) (g.I.Input.remaining c.loop-number.input)
    (g.I.Input.remaining c.next_line.new.input) c.loop-number.number (Some c.loop-number.draft) _
    c.loop-number.invariant.told c.in_err-next_line.ensures.err c.in_err-next_line.ensures.part)
