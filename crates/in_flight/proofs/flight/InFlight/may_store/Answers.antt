use Rattle.std.proofs.Common.{sym, ap, ◌∙◌, arith}
use Rattle.std.proofs.lemmas.Result.{err_from_is_err_and}
use Rattle.std.specs.Prelude.{Some}
use Rattle.instructions.specs.Finding.{seek}
use Rattle.in_flight.specs.Flight.{Flight, outstanding_of}
use Rattle.in_flight.specs.Lookup.{stage_at, enters}
use Rattle.in_flight.proofs.answering.Beside.{store_refused, store_unroomed, store_turned, full_is}
use Rattle.in_flight.proofs.answering.Referring.{enters_in_range, none_enters}
use Rattle.in_flight.proofs.flight.InFlight.may_store.Goals as goal

pub returns-in_err-may_store : goal.returns-in_err-may_store
returns-in_err-may_store c f h = grind (arith, store_refused, err_from_is_err_and)

pub returns-in-Some : goal.returns-in-Some
returns-in-Some c f h =
    sym (grind arith)
    ∙ store_unroomed c.args.unit c.self.inside.slots c.self.inside.board.issued f (enters (outstanding_of 0
    c.args.rest.now))
    c.in_ok-may_store.field-0 c.self.invariant.boarded
    (ap (λ (x : Flight). seek (stage_at c.args.unit) x.pending) c.self.view_is ∙ h)
    (sym c.in_ok-may_store.was ∙ c.may_store.ensures)
    (grind (arith, enters_in_range, full_is))

pub returns-in_default : goal.returns-in_default
returns-in_default c f h =
    sym (grind arith)
    ∙ store_turned c.args.unit c.self.inside.slots c.self.inside.board.issued f (enters (outstanding_of 0
    c.args.rest.now))
    c.in_ok-may_store.field-0 c.in_turn.result c.self.invariant.boarded
    (ap (λ (x : Flight). seek (stage_at c.args.unit) x.pending) c.self.view_is ∙ h)
    (sym c.in_ok-may_store.was ∙ c.may_store.ensures)
    (grind (arith, enters_in_range, full_is, none_enters))
    c.in_turn.ensures
