use Rattle.std.proofs.Common.{◌≡◌, suc, Some, rules, sym, ap, ◌∙◌, subst, arith}
use Rattle.instructions.specs.Operands.{uses}
use Rattle.in_flight.specs.Flight.{Flight, flight_of, reserved_in}
use Rattle.in_flight.specs.Tests.{unit_for}
use Rattle.in_flight.specs.inner.Board.{IsTied}
use Rattle.in_flight.proofs.answering.Beside.{error_there, reserve_answered, unreserved, reserved_now}
use Rattle.in_flight.proofs.answering.Beside.{reserved_as, unit_free, all_below, reserve_tied, reserved_flight}
use Rattle.in_flight.proofs.flight.InFlight.reserve.Goals.{After-push-arg-in-Ok-1}
use Rattle.in_flight.proofs.flight.InFlight.reserve.Goals as goal

pub invariant_of-self-in_default : goal.invariant_of-self-in_default
invariant_of-self-in_default c =
    subst (IsTied c.self.inside.slots c.self.inside.hopper)
    (sym (search (rules, unreserved))) c.self.invariant

pub returns-in_default-clause-answer : goal.returns-in_default-clause-answer
returns-in_default-clause-answer c place = grind (arith, reserve_answered)

pub returns-in_default-clause-after : goal.returns-in_default-clause-after
returns-in_default-clause-after c =
    let p = error_there c.try_reserve-reserved.result c.in_default.not-Ok in
    rw p.1 (ap (flight_of c.self.inside.slots c.self.inside.hopper)
    (unreserved c.self.inside.board c.try_reserve-reserved.new.self c.args.instr.now
    c.try_reserve-reserved.result p.0 c.try_reserve-reserved.ensures.after p.1)
    ∙ c.self.view_is)

-- the unit and the number of the reservation
given : (c : After-push-arg-in-Ok-1) → (unit_for c.self.inside.slots (uses c.args.instr.now).unit ≡ Some c.in-Ok.unit)
    × (c.in-Ok.number ≡ suc c.self.inside.board.last)
given c =
    reserved_as c.self.inside.slots c.args.instr.now c.self.inside.board c.try_reserve-reserved.result
    (c.in-Ok.unit, c.in-Ok.number) c.self.invariant.boarded c.try_reserve-reserved.ensures.answer c.in-Ok.is

pub push-requires-clause-free : goal.push-requires-clause-free
push-requires-clause-free c =
    unit_free c.self.inside.slots (uses c.args.instr.now).unit c.in-Ok.unit
    (given (goal.at.push-requires-clause-free c).After-push-arg-in-Ok-1).0

pub push-requires-clause-last : goal.push-requires-clause-last
push-requires-clause-last c =
    all_below c.self.inside.slots c.self.inside.board.last c.in-Ok.number c.self.invariant.counted
    (given (goal.at.push-requires-clause-last c).After-push-arg-in-Ok-1).1

pub invariant_of-self : goal.invariant_of-self
invariant_of-self c =
    reserve_tied c.self.inside.slots c.push.new.self c.self.inside.hopper c.self.inside.board
    c.try_reserve-reserved.new.self c.args.instr.now c.args.at (c.in-Ok.unit, c.in-Ok.number) c.self.invariant
    (given (goal.at.invariant_of-self c).After-push-arg-in-Ok-1).1 (reserved_now c.self.inside.board c.try_reserve-reserved.new.self c.args.instr.now
    c.try_reserve-reserved.result (c.in-Ok.unit, c.in-Ok.number) c.try_reserve-reserved.ensures.after c.in-Ok.is) c.push.ensures

pub returns-in-Ok-clause-answer : goal.returns-in-Ok-clause-answer
returns-in-Ok-clause-answer c place = grind (arith, reserve_answered)

pub returns-in-Ok-clause-reservation : goal.returns-in-Ok-clause-reservation
returns-in-Ok-clause-reservation c = grind (arith, reserved_as)

pub returns-in-Ok-clause-after : goal.returns-in-Ok-clause-after
returns-in-Ok-clause-after c =
    let p = given (goal.at.returns-in-Ok-clause-after c).After-push-arg-in-Ok-1 in
    rw c.in-Ok.is (reserved_flight c.self.inside.slots c.push.new.self c.self.inside.hopper c.self.inside.board
    c.try_reserve-reserved.new.self c.args.instr.now c.args.at (c.in-Ok.unit, c.in-Ok.number) p.0 p.1
    (reserved_now c.self.inside.board c.try_reserve-reserved.new.self c.args.instr.now
    c.try_reserve-reserved.result (c.in-Ok.unit, c.in-Ok.number) c.try_reserve-reserved.ensures.after c.in-Ok.is) c.push.ensures
    ∙ ap (λ (f : Flight). reserved_in f c.args.instr.now c.args.at) c.self.view_is)
