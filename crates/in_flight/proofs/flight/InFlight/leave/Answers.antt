use Rattle.std.proofs.Common.{arith, rules, ◌≡◌, true, false, sym, ap, ◌∙◌, subst, Some}
use Rattle.std.specs.Prelude.{IfSome, is_none}
use Rattle.instructions.specs.Each.{Pairs}
use Rattle.instructions.specs.Finding.{Found, seek, replaced}
use Rattle.instructions.specs.Shape.{shape_of}
use Rattle.scoreboard.specs.Answers.{left}
use Rattle.in_flight.specs.declared.pending.Pending.{Pending}
use Rattle.in_flight.specs.declared.pending.Stage.{Stage}
use Rattle.in_flight.specs.Flight.{Flight, IsRestOf, outstanding_of}
use Rattle.in_flight.specs.inner.Slots.{HasRoom}
use Rattle.in_flight.specs.Lookup.{located, stage_at, place_for, enters, kept}
use Rattle.in_flight.specs.Apart.{IsApart}
use Rattle.in_flight.proofs.answering.Beside.{some_from, nobody_from}
use Rattle.in_flight.proofs.answering.Referring.{HasCome, has_entered, not_refused, load_has_come, store_has_gone}
use Rattle.in_flight.proofs.answering.Referring.{none_has_come, room_for_rest, room_in_queue, leave_tied, leave_flight}
use Rattle.in_flight.proofs.answering.Referring.{leave_nobody}
use Rattle.in_flight.proofs.flight.InFlight.leave.Goals.{After-left-2-1}
use Rattle.in_flight.proofs.flight.InFlight.leave.Goals.{in-None, in-Some+in-Some-address+in-Ok}
use Rattle.in_flight.proofs.flight.InFlight.leave.Goals.{in-Some+in-Some-address+in-Err, in-Some+in-None-address+in-Load}
use Rattle.in_flight.proofs.flight.InFlight.leave.Goals.{in-Some+in-None-address+in-Store}
use Rattle.in_flight.proofs.flight.InFlight.leave.Goals as goal

-- the instruction that holds the unit
holder : (c : After-left-2-1) → (f : Found Pending Stage) × (seek (stage_at c.args.unit) c.self.inside.slots ≡ Some f)
holder c =
    some_from (seek (stage_at c.args.unit) c.self.inside.slots) c.find_stage.result c.is_none.result
    c.find_stage.ensures c.is_none.ensures c.if-is_none.false

-- the hopper has a place for the reference
room : (c : After-left-2-1) → enters (outstanding_of 0 c.args.rest.now) ≡ true
    → is_none (place_for c.self.inside.slots) ≡ false
room c = subst (λ (x : Flight). enters (outstanding_of 0 c.args.rest.now) ≡ true
    → is_none (place_for x.pending) ≡ false) (sym c.self.view_is) c.requires.room

-- the reference of the instruction has entered the hopper, or has no need of it
come : (c : After-left-2-1) → HasCome c.self.inside c.match-rest.self-inside c.args.rest.now c.match-rest.left
come c =
    elim c.match-rest.branch [
      | in-None w ↦ search (rules, none_has_come)
      | in-Some+in-Some-address+in-Ok w ↦ search (rules, has_entered, w.in-Some.is, w.in-Some-address.is, w.enter.ensures.answer, w.in-Ok.is, w.in-Ok.ensures.after, w.left-is, w.self-inside-is)
      | in-Some+in-Some-address+in-Err w ↦ search (rules, not_refused, room_in_queue, room)
      | in-Some+in-None-address+in-Load w ↦ load_has_come c.self.inside c.match-rest.self-inside c.args.rest.now
          w.in-Some.reference w.in-Load.n w.default.result c.match-rest.left w.in-Some.is w.in-None-address.is
          w.in-Load.is (sym w.default.ensures.1 ∙ w.default.ensures.2) w.left-is w.self-inside-is
      | in-Some+in-None-address+in-Store w ↦ search (rules, store_has_gone)
    ]

-- the rest belongs to the instruction that holds the unit
rest : (c : After-left-2-1) → IfSome (located (seek (stage_at c.args.unit) c.self.inside.slots))
    (λ s. IsRestOf (shape_of s.pending.instr) c.args.rest.now)
rest c = subst (λ (x : Flight). IfSome (located (seek (stage_at c.args.unit) x.pending))
    (λ s. IsRestOf (shape_of s.pending.instr) c.args.rest.now)) (sym c.self.view_is) c.requires.rest

pub returns-then-is_none : goal.returns-then-is_none
returns-then-is_none c = cc (leave_nobody c.args.unit c.args.rest.now c.args.self.now (grind (arith, nobody_from)))

pub leave-requires : goal.leave-requires
leave-requires c =
    let d = (goal.at.leave-requires c).After-left-2-1 in
    subst (HasRoom c.match-rest.left) (sym (come d).slots)
    (room_for_rest c.args.unit c.self.inside.slots c.self.inside.hopper (holder d).0 c.args.rest.now
    c.match-rest.left c.self.invariant.entered
    (subst (λ (x : Flight). Pairs IsApart x.pending) (sym c.self.view_is) c.requires.apart) (holder d).1 (rest d)
    (room d) (come d).left)

pub invariant_of-self : goal.invariant_of-self
invariant_of-self c =
    let d = (goal.at.invariant_of-self c).After-left-2-1 in
    leave_tied c.args.unit c.self.inside.slots c.leave.new.self c.self.inside.hopper
    c.match-rest.self-inside.hopper c.self.inside.board c.release.new.self (holder d).0 c.args.rest.now
    c.match-rest.left c.self.invariant
    (subst (λ (x : Flight). Pairs IsApart x.pending) (sym c.self.view_is) c.requires.apart) (holder d).1 (rest d)
    (come d).left
    (c.leave.ensures ∙ ap (λ ms. replaced (seek (stage_at c.args.unit) ms) ms (λ m. kept m c.match-rest.left))
    (come d).slots) (come d).queue
    (grind (arith, come))

pub returns : goal.returns
returns c =
    let h = come (goal.at.returns c).After-left-2-1 in
    leave_flight c.args.unit c.self.inside.slots c.leave.new.self c.self.inside.hopper
    c.match-rest.self-inside.hopper c.self.inside.board c.release.new.self c.args.rest.now c.match-rest.left
    c.args.self.now c.self.view_is c.self.invariant h.left
    (grind arith) h.queue
    (grind arith)
