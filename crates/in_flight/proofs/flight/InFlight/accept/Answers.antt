use Rattle.std.proofs.Common.{arith, ◌≡◌, sym, ap, ◌∙◌, subst, length, Some}
use Rattle.std.proofs.lemmas.Result.{MatchResult-at_ok}
use Rattle.instructions.specs.Each.{Pairs}
use Rattle.instructions.specs.Finding.{Found, seek}
use Rattle.hopper.specs.declared.reference.Reference.{Reference}
use Rattle.in_flight.specs.declared.pending.Pending.{Pending}
use Rattle.in_flight.specs.Flight.{Flight, left_by}
use Rattle.in_flight.specs.inner.OwnSlots.{HasOwnSlots}
use Rattle.in_flight.specs.Apart.{IsApart}
use Rattle.in_flight.specs.Lookup.{entry_at}
use Rattle.in_flight.proofs.answering.Referring.{accept_answered, accept_found, entry_placed}
use Rattle.in_flight.proofs.answering.Referring.{room_for_word, accept_tied, accept_flight}
use Rattle.in_flight.proofs.flight.InFlight.accept.Goals.{After-left-in-Ok-1, in-Load, in-Store}
use Rattle.in_flight.proofs.flight.InFlight.accept.Goals as goal

-- the instruction whose reference the bank takes
found : (c : After-left-in-Ok-1) → (f : Found Pending Reference)
    × (seek (entry_at c.args.place) c.self.inside.slots ≡ Some f) × (f.answer ≡ c.in-Ok.reference)
found c =
    accept_found c.args.place c.self.inside.slots c.self.inside.hopper c.accept-accepted.result c.in-Ok.reference
    c.self.invariant.entered c.accept-accepted.ensures.answer c.in-Ok.is

own_slots : (c : After-left-in-Ok-1) → HasOwnSlots (length c.args.memory.now) c.self.inside.slots
own_slots c = subst (λ (x : Flight). HasOwnSlots (length c.args.memory.now) x.pending) (sym c.self.view_is)
    c.requires.own_slots

-- the word that the load brings, or nothing
left : (c : After-left-in-Ok-1) → c.match-reference.left
    ≡ left_by c.args.memory.now c.in-Ok.reference.address c.in-Ok.reference.access
left c =
    elim c.match-reference.branch [
      | in-Load w ↦ grind arith
      | in-Store w ↦ w.left-is ∙ sym (ap (left_by c.args.memory.now c.in-Ok.reference.address) w.in-Store.is)
    ]

pub returns-in_default-clause-answer : goal.returns-in_default-clause-answer
returns-in_default-clause-answer c =
    sym (grind arith)
    ∙ accept_answered c.args.place c.self.inside.slots c.self.inside.hopper c.accept-accepted.result
    c.self.invariant.entered
    c.accept-accepted.ensures.answer

pub load-requires : goal.load-requires
load-requires c =
    let p = accept_found c.args.place c.self.inside.slots c.self.inside.hopper c.accept-accepted.result
    c.in-Ok.reference c.self.invariant.entered c.accept-accepted.ensures.answer c.in-Ok.is in
    grind (arith, entry_placed, own_slots)

pub accept-requires-clause-place : goal.accept-requires-clause-place
accept-requires-clause-place c =
    let d = (goal.at.accept-requires-clause-place c).After-left-in-Ok-1 in
    (entry_placed (length c.args.memory.now) c.args.place c.self.inside.slots (found d).0 (own_slots d) (found d).1).0

pub accept-requires-clause-room : goal.accept-requires-clause-room
accept-requires-clause-room c =
    let d = (goal.at.accept-requires-clause-room c).After-left-in-Ok-1 in
    room_for_word c.args.memory.now c.args.place c.self.inside.slots (found d).0 c.in-Ok.reference
    c.match-reference.left
    (subst (λ (x : Flight). Pairs IsApart x.pending) (sym c.self.view_is) c.requires.apart) (own_slots d) (found d).1
    (found d).2 (left (goal.at.accept-requires-clause-room c).After-left-in-Ok-1)

pub invariant_of-self : goal.invariant_of-self
invariant_of-self c =
    let p = found (goal.at.invariant_of-self c).After-left-in-Ok-1 in
    accept_tied c.args.memory.now c.args.place c.self.inside.slots c.accept.new.self c.self.inside.hopper
    c.accept-accepted.new.self c.self.inside.board p.0 c.in-Ok.reference c.match-reference.left c.self.invariant p.1 p.2
    (left (goal.at.invariant_of-self c).After-left-in-Ok-1) c.accept.ensures
    (MatchResult-at_ok _ _ c.in-Ok.reference c.in-Ok.is c.accept-accepted.ensures.after)

pub returns-after-reference-clause-answer : goal.returns-after-reference-clause-answer
returns-after-reference-clause-answer c =
    sym (grind arith)
    ∙ accept_answered c.args.place c.self.inside.slots c.self.inside.hopper c.accept-accepted.result
    c.self.invariant.entered
    c.accept-accepted.ensures.answer

pub returns-after-reference-clause-entry : goal.returns-after-reference-clause-entry
returns-after-reference-clause-entry c =
    grind (arith, found (goal.at.returns-after-reference-clause-entry c).After-left-in-Ok-1)

pub returns-after-reference-clause-after : goal.returns-after-reference-clause-after
returns-after-reference-clause-after c =
    let p = found (goal.at.returns-after-reference-clause-after c).After-left-in-Ok-1 in
    rw c.in-Ok.is (accept_flight c.args.memory.now c.args.place c.self.inside.slots c.accept.new.self
    c.self.inside.hopper c.accept-accepted.new.self c.self.inside.board p.0 c.in-Ok.reference c.match-reference.left
    c.args.self.now c.self.view_is c.self.invariant p.1 p.2
    (left (goal.at.returns-after-reference-clause-after c).After-left-in-Ok-1) c.accept.ensures
    (MatchResult-at_ok _ _ c.in-Ok.reference c.in-Ok.is c.accept-accepted.ensures.after))
