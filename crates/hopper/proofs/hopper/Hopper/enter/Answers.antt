-- An entering reference takes the lowest-numbered free place and becomes the last of the waiting references.
use Rattle.std.proofs.Common.{◌≡◌, true, false, rules, tests, sym, ap, ◌∙◌, arith}
use Rattle.std.proofs.lemmas.Iterator.{first_from_Range}
use Rattle.hopper.specs.Queue.{is_taken, place_for, enter_answer}
use Rattle.hopper.proofs.Laws.{entered_right}
use Rattle.hopper.proofs.Standing.{room_for_one, found_is}
use Rattle.hopper.proofs.hopper.Hopper.enter.Goals as goal
use Rattle.hopper.proofs.hopper.Hopper.enter.Goals.{After-find}

-- the place that the search finds
found : (c : After-find) → c.find.result ≡ place_for c.self.inside.entered.items
unfolding place_for
found c = found_is (is_taken c.as_slice-entered.result.now) c.find.result
    (first_from_Range _ _ _ _ (λ p. is_taken c.as_slice-entered.result.now p ≡ false)
    (λ p. is_taken c.as_slice-entered.result.now p ≡ true) c.find.ensures.ran (λ x q k. search (rules, tests))
    (λ x q k. search (rules, tests)))
    ∙ ap place_for c.as_slice-entered.ensures.value

pub returns-in_default-clause-answer : goal.returns-in_default-clause-answer
unfolding enter_answer
returns-in_default-clause-answer c = grind (arith, found)

pub push-requires : goal.push-requires
push-requires c =
    let free = sym (found ((goal.at.push-requires c).After-find)) ∙ c.in-Some.is in
    let room = room_for_one c.self.inside.entered.items c.in-Some.place c.self.invariant.placed
    c.self.invariant.apart free in
    (omega arith, room)

pub invariant_of-self : goal.invariant_of-self
invariant_of-self c = grind (arith, found, entered_right)

pub returns-clause-answer : goal.returns-clause-answer
unfolding enter_answer
returns-clause-answer c = grind (arith, found)
