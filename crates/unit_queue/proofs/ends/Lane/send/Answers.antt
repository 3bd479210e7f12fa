use Rattle.std.proofs.Common.{◌≡◌, ◌⊎◌, inr, true, rules, sym, subst, ◌∙◌}
use Rattle.std.specs.Prelude.{Result, OnErr}
use Rattle.program_order.specs.declared.event.Note.{Note}
use Rattle.unit_queue.specs.Lanes.{is_closed, IsFull}
use Rattle.unit_queue.specs.contracts.ends.SendPass.{the_view}
use Rattle.unit_queue.proofs.Moves.{sends, fills, pushed}
use Rattle.unit_queue.proofs.ends.Lane.send.Goals.{in-Ok, in-Err}
use Rattle.unit_queue.proofs.ends.Lane.send.Goals as goal

pub push_as-requires-clause-rule : goal.push_as-requires-clause-rule
push_as-requires-clause-rule g c =
    let i = c.pass.invariant in
    let still = sym i.2 ∙ c.if-pass.false in (sends _ _ _ _ c.self.invariant i.1 still, fills _ _ i.1)

pub invariant_of-pass : goal.invariant_of-pass
invariant_of-pass g c =
    let i = c.pass.invariant in
    let still = sym i.2 ∙ c.if-pass.false in
    elim c.match-push_as.branch [
      | in-Ok w ↦
          let p = pushed _ _ _ still w.in-Ok.ensures.rule in
          (c.push_as.ensures.queue.2 ∙ i.0, p.0 ∙ i.1, c.if-pass.false ∙ sym p.1, p.2)
      | in-Err w ↦ (search rules, search rules, search rules, search rules)
    ]

pub returns-clause-refused : goal.returns-clause-refused
returns-clause-refused g c = elim c.match-push_as.branch [
  | in-Ok w ↦ search rules
  | in-Err w ↦
      let held = w.in-Err.ensures.rule.2 in
      let full : IsFull (the_view c.pass.inside) = (held.0, held.1 ∙ c.self.invariant, held.2) in
      subst (λ (r : Result (Unit {0}) Note). OnErr r ((is_closed c.args.pass.now.sent ≡ true) ⊎ IsFull c.args.pass.now))
      (sym w.result-is) (inr (subst IsFull c.pass.view_is full))
]

pub returns-clause-order : goal.returns-clause-order
returns-clause-order g c = (invariant_of-pass g c).3
