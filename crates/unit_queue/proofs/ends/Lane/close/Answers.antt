use Rattle.std.proofs.Common.{sym, subst, ◌∙◌}
use Rattle.unit_queue.specs.contracts.ends.SendPass.{the_invariant}
use Rattle.unit_queue.proofs.Moves.{sends, fills, closing}
use Rattle.unit_queue.proofs.ends.Lane.close.Goals.{then-not-pass, else-not-pass}
use Rattle.unit_queue.proofs.ends.Lane.close.Goals as goal

pub push_as-pushed-requires-clause-rule : goal.push_as-pushed-requires-clause-rule
push_as-pushed-requires-clause-rule g c =
    let i = c.pass.invariant in
    let still = sym i.2 ∙ c.if-not-pass.true in (sends _ _ _ _ c.self.invariant i.1 still, fills _ _ i.1)

pub invariant_of-pass : goal.invariant_of-pass
invariant_of-pass g c =
    let i = c.pass.invariant in
    elim c.if-not-pass.branch [
      | then-not-pass w ↦
          let t =
          closing c.pass.inside.pass.me.0.client w.push_as-pushed.new.pass.me.0.client _ w.push_as-pushed.result
          (sym i.2 ∙ w.if-not-pass.true) i.3 w.push_as-pushed.ensures.rule
          in subst the_invariant (sym w.pass-inside-is)
          (w.push_as-pushed.ensures.queue.2 ∙ i.0, t.0 ∙ i.1, w.is_ok-pass-inside.ensures.value ∙ t.1, t.2)
      | else-not-pass w ↦ subst the_invariant (sym w.pass-inside-is) i
    ]

-- the pass knows whether the lane is closed
pub returns-clause-closed : goal.returns-clause-closed
returns-clause-closed g c closed = sym (invariant_of-pass g c).2 ∙ closed

pub returns-clause-order : goal.returns-clause-order
returns-clause-order g c = (invariant_of-pass g c).3
