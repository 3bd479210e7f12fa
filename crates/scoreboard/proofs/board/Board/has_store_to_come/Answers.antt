-- Whether an Increment unit holds an SA6 or SA7, compared with the board's list.
use Rattle.std.proofs.Common.{ap, sym, ◌∙◌, arith}
use Rattle.std.specs.Prelude.{◌||◌}
use Rattle.std.specs.List.{list_any}
use Rattle.instructions.proofs.Slots.{slot_any}
use Rattle.instructions.specs.declared.instr.Unit.TheVariants.{Increment2}
use Rattle.scoreboard.specs.Reservations.{has_store_turn}
use Rattle.scoreboard.specs.Answers.{Standing}
use Rattle.scoreboard.specs.inner.Fields.{slot_is, slot_at}
use Rattle.scoreboard.proofs.changing.OfKind.{store_found}
use Rattle.scoreboard.proofs.board.Board.has_store_to_come.Goals as goal

pub returns-then-has_store : goal.returns-then-has_store
returns-then-has_store c =
    c.if-has_store.true
    ∙ sym (ap (λ b. b || slot_is has_store_turn (slot_at c.self.inside.units Increment2))
    (ap (slot_is has_store_turn) (slot_any c.self.inside.units 8 c.index-self.result
    (omega (arith, c.self.invariant.all_units))) ∙ sym c.has_store.ensures ∙ c.if-has_store.true))
    ∙ store_found c.self.inside.units c.self.inside.channels c.self.inside.producers c.self.inside.writers
    c.self.inside.last c.self.invariant
    ∙ ap (λ (s : Standing). list_any (λ x. has_store_turn x.reservation) s.issued) c.self.view_is

pub returns-else-has_store : goal.returns-else-has_store
returns-else-has_store c =
    c.has_store-else-has_store.ensures
    ∙ sym (ap (slot_is has_store_turn) (slot_any c.self.inside.units 9 c.index-self-else-has_store.result
    (omega (arith, c.self.invariant.all_units))))
    ∙ sym (ap (λ b. b || slot_is has_store_turn (slot_at c.self.inside.units Increment2))
    (ap (slot_is has_store_turn) (slot_any c.self.inside.units 8 c.index-self.result
    (omega (arith, c.self.invariant.all_units))) ∙ sym c.has_store.ensures ∙ c.if-has_store.false))
    ∙ store_found c.self.inside.units c.self.inside.channels c.self.inside.producers c.self.inside.writers
    c.self.inside.last c.self.invariant
    ∙ ap (λ (s : Standing). list_any (λ x. has_store_turn x.reservation) s.issued) c.self.view_is
