-- Whether Branch is held, compared with the board's list.
use Rattle.std.proofs.Common.{ap, sym, ◌∙◌, Option, arith}
use Rattle.std.specs.Prelude.{is_some}
use Rattle.std.specs.List.{list_any}
use Rattle.instructions.proofs.Slots.{slot_any}
use Rattle.scoreboard.specs.declared.issued.Issued.{Issued}
use Rattle.scoreboard.specs.Reservations.{is_branch}
use Rattle.scoreboard.specs.Answers.{Standing}
use Rattle.scoreboard.proofs.changing.OfKind.{branch_found}
use Rattle.scoreboard.proofs.board.Board.is_branch_held.Goals as goal

pub returns : goal.returns
returns c =
    c.is_some.ensures
    ∙ sym (ap (λ (o : Option Issued). is_some o) (slot_any c.self.inside.units 0 c.index-self.result
    (omega (arith, c.self.invariant.all_units))))
    ∙ branch_found c.self.inside.units c.self.inside.channels c.self.inside.producers c.self.inside.writers
    c.self.inside.last c.self.invariant
    ∙ ap (λ (s : Standing). list_any (λ x. is_branch x.reservation) s.issued) c.self.view_is
