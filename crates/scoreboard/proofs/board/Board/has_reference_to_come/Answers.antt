-- Whether an instruction in Branch or in an Increment unit has a reference still to make, compared with the board's
-- list.
use Rattle.std.proofs.Common.{ap, ◌∙◌}
use Rattle.std.specs.List.{list_any}
use Rattle.scoreboard.specs.Reservations.{has_turn}
use Rattle.scoreboard.specs.Answers.{Standing}
use Rattle.scoreboard.proofs.changing.OfKind.{reference_found}
use Rattle.scoreboard.proofs.board.Board.has_reference_to_come.Goals as goal

pub returns : goal.returns
returns c =
    c.any_reference.ensures
    ∙ reference_found c.self.inside.units c.self.inside.channels c.self.inside.producers c.self.inside.writers
    c.self.inside.last c.self.invariant
    ∙ ap (λ (s : Standing). list_any (λ x. has_turn x.reservation) s.issued) c.self.view_is
