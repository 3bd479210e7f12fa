-- A board without instructions, and its list.
use Rattle.std.proofs.Common.{refl, sym, subst, None, replicate}
use Rattle.scoreboard.specs.declared.writers.Writers.{Writers}
use Rattle.scoreboard.specs.inner.View.{IsRight}
use Rattle.scoreboard.proofs.changing.Reserving.{none_right, none_view}
use Rattle.scoreboard.proofs.board.Board.new.Goals as goal

pub invariant_of-result : goal.invariant_of-result
invariant_of-result c =
    subst (λ (ws : Writers). IsRight (replicate 10 None) (replicate 8 None) (replicate 10 (replicate 3 None)) ws 0)
    (sym c.new.ensures)
    (none_right (replicate 10 None) (replicate 8 None) (replicate 10 (replicate 3 None))
    (record { x = replicate 8 None; a = replicate 8 None; b = replicate 8 None })
    (refl, (refl, (refl, (refl, (refl, (refl, (refl, (refl, (refl, (refl, tt))))))))))
    (refl, (refl, (refl, (refl, (refl, (refl, (refl, (refl, tt))))))))
    (refl, (refl, (refl, (refl, (refl, (refl, (refl, (refl, tt))))))))
    (refl, (refl, (refl, (refl, (refl, (refl, (refl, (refl, tt))))))))
    (refl, (refl, (refl, (refl, (refl, (refl, (refl, (refl, tt)))))))) refl refl refl (refl, refl, refl))

pub returns : goal.returns
returns c = none_view (replicate 10 None) (replicate 8 None)
    (refl, (refl, (refl, (refl, (refl, (refl, (refl, (refl, (refl, (refl, tt))))))))))
    (refl, (refl, (refl, (refl, (refl, (refl, (refl, (refl, tt))))))))
