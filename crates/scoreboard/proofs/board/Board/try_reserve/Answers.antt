-- An issue: the new reservation, the invariant and the list after it.
use Rattle.scoreboard.proofs.in_slots.Small.{index_of, index_is}
use Rattle.std.proofs.Common.{◌≡◌, ◌<◌, rules, ap, refl, sym, ◌∙◌, subst}
use Rattle.std.specs.Prelude.{Ok, IfSome}
use Rattle.instructions.specs.Each.{Each}
use Rattle.scoreboard.specs.Writers.{IsRegister}
use Rattle.instructions.specs.Operands.{uses}
use Rattle.instructions.specs.Shape.{shape_of}
use Rattle.scoreboard.specs.Conflicts.{unit_for}
use Rattle.scoreboard.specs.Issued.{reservation_of, channel_of}
use Rattle.scoreboard.specs.Answers.{Standing, reserve_answer, reserved, new_issued}
use Rattle.scoreboard.specs.inner.View.{standing_of}
use Rattle.scoreboard.proofs.changing.Reserving.{reservable, free_same, slot_found, kind_found, new_right, new_view}
use Rattle.scoreboard.proofs.changing.Reserving.{refused_after, with_channel, writers_entered}
use Rattle.scoreboard.proofs.board.Board.try_reserve.Goals.{in-Increment+in-Some-Loads, in_default}
use Rattle.scoreboard.proofs.board.Board.try_reserve.Goals.{in_default-via-in-Stop-1}
use Rattle.scoreboard.proofs.board.Board.try_reserve.Goals.{in_default-via-in-Increment+in-None-1}
use Rattle.scoreboard.proofs.board.Board.try_reserve.Goals.{in_default-via-in-Increment+in-Some+in-Stores-1}
use Rattle.scoreboard.proofs.board.Board.try_reserve.Goals as goal

pub returns-in-Err-clause-after : goal.returns-in-Err-clause-after
returns-in-Err-clause-after c = refused_after c.args.self.now c.args.instr.now _

pub invariant_of-self : goal.invariant_of-self
unfolding new_issued shape_of channel_of
invariant_of-self c =
    let k = reservable (standing_of c.self.inside.units c.self.inside.channels c.self.inside.last) c.args.instr.now
    _ c.in-Ok.reservation.0 c.in-Ok.reservation.1
    (ap (λ (s : Standing). reserve_answer s c.args.instr.now (unit_for reservation_of s.issued (uses
    c.args.instr.now).unit)) c.self.view_is ∙ sym c.may_reserve.ensures ∙ c.in-Ok.is) in
    let free = free_same c.self.inside.units c.self.inside.channels c.self.inside.producers c.self.inside.writers
    c.self.inside.last c.self.invariant (uses c.args.instr.now).unit ∙ k.0 in
    let entering : (c.match-instr.writers ≡ with_channel c.self.inside.writers (channel_of (shape_of c.args.instr.now)))
    × IfSome (channel_of (shape_of c.args.instr.now)) (λ n. n < 8) =
    elim c.match-instr.branch [
      | in-Increment+in-Some-Loads w ↦ (search rules, search rules)
      | in_default w ↦ elim w.in_default.branch [
        | in_default-via-in-Stop-1 v ↦ (search rules, search rules)
        | in_default-via-in-Increment+in-None-1 v ↦ (search rules, search rules)
        | in_default-via-in-Increment+in-Some+in-Stores-1 v ↦ (search rules, search rules)
      ]
    ] in
    let entered = writers_entered c.self.inside.writers c.match-instr.writers c.set-2.new.self c.in-Ok.reservation.0
    c.args.instr.now c.sets.result c.sets.ensures entering.0 c.set-2.ensures.value in
    new_right c.self.inside.units c.self.inside.channels c.self.inside.producers c.self.inside.writers
    c.set-2.new.self c.self.inside.last c.in-Ok.reservation.1 c.in-Ok.reservation.0 (index_of c.in-Ok.reservation.0)
    c.args.instr.now c.as_slice.result.now c.of.result (new_issued c.args.instr.now c.in-Ok.reservation.0
    c.in-Ok.reservation.1) c.self.invariant k.1 (index_is c.in-Ok.reservation.0)
    (slot_found c.self.inside.units (uses c.args.instr.now).unit _ c.in-Ok.reservation.0
    (index_of c.in-Ok.reservation.0) (sym free) refl (index_is c.in-Ok.reservation.0))
    (c.as_slice.ensures.value ∙ c.sources-sources.ensures) c.of.ensures.writers c.of.ensures.registers
    (subst (Each IsRegister) (sym c.sets.ensures) c.set-2.ensures.registers) entering.1 k.2
    (kind_found c.self.inside.units (uses c.args.instr.now).unit _ c.in-Ok.reservation.0 (sym free) refl)
    refl entered

pub returns-clause-after : goal.returns-clause-after
unfolding new_issued
returns-clause-after c =
    let k = reservable (standing_of c.self.inside.units c.self.inside.channels c.self.inside.last) c.args.instr.now
    _ c.in-Ok.reservation.0 c.in-Ok.reservation.1
    (ap (λ (s : Standing). reserve_answer s c.args.instr.now (unit_for reservation_of s.issued (uses
    c.args.instr.now).unit)) c.self.view_is ∙ sym c.may_reserve.ensures ∙ c.in-Ok.is) in
    let free = free_same c.self.inside.units c.self.inside.channels c.self.inside.producers c.self.inside.writers
    c.self.inside.last c.self.invariant (uses c.args.instr.now).unit ∙ k.0 in
    new_view c.self.inside.units c.self.inside.channels c.self.inside.producers c.self.inside.writers
    c.self.inside.last c.in-Ok.reservation.1 c.in-Ok.reservation.0 (index_of c.in-Ok.reservation.0) c.args.instr.now
    (new_issued c.args.instr.now c.in-Ok.reservation.0 c.in-Ok.reservation.1) c.self.invariant k.1
    (index_is c.in-Ok.reservation.0)
    (slot_found c.self.inside.units (uses c.args.instr.now).unit _ c.in-Ok.reservation.0
    (index_of c.in-Ok.reservation.0) (sym free) refl (index_is c.in-Ok.reservation.0)) refl
    ∙ ap (λ (s : Standing). reserved s c.args.instr.now (Ok c.in-Ok.reservation)) c.self.view_is
