-- A store event: the invariant and the list after it. For a free unit nothing changes.
use Rattle.scoreboard.proofs.in_slots.Small.{index_of, index_is, index_below}
use Rattle.std.proofs.Common.{rules, ◌≡◌, ◌<◌, List, ◌++◌, Option, None, ap, sym, ◌∙◌, subst, set, arith}
use Rattle.std.specs.Prelude.{IfSome}
use Rattle.scoreboard.specs.declared.board.Board.TheInside.{Inside}
use Rattle.scoreboard.specs.declared.issued.Issued.{Issued}
use Rattle.scoreboard.specs.declared.writers.Writers.{Writers}
use Rattle.scoreboard.specs.inner.Fields.{forget_in_taken}
use Rattle.instructions.specs.Each.{Each}
use Rattle.instructions.specs.Shape.{shape_of}
use Rattle.scoreboard.specs.declared.writer.Writer.TheVariants.{OfUnit}
use Rattle.instructions.specs.Finding.{seek, replaced}
use Rattle.instructions.proofs.Slots.{slot_any}
use Rattle.scoreboard.specs.Answers.{Standing, held_in, with_issued, left, in_occupancy}
use Rattle.scoreboard.specs.Issued.{channel_of}
use Rattle.scoreboard.specs.inner.View.{standing_of, IsRight}
use Rattle.scoreboard.specs.Writers.{IsRegister, set_each}
use Rattle.scoreboard.proofs.changing.Right.{channels_with, AreForgotten, released_right, released_others, released_last}
use Rattle.scoreboard.proofs.changing.Changing.{nobody_marked, released_view}
use Rattle.scoreboard.proofs.board.Board.release.Goals.{in-Increment+in-Some-Loads, in_default}
use Rattle.scoreboard.proofs.board.Board.release.Goals.{in_default-via-in-Stop-1, in_default-via-in-Increment+in-None-1}
use Rattle.scoreboard.proofs.board.Board.release.Goals.{in_default-via-in-Increment+in-Some+in-Stores-1}
use Rattle.scoreboard.proofs.board.Board.release.Goals as goal

pub returns-in_default : goal.returns-in_default
returns-in_default c =
    sym c.self.view_is
    ∙ nobody_marked left c.self.inside.units c.self.inside.channels c.self.inside.producers c.self.inside.writers
    c.self.inside.last c.args.unit (index_of c.args.unit) c.self.invariant (index_is c.args.unit)
    (slot_any c.self.inside.units (index_of c.args.unit) c.index-self-index.result
    (omega (arith, index_below c.args.unit, c.self.invariant.all_units)) ∙ c.in_default.is)
    ∙ ap (λ (s : Standing). with_issued s (replaced (seek (held_in c.args.unit) s.issued) s.issued left)) c.self.view_is

with_channels : Inside → List (Option Issued) → Writers → List (Option Issued) → Inside
with_channels b us ws cs = record { units = us; producers = b.producers; channels = cs; writers = ws; last = b.last }

pub invariant_of-self : goal.invariant_of-self
unfolding with_channels channels_with in_occupancy shape_of channel_of
invariant_of-self c =
    let x = c.in-Some.issued in
    let now = with_channels c.self.inside (set c.self.inside.units (index_of c.args.unit) None) c.set.new.self in
    let p : (c.match-instr.self-inside ≡ now (channels_with c.self.inside.channels x (channel_of (shape_of
    x.reservation.instr)))) × IfSome (channel_of (shape_of x.reservation.instr)) (λ n. n < 8) =
    elim c.match-instr.branch [
      | in-Increment+in-Some-Loads w ↦ (search rules, search rules)
      | in_default w ↦ elim w.in_default.branch [
        | in_default-via-in-Stop-1 v ↦ (search rules, search rules)
        | in_default-via-in-Increment+in-None-1 v ↦ (search rules, search rules)
        | in_default-via-in-Increment+in-Some+in-Stores-1 v ↦ (search rules, search rules)
      ]
    ] in
    subst (λ (b : Inside). IsRight b.units b.channels c.forget_in_taken.new.producers b.writers b.last) (sym p.0)
    (subst (λ ws. IsRight (set c.self.inside.units (index_of c.args.unit) None)
    (channels_with c.self.inside.channels x (channel_of (shape_of x.reservation.instr)))
    c.forget_in_taken.new.producers ws c.self.inside.last) (sym
    (c.set.ensures.value ∙ ap (λ rs. set_each c.self.inside.writers rs None) (sym c.sets.ensures)))
    (released_right c.self.inside.units c.self.inside.channels c.self.inside.producers c.self.inside.writers
    c.self.inside.last c.args.unit (index_of c.args.unit) x c.self.invariant
    (index_is c.args.unit)
    (slot_any c.self.inside.units (index_of c.args.unit) c.index-self-index.result
    (omega (arith, index_below c.args.unit, c.self.invariant.all_units)) ∙ c.in-Some.is)
    (subst (Each IsRegister) (sym c.sets.ensures) c.set.ensures.registers) p.1 c.forget_in_taken.new.producers
    (subst (AreForgotten (OfUnit c.args.unit) (c.self.inside.units ++ c.self.inside.channels)
    (set c.self.inside.units (index_of c.args.unit) None)) (sym (c.forget_in_taken.ensures
    ∙ ap (λ (b : Inside). forget_in_taken (OfUnit c.args.unit) b.units b.producers) p.0))
    (released_others c.self.inside.units c.self.inside.channels c.self.inside.producers c.self.inside.writers
    c.self.inside.last c.args.unit (index_of c.args.unit) x c.self.invariant
    (slot_any c.self.inside.units (index_of c.args.unit) c.index-self-index.result
    (omega (arith, index_below c.args.unit, c.self.invariant.all_units)) ∙ c.in-Some.is)))))

pub invariant_of-self-else-issued-self : goal.invariant_of-self-else-issued-self
unfolding with_channels channels_with in_occupancy shape_of channel_of
invariant_of-self-else-issued-self c =
    let x = c.in-Some.issued in
    let now = with_channels c.self.inside (set c.self.inside.units (index_of c.args.unit) None) c.set.new.self in
    let p : (c.match-instr.self-inside ≡ now (channels_with c.self.inside.channels x (channel_of (shape_of
    x.reservation.instr)))) × IfSome (channel_of (shape_of x.reservation.instr)) (λ n. n < 8) =
    elim c.match-instr.branch [
      | in-Increment+in-Some-Loads w ↦ (search rules, search rules)
      | in_default w ↦ elim w.in_default.branch [
        | in_default-via-in-Stop-1 v ↦ (search rules, search rules)
        | in_default-via-in-Increment+in-None-1 v ↦ (search rules, search rules)
        | in_default-via-in-Increment+in-Some+in-Stores-1 v ↦ (search rules, search rules)
      ]
    ] in
    subst (λ (b : Inside). IsRight b.units b.channels b.producers b.writers b.last) (sym p.0)
    (subst (λ ws. IsRight (set c.self.inside.units (index_of c.args.unit) None)
    (channels_with c.self.inside.channels x (channel_of (shape_of x.reservation.instr)))
    c.self.inside.producers ws c.self.inside.last) (sym
    (c.set.ensures.value ∙ ap (λ rs. set_each c.self.inside.writers rs None) (sym c.sets.ensures)))
    (released_right c.self.inside.units c.self.inside.channels c.self.inside.producers c.self.inside.writers
    c.self.inside.last c.args.unit (index_of c.args.unit) x c.self.invariant
    (index_is c.args.unit)
    (slot_any c.self.inside.units (index_of c.args.unit) c.index-self-index.result
    (omega (arith, index_below c.args.unit, c.self.invariant.all_units)) ∙ c.in-Some.is)
    (subst (Each IsRegister) (sym c.sets.ensures) c.set.ensures.registers) p.1 c.self.inside.producers
    (released_last c.self.inside.units c.self.inside.channels c.self.inside.producers c.self.inside.writers
    c.self.inside.last c.args.unit (index_of c.args.unit) x c.self.invariant
    (index_is c.args.unit)
    (slot_any c.self.inside.units (index_of c.args.unit) c.index-self-index.result
    (omega (arith, index_below c.args.unit, c.self.invariant.all_units)) ∙ c.in-Some.is)
    (c.if-issued-self.false ∙ ap (λ (b : Inside). b.last) p.0))))

pub returns-then-issued-self : goal.returns-then-issued-self
unfolding with_channels channels_with in_occupancy shape_of channel_of
returns-then-issued-self c =
    let x = c.in-Some.issued in
    let now = with_channels c.self.inside (set c.self.inside.units (index_of c.args.unit) None) c.set.new.self in
    let p : (c.match-instr.self-inside ≡ now (channels_with c.self.inside.channels x (channel_of (shape_of
    x.reservation.instr)))) × IfSome (channel_of (shape_of x.reservation.instr)) (λ n. n < 8) =
    elim c.match-instr.branch [
      | in-Increment+in-Some-Loads w ↦ (search rules, search rules)
      | in_default w ↦ elim w.in_default.branch [
        | in_default-via-in-Stop-1 v ↦ (search rules, search rules)
        | in_default-via-in-Increment+in-None-1 v ↦ (search rules, search rules)
        | in_default-via-in-Increment+in-Some+in-Stores-1 v ↦ (search rules, search rules)
      ]
    ] in
    ap (λ (b : Inside). standing_of b.units b.channels b.last) p.0
    ∙ released_view c.self.inside.units c.self.inside.channels c.self.inside.producers c.self.inside.writers
    c.self.inside.last c.args.unit (index_of c.args.unit) x c.self.invariant
    (index_is c.args.unit)
    (slot_any c.self.inside.units (index_of c.args.unit) c.index-self-index.result
    (omega (arith, index_below c.args.unit, c.self.invariant.all_units)) ∙ c.in-Some.is) p.1
    ∙ ap (λ (s : Standing). with_issued s (replaced (seek (held_in c.args.unit) s.issued) s.issued left)) c.self.view_is

pub returns-else-issued-self : goal.returns-else-issued-self
unfolding with_channels channels_with in_occupancy shape_of channel_of
returns-else-issued-self c =
    let x = c.in-Some.issued in
    let now = with_channels c.self.inside (set c.self.inside.units (index_of c.args.unit) None) c.set.new.self in
    let p : (c.match-instr.self-inside ≡ now (channels_with c.self.inside.channels x (channel_of (shape_of
    x.reservation.instr)))) × IfSome (channel_of (shape_of x.reservation.instr)) (λ n. n < 8) =
    elim c.match-instr.branch [
      | in-Increment+in-Some-Loads w ↦ (search rules, search rules)
      | in_default w ↦ elim w.in_default.branch [
        | in_default-via-in-Stop-1 v ↦ (search rules, search rules)
        | in_default-via-in-Increment+in-None-1 v ↦ (search rules, search rules)
        | in_default-via-in-Increment+in-Some+in-Stores-1 v ↦ (search rules, search rules)
      ]
    ] in
    ap (λ (b : Inside). standing_of b.units b.channels b.last) p.0
    ∙ released_view c.self.inside.units c.self.inside.channels c.self.inside.producers c.self.inside.writers
    c.self.inside.last c.args.unit (index_of c.args.unit) x c.self.invariant
    (index_is c.args.unit)
    (slot_any c.self.inside.units (index_of c.args.unit) c.index-self-index.result
    (omega (arith, index_below c.args.unit, c.self.invariant.all_units)) ∙ c.in-Some.is) p.1
    ∙ ap (λ (s : Standing). with_issued s (replaced (seek (held_in c.args.unit) s.issued) s.issued left)) c.self.view_is
