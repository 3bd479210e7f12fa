use Rattle.std.proofs.Common.{arith, [], ◌∷◌}
use Rattle.scoreboard.specs.Answers.{held_in, read as board_read}
use Rattle.in_flight.specs.declared.pending.Phase.TheVariants.{Before}
use Rattle.in_flight.specs.declared.pending.Stage.TheVariants.{Read, Unread}
use Rattle.instructions.specs.Finding.{replaced, seek}
use Rattle.in_flight.specs.Lookup.{stage_at, in_phase}
use Rattle.in_flight.proofs.answering.Beside.{read_tied, changed_flight}
use Rattle.in_flight.proofs.flight.InFlight.read.Goals as goal

pub invariant_of-self : goal.invariant_of-self
invariant_of-self c =
    read_tied c.args.unit c.self.inside.slots c.set_stage.new.self c.self.inside.hopper c.self.inside.board
    c.mark_read.new.self (record { pending = c.in-Ok.pending; answer = Unread }) c.reading-read.result.1
    (grind arith)
    c.self.invariant c.set_stage.ensures c.mark_read.ensures

pub returns-clause-after : goal.returns-clause-after
returns-clause-after c =
    changed_flight (λ ms. replaced (seek (stage_at c.args.unit) ms) ms
    (λ m. in_phase m (Before (Read c.reading-read.result.1))
    ∷ [])) c.self.inside.slots c.set_stage.new.self c.self.inside.hopper c.self.inside.board c.mark_read.new.self
    (replaced (seek (held_in c.args.unit) c.self.inside.board.issued) c.self.inside.board.issued board_read)
    c.args.self.now c.self.view_is c.set_stage.ensures c.mark_read.ensures
