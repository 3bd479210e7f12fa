-- The writers of at most three registers.
use Rattle.scoreboard.specs.Writers.{writer_at}
use Rattle.scoreboard.proofs.in_slots.Small.{three_writers, three_registers}
use Rattle.scoreboard.proofs.writers.Writers.of.Goals as goal

pub returns-clause-writers : goal.returns-clause-writers
returns-clause-writers c = three_writers (writer_at c.args.self.now) c.args.registers.now c.at.result c.at-2.result
    c.at-3.result c.requires c.at.ensures.value c.at-2.ensures.value c.at-3.ensures.value

pub returns-clause-registers : goal.returns-clause-registers
returns-clause-registers c = three_registers c.args.registers.now c.requires c.at.ensures.register
    c.at-2.ensures.register c.at-3.ensures.register
