use Rattle.embedding.specs.Keeping.{MakesNext}
use Rattle.embedding.proofs.Handles.{on_machine}
use Rattle.embedding.proofs.cdc6600_next.Goals as goal

pub returns-in-Some : goal.returns-in-Some
returns-in-Some c =
    let made = c.make_next-outcome in
    on_machine c.args.machine.now.owned.machine c.put.new.self.owned.machine _
    (λ b m. MakesNext b m made.result c.args.output.now made.new.output) c.in-Some.booted.value made.new.booted
    c.in-Some.ensures.machine c.put.ensures (rw (c.deref_mut.ensures.value) at made.ensures)
