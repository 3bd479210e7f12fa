use Rattle.std.specs.Prelude.{◌≡◌}
use Rattle.std.proofs.Common.{refl}
use Rattle.embedding.specs.Keeping.{IsDumped}
use Rattle.embedding.proofs.Handles.{on_machine}
use Rattle.embedding.proofs.cdc6600_dump.Goals as goal

pub returns-in-Some : goal.returns-in-Some
returns-in-Some c =
    let shown = c.show_dump-outcome in
    on_machine c.args.machine.now.owned.machine c.put.new.self.owned.machine _
    (λ b m. (m ≡ b) × IsDumped b shown.result c.args.output.now shown.new.output) c.in-Some.booted.value
    c.in-Some.booted.value c.in-Some.ensures.machine c.put.ensures (refl, rw (c.deref.ensures) at shown.ensures)
