use Rattle.std.specs.Prelude.{◌≡◌}
use Rattle.std.proofs.Common.{refl}
use Rattle.embedding.specs.Keeping.{IsLogged}
use Rattle.embedding.proofs.Handles.{on_machine}
use Rattle.embedding.proofs.cdc6600_log.Goals as goal

pub returns-in-Some : goal.returns-in-Some
returns-in-Some c =
    let shown = c.show_log-outcome in
    on_machine c.args.machine.now.owned.machine c.put.new.self.owned.machine _
    (λ b m. (m ≡ b) × IsLogged b shown.result c.args.output.now shown.new.output) c.in-Some.booted.value
    c.in-Some.booted.value c.in-Some.ensures.machine c.put.ensures (refl, rw (c.deref.ensures) at shown.ensures)
