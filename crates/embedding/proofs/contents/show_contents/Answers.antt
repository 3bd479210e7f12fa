use Rattle.std.specs.Prelude.{◌≡◌}
use Rattle.std.proofs.Common.{refl}
use Rattle.contents_text.specs.Contents.{contents_text}
use Rattle.embedding.specs.Keeping.{HandsOverText}
use Rattle.embedding.proofs.Handles.{on_machine}
use Rattle.embedding.proofs.contents.show_contents.Goals as goal

pub returns-in-Some : goal.returns-in-Some
returns-in-Some c =
    let shown = c.show-outcome in
    on_machine c.args.machine.now.owned.machine c.put.new.self.owned.machine _
    (λ b m. (m ≡ b) × HandsOverText (contents_text c.args.part b.machine) shown.result c.args.output.now
    shown.new.output)
    c.in-Some.booted.value c.in-Some.booted.value c.in-Some.ensures.machine c.put.ensures
    (refl, rw (c.deref.ensures) at shown.ensures)
