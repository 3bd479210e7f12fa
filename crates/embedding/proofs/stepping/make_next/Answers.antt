use Rattle.std.proofs.Common.{ap}
use Rattle.embedding.proofs.stepping.make_next.Goals as goal

pub returns : goal.returns
returns c =
    let made = c.make_next_event-event.ensures in (
      _,
      rw (made.event) at made.answer,
      ap (λ machine. record { machine = machine; deck = c.args.booted.now.deck }) (rw (made.event) at made.after),
      rw (made.event) at made.reached,
      rw (made.event) at c.show_event.ensures,
    )
