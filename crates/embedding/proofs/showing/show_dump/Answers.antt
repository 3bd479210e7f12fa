use Rattle.job_deck.proofs.sessions.Endings.{is_dump}
use Rattle.std.proofs.Common.{refl, inl, inr}
use Rattle.embedding.proofs.showing.show_dump.Goals as goal

pub returns-in-Ok : goal.returns-in-Ok
returns-in-Ok c =
    let taken = c.in-Ok.ensures.taken in
    let b = c.args.booted.now in inr (inl (
      _,
      is_dump b.machine c.in-Ok.snapshot.state c.in-Ok.snapshot.state c.in-Ok.snapshot.log c.in-Ok.snapshot.log
          c.in-Ok.snapshot.boot_memory b.deck.shows taken.0 taken.1 taken.2 taken.3 c.in-Ok.ensures.replay refl refl,
      c.show_snapshot.ensures,
    ))
