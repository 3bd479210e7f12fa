use Rattle.std.proofs.lemmas.Result.{err_from_is_err_and}
use Rattle.job_deck.proofs.sessions.Endings.{is_dump}
use Rattle.job_deck.proofs.ending.put_drained.Goals as goal

pub returns-in_ok-dump_to-in-Ok-clause-closed : goal.returns-in_ok-dump_to-in-Ok-clause-closed
returns-in_ok-dump_to-in-Ok-clause-closed g c =
    let taken = c.in-Ok.ensures.taken in (
      _,
      is_dump c.args.machine.now c.in-Ok.snapshot.state c.state.result.now c.in-Ok.snapshot.log
          c.log.result.now.steps c.in-Ok.snapshot.boot_memory c.args.deck.now.shows taken.0 taken.1
          taken.2 taken.3 c.in-Ok.ensures.replay c.state.ensures.value c.log.ensures,
      c.in_ok-dump_to-in-Ok.ensures.puts.written,
    )

pub returns-in_err-dump_to-in-Ok-clause-closed : goal.returns-in_err-dump_to-in-Ok-clause-closed
returns-in_err-dump_to-in-Ok-clause-closed g c =
    let taken = c.in-Ok.ensures.taken in
    let p = err_from_is_err_and c.from_residual.result c.from_residual.ensures.1 in
    rw (p.1, p.2) (
      _,
      is_dump c.args.machine.now c.in-Ok.snapshot.state c.state.result.now c.in-Ok.snapshot.log
          c.log.result.now.steps c.in-Ok.snapshot.boot_memory c.args.deck.now.shows taken.0 taken.1
          taken.2 taken.3 c.in-Ok.ensures.replay c.state.ensures.value c.log.ensures,
      c.in_err-dump_to-in-Ok.ensures.puts.written,
    )
