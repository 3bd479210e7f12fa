use Rattle.std.proofs.Common.{◌≡◌, ◌++◌, [], replicate}
use Rattle.sequential.specs.Replay.{Issued}
use Rattle.machine_lock.specs.inner.Rules.{history, keeper, caller}
use Rattle.machine_lock.proofs.word.Word.record_issues.Given as goal

abbrev pub ghosts-record : goal.ghosts-record
ghosts-record g a = record { step = Issued }

abbrev pub invariant-loop : goal.invariant-loop
invariant-loop g l = record {
  at : l.pass.table_id ≡ g.K.Naming.table;
  pass : l.pass.me ≡ (
    keeper
        (history l.fn.pass.me.0.seen.booted (l.fn.pass.me.0.seen.log ++ replicate l.counter Issued)),
    [],
  );
  me_at : l.me.table_id ≡ g.K.Naming.table;
  me : l.me.me ≡ (caller l.me.me.0.seen l.me.me.0.mine, []);
}
