use Rattle.std.proofs.Common.{◌≡◌, [], take}
use Rattle.sequential.specs.Log.{steps_of}
use Rattle.machine_lock.specs.CallerKnowledge.{booted_by}
use Rattle.machine_lock.specs.inner.Rules.{history, keeper, caller}
use Rattle.machine_lock.proofs.word.Word.start.Given as goal

-- the values that the machine was booted with
abbrev pub ghosts-begin : goal.ghosts-begin
ghosts-begin g a = record { booted = booted_by a.machine.now }

abbrev pub invariant-loop-entry : goal.invariant-loop-entry
invariant-loop-entry g l = record {
  at : l.pass.table_id ≡ g.K.Naming.table;
  pass : l.pass.me ≡ (keeper (history (booted_by l.machine) (steps_of (take l.entry-index l.entry-items))), []);
  nobody_at : l.nobody.table_id ≡ g.K.Naming.table;
  nobody : l.nobody.me ≡ (caller l.nobody.me.0.seen l.nobody.me.0.mine, []);
}
