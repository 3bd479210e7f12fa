use Rattle.std.proofs.Common.{◌∙◌}
use Rattle.machine_lock.proofs.Moves.{own_caller, started_none, started_more}
use Rattle.machine_lock.proofs.word.Word.start.Goals as goal

pub loop-entry-init : goal.loop-entry-init
loop-entry-init g c =
    let a = c.again-nobody.ensures in
    record {
      at = a.pass.0;
      pass = started_none _ _ (a.pass.1 ∙ c.begin.ensures.1);
      nobody_at = a.new.0;
      nobody =
          own_caller _ _ _ a.new.1;
    }

pub loop-entry-preserved : goal.loop-entry-preserved
loop-entry-preserved g c =
    let e = c.record_entry.ensures in
    record {
      at = e.pass.0;
      pass = started_more _ _ _ _ _ _ c.loop-entry.invariant.pass (rw c.entry-item.is at e.pass.1)
          c.loop-entry-test.true;
      nobody_at = e.me.0;
      nobody = e.me.1;
    }
