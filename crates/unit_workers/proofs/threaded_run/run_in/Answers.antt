use Rattle.std.proofs.Common.{sym, subst}
use Rattle.machine_lock.specs.CallerKnowledge.{Known}
use Rattle.unit_workers.specs.Onward.{GoesOnFrom}
use Rattle.unit_workers.specs.declared.threaded_run.Ended.{Ended}
use Rattle.unit_workers.proofs.Onward.{at_first, ok_ending}
use Rattle.unit_workers.proofs.threaded_run.run_in.Goals.{then-are_started, else-are_started}
use Rattle.unit_workers.proofs.threaded_run.run_in.Goals as goal

-- the last snapshot extends the knowledge gained by conducting, if there is any
pub returns : goal.returns
returns g c =
    let on : GoesOnFrom c.args.tasks.seen c.if-are_started.seen =
    elim c.if-are_started.branch [
      | then-are_started w ↦
          subst (λ (k : Known). GoesOnFrom c.args.tasks.seen k) (sym w.seen-is) w.conduct-conducted.ensures.onward
      | else-are_started w ↦ subst (λ (k : Known). GoesOnFrom c.args.tasks.seen k) (sym w.seen-is)
          (at_first c.args.tasks.seen)
    ] in
    record {
      onward = ok_ending (λ (e : Ended). e.snapshot) c.args.tasks.seen c.if-are_started.seen c.closing.result
          c.with_tallies.result on c.closing.ensures.onward c.with_tallies.ensures.snapshot;
    }
