use Rattle.std.proofs.Common.{sym, subst}
use Rattle.machine_lock.specs.CallerKnowledge.{Known}
use Rattle.unit_workers.specs.Onward.{GoesOnFrom}
use Rattle.unit_workers.specs.declared.threaded_run.Ended.{Ended}
use Rattle.unit_workers.proofs.Onward.{at_first, ok_through}
use Rattle.unit_workers.proofs.threaded_run.run_from_first.Goals as goal

-- the passes are split off the first knowledge
pub returns : goal.returns
returns g c = record {
  onward = ok_through (λ (e : Ended). e.snapshot) c.args.seen c.split.new.self c.run_lanes-ended.result
      (subst (λ (k : Known). GoesOnFrom c.args.seen k) (sym c.in_ok-other.ensures.same) (at_first c.args.seen))
      c.run_lanes-ended.ensures.onward;
}
