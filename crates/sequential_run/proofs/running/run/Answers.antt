use Rattle.std.proofs.Common.{refl, rules, arith}
use Rattle.sequential_run.proofs.Beginning.{run_begins}
use Rattle.sequential_run.proofs.FulfilledRun.{run_fulfils}
use Rattle.sequential_run.proofs.Ending.{kept_begun, led_begun, led_off, led_on, run_ended, run_on, run_over, run_replays}
use Rattle.sequential_run.proofs.running.run.Goals as goal

pub loop-course-init : goal.loop-course-init
loop-course-init c = search (rules, led_begun, kept_begun, c.in-Ok.ensures.begun)

pub loop-course-preserved : goal.loop-course-preserved
loop-course-preserved c = record {
  led = search (rules, led_on, c.if-branch.true, c.loop-course.invariant.led, c.in_ok-turn.ensures.gone);
  kept = c.in_ok-turn.ensures.kept;
}

pub returns-clause-run : goal.returns-clause-run
returns-clause-run c = grind (arith, run_ended, led_off)

pub returns-clause-promised : goal.returns-clause-promised
returns-clause-promised c =
    run_on c.args.memory c.args.memory c.args.start c.args.after.now c.args.free.now c.args.budget _ _ refl
    (run_begins c.args.memory c.args.start c.args.after.now c.args.free.now c.args.budget _ _
    (returns-clause-run c))
    (run_fulfils c.args.memory c.args.start c.args.after.now c.args.free.now c.args.budget _ _
    (returns-clause-run c)) c.in_ok-turn.ensures.kept.within
    (run_over c.args.memory c.args.start c.args.after.now c.args.free.now c.args.budget _ _
    (returns-clause-run c))
    (run_replays c.args.memory c.args.start c.args.after.now c.args.free.now c.args.budget _ _
    (returns-clause-run c))
