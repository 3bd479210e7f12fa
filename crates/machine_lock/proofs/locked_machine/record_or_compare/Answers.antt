use Rattle.std.proofs.Common.{◌∙◌, ap}
use Rattle.machine_lock.specs.inner.LockInvariant.{last_step}
use Rattle.machine_lock.specs.inner.Rules.{History}
use Rattle.machine_lock.proofs.Laws.{Recorded, recorded, Compared, compared, kept_by, replay_by, logged_one_more}
use Rattle.machine_lock.proofs.Laws.{logged_no_more, seen_refused}
use Rattle.machine_lock.proofs.locked_machine.record_or_compare.Given as given
use Rattle.machine_lock.proofs.locked_machine.record_or_compare.Goals as goal
use Rattle.machine_lock.proofs.locked_machine.record_or_compare.Goals.{After-record, After-compare}

made : (g : given.Over) (c : After-record g)
    → Recorded c.args.machine.now (last_step c.args.machine.now.log) c.args.seen.now c.record.new.me.me
made g c =
    recorded c.args.pass.now.me.0.seen c.args.machine.now (last_step c.args.machine.now.log) c.seen.inside.pass.me
    c.record.new.me.me c.args.seen.now c.seen.view_is
    (logged_one_more c.args.pass.now.me.0.seen c.args.machine.now c.args.answer.now c.in-Ok.field-0 c.in-Ok.is
    c.requires.logged)
    c.record.ensures.me.1 c.record.ensures.begins

learnt : (g : given.Over) (c : After-compare g) → Compared c.args.machine.now c.args.seen.now c.compare.new.me.me
learnt g c =
    compared c.args.machine.now c.args.pass.now.me c.seen.inside.pass.me c.compare.new.me.me c.args.seen.now
    (kept_by c.args.pass.now.me.0.seen c.args.machine.now c.args.pass.now.me c.requires.pass.1
    (logged_no_more c.args.pass.now.me.0.seen c.args.machine.now c.args.answer.now c.in-Err.field-0 c.in-Err.is
    c.requires.logged))
    c.seen.view_is c.compare.ensures.me.1 c.compare.ensures.begins

pub returns-in-Ok-clause-replayed : goal.returns-in-Ok-clause-replayed
returns-in-Ok-clause-replayed g c =
    replay_by c.args.machine.now c.record.new.me.me c.keeps_replay.ensures.replay (made g c).present

pub returns-in-Err-clause-pass : goal.returns-in-Err-clause-pass
returns-in-Err-clause-pass g c = (
  c.compare.ensures.pass.0,
  c.compare.ensures.pass.1
      ∙ kept_by c.args.pass.now.me.0.seen c.args.machine.now c.args.pass.now.me c.requires.pass.1
      (logged_no_more c.args.pass.now.me.0.seen c.args.machine.now c.args.answer.now c.in-Err.field-0 c.in-Err.is
      c.requires.logged),
)

pub returns-in-Err-clause-current : goal.returns-in-Err-clause-current
returns-in-Err-clause-current g c =
    let p = (learnt g c).present in (ap (λ (h : History). h.booted) p, ap (λ (h : History). h.log) p)

pub returns-in-Err-clause-replayed : goal.returns-in-Err-clause-replayed
returns-in-Err-clause-replayed g c =
    replay_by c.args.machine.now c.compare.new.me.me c.keeps_replay.ensures.replay (learnt g c).present

pub returns-in-Err-clause-seen : goal.returns-in-Err-clause-seen
returns-in-Err-clause-seen g c =
    seen_refused c.args.seen.now _ (last_step c.args.machine.now.log) c.args.answer.now c.in-Err.field-0 c.in-Err.is
    (learnt g c).learnt
