use Rattle.std.proofs.Common.{◌∙◌, ap}
use Rattle.machine_lock.specs.inner.Rules.{History}
use Rattle.machine_lock.proofs.Laws.{Compared, compared, replay_by}
use Rattle.machine_lock.proofs.locked_machine.compare.Given as given
use Rattle.machine_lock.proofs.locked_machine.compare.Goals as goal
use Rattle.machine_lock.proofs.locked_machine.compare.Goals.{After-compare}

learnt : (g : given.Over) (c : After-compare g) → Compared c.args.machine.now c.args.seen.now c.compare.new.me.me
learnt g c =
    compared c.args.machine.now c.args.pass.now.me c.seen.inside.pass.me c.compare.new.me.me c.args.seen.now
    c.requires.1 c.seen.view_is c.compare.ensures.me.1 c.compare.ensures.begins

pub returns-clause-pass : goal.returns-clause-pass
returns-clause-pass g c = (c.compare.ensures.pass.0, c.compare.ensures.pass.1 ∙ c.requires.1)

pub returns-clause-current : goal.returns-clause-current
returns-clause-current g c =
    let p = (learnt g c).present in (ap (λ (h : History). h.booted) p, ap (λ (h : History). h.log) p)

pub returns-clause-replayed : goal.returns-clause-replayed
returns-clause-replayed g c =
    replay_by c.args.machine.now c.compare.new.me.me c.keeps_replay.ensures.replay (learnt g c).present

pub returns-clause-seen : goal.returns-clause-seen
returns-clause-seen g c = (learnt g c).learnt
