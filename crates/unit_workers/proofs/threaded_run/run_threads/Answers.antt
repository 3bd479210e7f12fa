use Rattle.unit_workers.proofs.Beginning.{ends_run}
use Rattle.unit_workers.proofs.threaded_run.run_threads.Goals as goal

pub returns-in-Ok-clause-start : goal.returns-in-Ok-clause-start
returns-in-Ok-clause-start g c =
    (ends_run c.in_ok-is_whole.is_whole c.args.orders.now.start c.args.machine c.drain.new.self c.prepare.new.machine
    c.drain.result c.in_ok-ended.ended.snapshot c.drain.ensures.works c.drain.ensures.stays c.in_ok-is_whole.ensures
    c.in_ok-ended.ensures.onward).start

pub returns-in-Ok-clause-requests : goal.returns-in-Ok-clause-requests
returns-in-Ok-clause-requests g c = λ rests new. c.in-Ok.ensures
    ((ends_run c.in_ok-is_whole.is_whole c.args.orders.now.start c.args.machine c.drain.new.self c.prepare.new.machine
    c.drain.result c.in_ok-ended.ended.snapshot c.drain.ensures.works c.drain.ensures.stays c.in_ok-is_whole.ensures
    c.in_ok-ended.ensures.onward).whole rests new)
