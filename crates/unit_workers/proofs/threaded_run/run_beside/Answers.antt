use Rattle.unit_workers.proofs.threaded_run.run_beside.Goals as goal

-- the first knowledge is the boot of the machine and its log
pub returns : goal.returns
returns g c = record { onward = rw c.in_ok-shared.ensures.2 at c.run_from_first-ended.ensures.onward }
