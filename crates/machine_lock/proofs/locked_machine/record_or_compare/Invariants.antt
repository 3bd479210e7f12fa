use Rattle.machine_lock.specs.inner.LockInvariant.{last_step}
use Rattle.machine_lock.proofs.locked_machine.record_or_compare.Given as goal

-- the step that was just logged
abbrev pub ghosts-record : goal.ghosts-record
ghosts-record g a = record { step = last_step a.from.now.log }
