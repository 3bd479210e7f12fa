-- How the log that a caller has seen grows. Source: ours.
use Rattle.std.specs.Prelude.{◌≡◌, ◌≤◌, true}
use Rattle.sequential.specs.Log.{issued}
use Rattle.program_order.specs.SnapshotView.{Snapped}
use Rattle.machine_lock.specs.CallerKnowledge.{Known, StartsWith}
use Rattle.unit_workers.specs.Ending.{is_at_end}

-- the caller's knowledge is of the same machine as before, and its log begins with what was seen before
pub record GoesOnFrom (old new : Known) : Type 0 where
  pub booted : new.booted ≡ old.booted
  pub log : StartsWith new.log old.log

-- the snapshot is of the machine that the caller knows: its log begins with what was seen and has no more instructions
-- than the machine's budget, and the run is over
pub record EndsFrom (old : Known) (snapshot : Snapped) : Type 0 where
  pub boot_memory : snapshot.boot_memory ≡ old.booted.memory
  pub budget : snapshot.budget ≡ old.booted.budget
  pub log : StartsWith snapshot.log old.log
  pub within : issued snapshot.log ≤ old.booted.budget
  pub at_end : is_at_end snapshot ≡ true
