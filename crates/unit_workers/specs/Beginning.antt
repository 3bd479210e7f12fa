-- How a run begins: the exchange for its first package, before its threads have the machine. Source: ours.
use Rattle.std.specs.Prelude.{◌≡◌, ℕ, Bool, true, [], ◌∷◌, ◌++◌, None, is_some}
use Rattle.sequential.specs.Replay.{Exchanged}
use Rattle.program_order.specs.Processor.{Processor}
use Rattle.machine_lock.specs.CallerKnowledge.{StartsWith, booted_by}

-- the machine is as it is after its boot: nothing is pending, no request waits, and it is halted
pub record IsAtRest (w : Processor) : Type 0 where
  pub pending : w.pending ≡ []
  pub request : w.request ≡ None
  pub halted : is_some w.state.halt ≡ true

-- a run begins on the machine w and leaves v, which continues w; from rest, v's only new step is the exchange for the
-- package; if the machine was also just booted, `is_whole` reports that the log begins with that exchange
pub record Begins (is_whole : Bool) (n : ℕ) (w v : Processor) : Type 0 where
  pub booted : booted_by v ≡ booted_by w
  pub log : StartsWith v.log w.log
  pub first : IsAtRest w → v.log ≡ w.log ++ Exchanged n ∷ []
  pub whole : IsAtRest w → w.log ≡ [] → is_whole ≡ true
