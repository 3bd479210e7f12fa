-- The invariant of the lock. Source: ours.
use Rattle.std.specs.Prelude.{◌≡◌, ℕ, List, [], ◌∷◌, ◌++◌, Result, Ok, Err}
use Rattle.instructions.specs.declared.refusal.Refusal.{Refusal}
use Rattle.atomic_table.specs.Seated.{TableId}
use Rattle.atomic_table.specs.declared.shared.Seat.{Seat}
use Rattle.sequential.specs.Replay.{LogStep, Issued}
use Rattle.program_order.specs.declared.event.Done.{Done}
use Rattle.program_order.specs.Processor.{Processor}
use Rattle.program_order.specs.Invariant.{IsReplay}
use Rattle.machine_lock.specs.inner.Rules.{History, Knowing, IsKeeper, history, past}

-- the invariant of the machine and its pass: the effects so far, with those still to come, are the log's replay, and
-- the pass's list is the log
pub record IsLocked (table : TableId) (w : Processor) (pass : Seat ℕ Knowing) : Type 0 where
  pub replay : IsReplay w
  pub seen : IsKeeper table (past w) pass

-- the last of these steps
abbrev pub last_step : List LogStep → LogStep
last_step [] = Issued
last_step (x ∷ []) = x
last_step (x ∷ y ∷ ys) = last_step (y ∷ ys)

-- the machine's log after an event that is logged: one step longer than before if the event was made, otherwise
-- unchanged
abbrev pub IsLogged : Result Done Refusal → History → Processor → Type 0
IsLogged (Ok done) h w = past w ≡ history h.booted (h.log ++ last_step w.log ∷ [])
IsLogged (Err refusal) h w = past w ≡ h
