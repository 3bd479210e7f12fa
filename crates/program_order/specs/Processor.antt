-- The machine with instructions in flight: its parts, its boot, and the state after all its effects. Source: ours; the
-- parts are Thornton's, scoreboard and stunt box.
use Rattle.std.specs.Prelude.{ℕ, Bool, false, List, [], Option, None, replicate}
use Rattle.sequential.specs.declared.state.State.{State}
use Rattle.sequential.specs.State.{bounds_of}
use Rattle.sequential.specs.Replay.{LogStep, replay, boot}
use Rattle.in_flight.specs.declared.pending.Pending.{Pending}
use Rattle.program_order.specs.Complete.{complete}

-- the machine with its pending instructions, busy banks, request, log and counts
pub record Processor : Type 0 where
  -- the state with the effects made so far
  pub state : State
  -- the instructions with an effect still to come, in issue order
  pub pending : List Pending
  -- whether each bank is busy, by its number
  pub busy : List Bool
  -- the package address of the exchange that was asked for, if one was
  pub request : Option ℕ
  -- the instructions issued, and the exchanges and peripheral accesses made, since boot
  pub log : List LogStep
  -- how many instructions may be issued
  pub budget : ℕ
  -- how many requests were accepted
  pub asked : ℕ
  -- how many peripheral accesses were accepted
  pub accessed : ℕ
  -- the number of the last reservation
  pub last : ℕ
  -- the memory with which it was booted
  pub boot_memory : List ℕ
  -- whether its seats were given out
  pub seats_given : Bool

-- ---- the machine at boot, and after all its effects ----

-- the machine at boot: nothing is pending, no bank is busy, no exchange is asked for, and the log is empty
unfoldable pub boot_processor : List ℕ → ℕ → Processor
boot_processor memory budget =
    record {
      state = boot memory;
      pending = [];
      busy = replicate 32 false;
      request = None;
      log = [];
      budget = budget;
      asked = 0;
      accessed = 0;
      last = 0;
      boot_memory = memory;
      seats_given = false;
    }

-- the state after the effects made so far and those still to come
unfoldable pub completed : Processor → State
completed w = complete (bounds_of w.state) w.state w.pending

-- the state of the machine that executes one instruction at a time, after the log
unfoldable pub replayed : Processor → Option State
replayed w = replay (boot w.boot_memory) w.log
