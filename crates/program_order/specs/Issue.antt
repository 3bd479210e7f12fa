-- Issue: its refusals and its effect. Source: Thornton, scoreboard; 60100000, unit and register conflicts. The order of
-- the refusals and the fetch wait are ours. The tests of first order, which come last, are in
-- in_flight/specs/Tests.antt.
use Rattle.std.specs.Prelude.{ℕ, suc, Bool, false, ◌&&◌, nat_le, List, [], ◌∷◌, ◌++◌, Option, Some, None, is_some}
use Rattle.std.specs.Prelude.{is_none, unwrap_or}
use Rattle.std.specs.List.{list_any}
use Rattle.instructions.specs.declared.instr.Unit.TheVariants.{Branch}
use Rattle.instructions.specs.declared.refusal.Halt.TheVariants.{Stop}
use Rattle.instructions.specs.declared.refusal.Refusal.TheVariants.{Halted, Faulted, Budget, BranchPending}
use Rattle.instructions.specs.declared.refusal.Refusal.TheVariants.{ExchangeWaiting, FetchWait}
use Rattle.instructions.specs.Operands.{uses}
use Rattle.sequential.specs.declared.fetching.Fetched.{Fetched}
use Rattle.sequential.specs.declared.fetching.Fetched.TheVariants.{Halting, Passing, Taking}
use Rattle.sequential.specs.declared.position.ProgramPosition.{ProgramPosition}
use Rattle.sequential.specs.declared.state.State.{State}
use Rattle.sequential.specs.State.{Bounds, bounds_of, absolute, move_to, halt_by}
use Rattle.sequential.specs.Step.{fetch}
use Rattle.sequential.specs.Replay.{Issued}
use Rattle.in_flight.specs.declared.pending.Stage.TheVariants.{Unread}
use Rattle.in_flight.specs.declared.pending.Phase.TheVariants.{Before}
use Rattle.in_flight.specs.declared.pending.Pending.{Pending}
use Rattle.in_flight.specs.Pending.{is_branch, delays_fetch}
use Rattle.in_flight.specs.Tests.{Test, unit_for, reservation_tests}
use Rattle.program_order.specs.Processor.{Processor}

-- ---- the refusals ----

-- a pending instruction delays a fetch from this absolute address (none does if the address is out of range)
unfoldable pub waits_at : Option ℕ → List Pending → Bool
waits_at None ms = false
waits_at (Some a) ms = list_any (delays_fetch a) ms

-- E6, fetch waits: no word is held, P is in range, and a store may still change the word
unfoldable pub fetch_waits : Bounds → ProgramPosition → List Pending → Bool
fetch_waits b position ms = is_none position.held && waits_at (absolute b position.p) ms

-- E1, halted; E2, faulted; E3, budget: it is used up; E4, branch pending; E5, exchange waiting: an exchange is asked
-- for and no word is held; E6, fetch waits; then E7 and E8 by first order
unfoldable pub issue_tests : State → List Pending → Option ℕ → ℕ → ℕ → List Test
issue_tests state pending request budget count =
    record { fails = is_some state.halt; refusal = Halted (unwrap_or state.halt Stop) }
    ∷ record { fails = state.fault; refusal = Faulted }
    ∷ record { fails = nat_le budget count; refusal = Budget }
    ∷ record { fails = list_any is_branch pending; refusal = BranchPending }
    ∷ record { fails = is_some request && is_none state.position.held; refusal = ExchangeWaiting }
    ∷ record { fails = fetch_waits (bounds_of state) state.position pending; refusal = FetchWait }
    ∷ reservation_tests pending (fetch (bounds_of state) state.memory state.position)

-- ---- the effect ----

-- the machine halts, or the position moves on; the log gains an instruction, which becomes pending if it has a unit
unfoldable pub after_issue : Processor → Fetched → Processor
after_issue w (Halting h position) = record w {
  state = halt_by
      (move_to w.state position) h;
  log = w.log ++ Issued ∷ [];
}
after_issue w (Passing position) = record w { state = move_to w.state position; log = w.log ++ Issued ∷ [] }
after_issue w (Taking i position) = record w {
  state = move_to w.state position;
  pending = w.pending ++ record {
    instr = i;
    at = w.state.position.p;
    number = suc w.last;
    unit = unwrap_or (unit_for w.pending (uses i).unit) Branch;
    phase = Before Unread;
  } ∷ [];
  log = w.log ++ Issued ∷ [];
  last = suc w.last;
}
