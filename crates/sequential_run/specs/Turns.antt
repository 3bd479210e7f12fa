-- The next turn of a run by one instruction at a time, and the end of the run.
-- Source: ours; the exchange jump and the effects of instructions are the 6600's (60100000).
use Rattle.std.specs.Prelude.{ℕ, zero, suc, Bool, true, false, ◌&&◌, nat_lt, nat_le, not, if◌then◌else◌, is_some}
use Rattle.std.specs.Prelude.{is_none, List, [], ◌∷◌, ◌++◌, Option, Some, None, length, drop}
use Rattle.relocation.specs.Relocation.{package_fits}
use Rattle.sequential.specs.declared.state.State.{State}
use Rattle.sequential.specs.Log.{issued}
use Rattle.sequential.specs.Replay.{LogStep, Issued, Exchanged, boot}
use Rattle.sequential.specs.Step.{step}
use Rattle.sequential.specs.Swap.{swap}

-- the progress of a run: the state, the log, the counted and the free requests still to be made, each in order, and the
-- package of the request that is waiting for its exchange
pub record Moment : Type 0 where
  pub state : State
  pub log : List LogStep
  pub asks : List (ℕ × ℕ)
  pub free : List ℕ
  pub waiting : Option ℕ

-- the turn of a run at a moment
pub data Turn : Type 0 where
  -- the exchange of the waiting request, with the package at this absolute address
  Exchanges : (n : ℕ) → Turn
  -- the next counted request, for the package at this absolute address
  Asks : (n : ℕ) → Turn
  -- the next free request, for the package at this absolute address
  AsksFree : (n : ℕ) → Turn
  -- one instruction
  Issues : Turn
  -- none: the run has ended
  Ends : Turn

-- the machine runs without a fault
unfoldable pub is_going : State → Bool
is_going s = is_none s.halt && not s.fault

-- the machine runs without a fault in the middle of a word, where no exchange can be made
unfoldable pub is_in_mid_word : State → Bool
is_in_mid_word s = is_going s && is_some s.position.held

-- an instruction, unless the machine is halted or faulted or the budget is used up
unfoldable pub issue_or_end : ℕ → State → ℕ → Turn
issue_or_end budget s done = if is_going s && nat_lt done budget then Issues else Ends

-- the package of the counted request that is due after this many issued instructions, if one is due
unfoldable pub first_due : ℕ → List (ℕ × ℕ) → Option ℕ
first_due done [] = None
first_due done (ask ∷ asks) = if nat_le ask.1 done then Some ask.0 else None

-- If a request waits, its exchange is made as soon as it can be. Otherwise the next request that is due is made or, if
-- none is due, the next free request. Otherwise an instruction is executed.
unfoldable pub turn_by : Option ℕ → Bool → Option ℕ → List ℕ → Turn → Turn
turn_by (Some n) true due free go = go
turn_by (Some n) false due free go = Exchanges n
turn_by None mid (Some n) free go = Asks n
turn_by None mid None (n ∷ ns) go = AsksFree n
turn_by None mid None [] go = go

-- the turn of a run at a moment
unfoldable pub next_turn : ℕ → Moment → Turn
next_turn budget m = turn_by m.waiting (is_in_mid_word m.state) (first_due (issued m.log) m.asks) m.free
    (issue_or_end budget m.state (issued m.log))

-- the moment after a turn; an exchange whose sixteen words aren't all in memory isn't made
unfoldable pub take_turn : Moment → Turn → Moment
take_turn m (Exchanges n) = if package_fits n (length m.state.memory)
    then record m { state = swap n m.state; log = m.log ++ Exchanged n ∷ []; waiting = None } else m
take_turn m (Asks n) = record m { asks = drop 1 m.asks; waiting = Some n }
take_turn m (AsksFree n) = record m { free = drop 1 m.free; waiting = Some n }
take_turn m Issues = record m { state = step m.state; log = m.log ++ Issued ∷ [] }
take_turn m Ends = m

-- the moment after this many turns
unfoldable pub turns : ℕ → ℕ → Moment → Moment
turns budget zero m = m
turns budget (suc n) m = turns budget n (take_turn m (next_turn budget m))

-- the moment before the first turn
unfoldable pub begun : List ℕ → List (ℕ × ℕ) → List ℕ → Moment
begun memory asks free =
    record { state = boot memory; log = []; asks = asks; free = free; waiting = None }
