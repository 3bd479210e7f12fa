-- The promise of every run, and the log and the state that a run by one instruction at a time reaches.
-- Source: ours.
use Rattle.std.specs.Prelude.{◌≡◌, ◌≤◌, ◌||◌, ℕ, Bool, true, false, List, ◌∷◌, length, Some, is_some, nat_le}
use Rattle.sequential_run.specs.Requests.{AreOrdered}
use Rattle.sequential_run.specs.Fulfilled.{IsFulfilled}
use Rattle.instructions.specs.declared.refusal.Refusal.{Refusal}
use Rattle.instructions.specs.declared.refusal.Refusal.TheVariants.{OutOfMemory, PackageRange}
use Rattle.program_order.specs.Headline.{IsFaultedRun}
use Rattle.relocation.specs.Relocation.{package_fits}
use Rattle.sequential.specs.declared.state.State.{State}
use Rattle.sequential.specs.Log.{issued}
use Rattle.sequential.specs.Replay.{LogStep, Exchanged, boot, replay}
use Rattle.sequential_run.specs.Turns.{Moment, Ends, Exchanges, begun, is_in_mid_word, next_turn, turns}

-- a run with this budget, this log and this state is over: the machine is halted or faulted, or it has issued as many
-- instructions as the budget
abbrev pub is_over : State → List LogStep → ℕ → Bool
is_over s log budget = is_some s.halt || (s.fault || nat_le budget (issued log))

-- The log leads from boot with this memory to this state. It begins with the exchange for the first package, fulfils
-- the counted and the free requests, and has no more instructions than the budget. The run is over there. If the state
-- has the fault, the log since the last exchange is a beginning of the program's run that includes the faulting
-- instruction.
pub record IsRun (memory : List ℕ) (start : ℕ) (after : List (ℕ × ℕ)) (free : List ℕ) (budget : ℕ)
    (log : List LogStep) (s : State) : Type 0 where
  pub begins : (more : List LogStep) × (log ≡ Exchanged start ∷ more)
  pub fulfilled : IsFulfilled start after free (is_in_mid_word s) log
  pub replay : replay (boot memory) log ≡ Some s
  pub within : issued log ≤ budget
  pub over : is_over s log budget ≡ true
  pub fault : s.fault ≡ true → IsFaultedRun log memory s

-- after some turns a run reaches a moment at which it ends
pub record EndsAt (budget : ℕ) (first last : Moment) : Type 0 where
  pub count : ℕ
  pub reached : turns budget count first ≡ last
  pub ends : next_turn budget last ≡ Ends

-- after some turns a run reaches an exchange whose sixteen words aren't all in memory
pub record IsUnfit (budget : ℕ) (first : Moment) : Type 0 where
  pub count : ℕ
  pub last : Moment
  pub reached : turns budget count first ≡ last
  pub at : ℕ
  pub exchanges : next_turn budget last ≡ Exchanges at
  pub unfit : package_fits at (length last.state.memory) ≡ false

-- a run with this memory, first package, counted and free requests, and budget ends with this log and this state
pub record IsSequentialRun (memory : List ℕ) (start : ℕ) (after : List (ℕ × ℕ)) (free : List ℕ) (budget : ℕ)
    (log : List LogStep) (s : State) : Type 0 where
  pub asks : List (ℕ × ℕ)
  pub ordered : AreOrdered start after asks
  pub last : Moment
  pub ends : EndsAt budget (begun memory asks free) last
  pub log_is : log ≡ last.log
  pub state_is : s ≡ last.state

-- a run reaches an exchange whose sixteen words aren't all in memory
pub record IsUnfitRun (memory : List ℕ) (start : ℕ) (after : List (ℕ × ℕ)) (free : List ℕ) (budget : ℕ)
    : Type 0 where
  pub asks : List (ℕ × ℕ)
  pub ordered : AreOrdered start after asks
  pub unfit : IsUnfit budget (begun memory asks free)

-- the reason why a run has no end: memory ran out, or E19, package range
abbrev pub IsWhyNoRun : List ℕ → ℕ → List (ℕ × ℕ) → List ℕ → ℕ → Refusal → Type 0
IsWhyNoRun memory start after free budget OutOfMemory = Unit {0}
IsWhyNoRun memory start after free budget PackageRange = IsUnfitRun memory start after free budget
IsWhyNoRun memory start after free budget other = ⊥
