-- The progress of a run, as the code keeps it, and the changes by a turn.
-- Source: ours.
use Rattle.std.specs.Prelude.{ℕ, ◌≡◌, ◌≤◌, ◌<◌, ◌+◌, ◌-◌, ◌*◌, Bool, true, false, List, [], None, length, is_some}
use Rattle.std.specs.Prelude.{if◌then◌else◌, ◌++◌, replicate}
use Rattle.sequential_run.specs.Requests.{AreOrdered, IsDue}
use Rattle.instructions.specs.declared.refusal.Refusal.{Refusal}
use Rattle.instructions.specs.declared.refusal.Refusal.TheVariants.{OutOfMemory, PackageRange}
use Rattle.relocation.specs.Relocation.{package_fits}
use Rattle.sequential.specs.Log.{issued}
use Rattle.sequential_run.specs.declared.course.Course.{Course}
use Rattle.sequential.specs.Replay.{Issued}
use Rattle.sequential_run.specs.inner.Stepping.{StepsTo}
use Rattle.sequential_run.specs.Turns.{Moment, begun, Ends, Exchanges, is_going, is_in_mid_word, next_turn, turns}

-- the moment that a run has reached
unfoldable pub moment_of : Course → Moment
moment_of c = record {
  state = c.state;
  log = c.log.steps;
  asks = c.requests.asks;
  free = c.free.items;
  waiting = c.waiting;
}

-- a run before its first turn
pub record IsBegun (memory : List ℕ) (start : ℕ) (after : List (ℕ × ℕ)) (free : List ℕ) (c : Course) : Type 0 where
  pub ordered : AreOrdered start after c.requests.asks
  pub moment : moment_of c ≡ begun memory c.requests.asks free
  pub counted : c.requests.issued ≡ 0
  pub idle : c.requests.is_waiting ≡ false

-- the invariant of a run: the requests have the number of instructions in the log, that number is within the budget,
-- and they record a waiting request only if there is one
pub record IsKept (budget : ℕ) (c : Course) : Type 0 where
  pub counted : c.requests.issued ≡ issued c.log.steps
  pub within : issued c.log.steps ≤ budget
  pub idle : is_some c.waiting ≡ false → c.requests.is_waiting ≡ false

-- an instruction comes next: the waiting request can't have its exchange, or no request waits, none is due and no free
-- request is left
pub record CanIssue (c : Course) : Type 0 where
  pub mid : is_some c.waiting ≡ true → is_in_mid_word c.state ≡ true
  pub free : is_some c.waiting ≡ false → c.free.items ≡ []
  pub due : is_some c.waiting ≡ false → IsDue c.requests.asks c.requests.issued None

-- at most this many instructions were executed, all while the machine ran without a fault
pub record IsIssued (count : ℕ) (c d : Course) : Type 0 where
  pub made : ℕ
  pub most : made ≤ count
  pub steps : StepsTo made c.state d.state
  pub all : made < count → is_going d.state ≡ false
  pub log : d.log.steps ≡ c.log.steps ++ replicate made Issued
  pub requests : d.requests ≡ record c.requests { issued = c.requests.issued + made }
  pub same : (d.free ≡ c.free) × (d.waiting ≡ c.waiting)

-- the most turns that a run can have left: instructions, requests and their exchanges
unfoldable pub left_at : ℕ → Moment → ℕ
left_at budget m = (budget - issued m.log) + 2 * (length m.asks + length m.free) + (if is_some m.waiting then 1 else 0)

-- one or more turns lead from one moment to another
pub record Goes (budget : ℕ) (m n : Moment) : Type 0 where
  pub count : ℕ
  pub reached : turns budget count m ≡ n
  pub less : left_at budget n < left_at budget m

-- the run has made turns, or it has ended
abbrev pub Went : ℕ → Bool → Moment → Moment → Type 0
Went budget true m n = Goes budget m n
Went budget false m n = (next_turn budget m ≡ Ends) × (n ≡ m)

-- the reason why a run can't continue: memory ran out, or the sixteen words of the next exchange aren't all in memory
abbrev pub IsWhyRefused : ℕ → Moment → Refusal → Type 0
IsWhyRefused budget m OutOfMemory = Unit {0}
IsWhyRefused budget m PackageRange =
    (n : ℕ) × (next_turn budget m ≡ Exchanges n) × (package_fits n (length m.state.memory) ≡ false)
IsWhyRefused budget m other = ⊥
