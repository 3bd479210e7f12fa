-- A run to its end.
use Rattle.std.proofs.Common.{◌≡◌, ◌≤◌, ◌+◌, ℕ, zero, suc, Bool, true, false, cond, List, [], ◌∷◌, ◌++◌, ◌&&◌, ◌||◌}
use Rattle.std.proofs.Common.{Option, Some, None, is_some, not, length, refl, arith}
use Rattle.std.specs.Prelude.{is_none, nat_le, nat_lt}
use Rattle.sequential_run.specs.Fulfilled.{IsFulfilled}
use Rattle.program_order.proofs.theorem.Headline.{replay_faulted}
use Rattle.relocation.specs.Relocation.{package_fits}
use Rattle.sequential.specs.declared.state.State.{State}
use Rattle.sequential.specs.Log.{issued}
use Rattle.sequential.specs.Replay.{LogStep, Issued, Exchanged, boot, replay, do_log_step}
use Rattle.sequential.specs.Swap.{swap}
use Rattle.sequential.proofs.Runs.{replay_on}
use Rattle.sequential_run.specs.declared.course.Course.{Course}
use Rattle.sequential_run.specs.Turns.{Moment, Turn, Exchanges, Asks, AsksFree, Issues, Ends, is_going, is_in_mid_word}
use Rattle.sequential_run.specs.Turns.{issue_or_end, turn_by, next_turn, take_turn, turns, begun}
use Rattle.sequential_run.specs.inner.Course.{IsKept, IsBegun, Goes, Went, moment_of}
use Rattle.sequential_run.specs.Run.{EndsAt, IsRun, IsSequentialRun, is_over}
use Rattle.sequential_run.proofs.Turning.{more_turns}

-- ---- the log leads to the state ----

exchange_replays : (first : State) (m : Moment) (n : ℕ) (b : Bool) → package_fits n (length m.state.memory) ≡ b
    → replay first m.log ≡ Some m.state
    → replay first (cond b (record m { state = swap n m.state; log = m.log ++ Exchanged n ∷ []; waiting = None }) m).log
    ≡ Some (cond b (record m { state = swap n m.state; log = m.log ++ Exchanged n ∷ []; waiting = None }) m).state
unfolding replay do_log_step
exchange_replays first m n true e h = cc (replay_on first m.state m.log (Exchanged n ∷ []) h)
exchange_replays first m n false e h = h

turn_replays : (first : State) (m : Moment) (t : Turn) → replay first m.log ≡ Some m.state
    → replay first (take_turn m t).log ≡ Some (take_turn m t).state
unfolding take_turn replay do_log_step
turn_replays first m (Exchanges n) h = exchange_replays first m n (package_fits n (length m.state.memory)) refl h
turn_replays first m (Asks n) h = h
turn_replays first m (AsksFree n) h = h
turn_replays first m Issues h = replay_on first m.state m.log (Issued ∷ []) h
turn_replays first m Ends h = h

pub turns_replay : (budget n : ℕ) (first : State) (m : Moment) → replay first m.log ≡ Some m.state
    → replay first (turns budget n m).log ≡ Some (turns budget n m).state
unfolding turns
turns_replay budget zero first m h = h
turns_replay budget (suc n) first m h =
    turns_replay budget n first (take_turn m (next_turn budget m)) (turn_replays first m (next_turn budget m) h)

-- the booted machine is at the start of its log
pub begun_replays : (memory : List ℕ) (asks : List (ℕ × ℕ)) (free : List ℕ)
    → replay (boot memory) (begun memory asks free).log ≡ Some (begun memory asks free).state
unfolding replay begun
begun_replays memory asks free = refl

-- a law of the definition: the log of a run leads from boot to its state
pub run_replays : (memory : List ℕ) (start : ℕ) (after : List (ℕ × ℕ)) (free : List ℕ) (budget : ℕ)
    (log : List LogStep) (s : State) → IsSequentialRun memory start after free budget log s
    → replay (boot memory) log ≡ Some s
run_replays memory start after free budget log s r = grind (arith, turns_replay, begun_replays)

-- a run issues no more instructions only if it is over
none_left : {H : Type 0} (halt : Option H) (fault : Bool) (budget n : ℕ)
    → cond (is_none halt && not fault && nat_lt n budget) Issues Ends ≡ Ends
    → (is_some halt || (fault || nat_le budget n)) ≡ true
none_left halt fault budget n e = grind arith

-- a turn that does nothing belongs to a machine that issues no more
no_turn : (waiting : Option ℕ) (mid : Bool) (due : Option ℕ) (free : List ℕ) (go : Turn)
    → turn_by waiting mid due free go ≡ Ends → go ≡ Ends
unfolding turn_by
no_turn waiting mid due free go e = grind arith

ends_over : (budget : ℕ) (m : Moment) → next_turn budget m ≡ Ends → is_over m.state m.log budget ≡ true
unfolding next_turn issue_or_end is_going
ends_over budget m e = grind (arith, none_left, no_turn)

-- a law of the definition: at its end a run is over
pub run_over : (memory : List ℕ) (start : ℕ) (after : List (ℕ × ℕ)) (free : List ℕ) (budget : ℕ)
    (log : List LogStep) (s : State) → IsSequentialRun memory start after free budget log s
    → is_over s log budget ≡ true
run_over memory start after free budget log s r =
    rw r.log_is (rw r.state_is (ends_over budget r.last r.ends.ends))

-- a run that begins so, replays on this memory within the budget, and is over, keeps all promises of a run
pub run_on : (memory other : List ℕ) (start : ℕ) (after : List (ℕ × ℕ)) (free : List ℕ) (budget : ℕ)
    (log : List LogStep) (s : State) → other ≡ memory
    → (more : List LogStep) × (log ≡ Exchanged start ∷ more) → IsFulfilled start after free (is_in_mid_word s) log
    → issued log ≤ budget → is_over s log budget ≡ true → replay (boot other) log ≡ Some s
    → IsRun memory start after free budget log s
run_on memory other start after free budget log s same begins fulfilled within over h = grind (arith, replay_faulted)

-- ---- turn by turn ----

-- some turns lead from one moment to another
pub record Led (budget : ℕ) (m n : Moment) : Type 0 where
  pub count : ℕ
  pub reached : turns budget count m ≡ n

pub led_begun : (budget : ℕ) (m : Moment) → Led budget m m
unfolding turns
led_begun budget m = record { count = 0; reached = refl }

pub led_more : (budget : ℕ) (m n o : Moment) → Led budget m n → Goes budget n o → Led budget m o
led_more budget m n o l g = grind (arith, more_turns budget l.count g.count (l.count + g.count) m refl)

pub led_on : (budget : ℕ) (on : Bool) (m n o : Moment) → on ≡ true → Led budget m n → Went budget on n o
    → Led budget m o
led_on budget true m n o e l w = led_more budget m n o l w
led_on budget false m n o e l w = cc

pub led_to_end : (budget : ℕ) (m n o : Moment) → Led budget m n → (next_turn budget n ≡ Ends) × (o ≡ n)
    → EndsAt budget m o
led_to_end budget m n o l e = grind arith

pub led_off : (budget : ℕ) (on : Bool) (m n o : Moment) → on ≡ false → Led budget m n → Went budget on n o
    → EndsAt budget m o
led_off budget true m n o e l w = cc
led_off budget false m n o e l w = led_to_end budget m n o l w

-- ---- from the beginning ----

pub kept_begun : (memory : List ℕ) (start : ℕ) (after : List (ℕ × ℕ)) (free : List ℕ) (budget : ℕ) (c : Course)
    → IsBegun memory start after free c → IsKept budget c
unfolding moment_of begun issued
kept_begun memory start after free budget c b = grind arith

pub run_ended : (memory : List ℕ) (start : ℕ) (after : List (ℕ × ℕ)) (free : List ℕ) (budget : ℕ) (c d : Course)
    → IsBegun memory start after free c → EndsAt budget (moment_of c) (moment_of d)
    → IsSequentialRun memory start after free budget d.log.steps d.state
unfolding moment_of
run_ended memory start after free budget c d b e = grind arith
