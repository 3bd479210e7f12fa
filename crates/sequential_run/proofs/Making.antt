-- The events of a run that does one instruction at a time.
use Rattle.std.proofs.Common.{◌≡◌, ◌<◌, ◌≤◌, ◌+◌, ℕ, zero, suc, Bool, true, false, ◌&&◌, not, cond, List, [], ◌∷◌, ◌++◌}
use Rattle.std.proofs.Common.{Option, Some, None, length, is_some, is_none, refl, sym, ap, arith, inl, ltb-true}
use Rattle.std.specs.Prelude.{nat_lt, Result, Ok, drop, option_to_list}
use Rattle.std.proofs.lemmas.Option.{same_Some}
use Rattle.instructions.specs.declared.refusal.Halt.{Halt}
use Rattle.instructions.specs.declared.refusal.Refusal.{Refusal}
use Rattle.relocation.specs.Relocation.{package_fits}
use Rattle.in_flight.specs.Lookup.{is_pending}
use Rattle.in_flight.specs.Tests.{refusal_of}
use Rattle.sequential.specs.declared.fetching.Fetched.{Fetched}
use Rattle.sequential.specs.declared.state.State.{State}
use Rattle.sequential.specs.Log.{issued}
use Rattle.sequential.specs.Replay.{LogStep, Issued, Exchanged, boot, replay}
use Rattle.sequential.specs.State.{bounds_of}
use Rattle.sequential.specs.Step.{fetch}
use Rattle.sequential.specs.Swap.{swap}
use Rattle.program_order.specs.declared.event.Done.{Done}
use Rattle.program_order.specs.declared.event.Event.{Event}
use Rattle.program_order.specs.declared.event.Event.TheVariants.{Issue, Ask, Exchange}
use Rattle.program_order.specs.Processor.{Processor, boot_processor}
use Rattle.program_order.specs.Drain.{KeepsAccounts, leads_to, next_of, work_left, works_on}
use Rattle.program_order.specs.Events.{allowed, after, tests_of}
use Rattle.program_order.specs.Exchange.{ask_tests, after_exchange}
use Rattle.program_order.specs.Headline.{made_request, made_steps}
use Rattle.program_order.specs.Issue.{after_issue}
use Rattle.program_order.specs.Reached.{IsReached}
use Rattle.program_order.specs.Run.{IsAnswer, answer_by, answer_of, done_by, settled}
use Rattle.program_order.proofs.draining.Accounts.{works_accounts}
use Rattle.program_order.proofs.draining.Draining.{all_done, next_eases, next_is_allowed, nothing_next, saved_of}
use Rattle.program_order.proofs.draining.GoingOn.{exchange_accepted, issue_accepted}
use Rattle.program_order.proofs.draining.OnPending.{next_works_on}
use Rattle.program_order.proofs.reaching.Reached.{boot_reached, event_goes_on}
use Rattle.program_order.proofs.theorem.Headline.{books_after}
use Rattle.program_order.proofs.theorem.Theorem.{IsRight, boot_right, drained_replay, event_kept, not_pending}
use Rattle.sequential_run.specs.Turns.{Moment, Turn, Exchanges, Asks, AsksFree, Issues, Ends, is_going, is_in_mid_word}
use Rattle.sequential_run.specs.Turns.{issue_or_end, first_due, turn_by, next_turn, take_turn, turns, begun}
use Rattle.sequential_run.specs.Run.{IsSequentialRun}
use Rattle.sequential_run.proofs.Ending.{begun_replays, turns_replay}
use Rattle.sequential_run.proofs.Ordered.{kept_count}
use Rattle.sequential_run.specs.Made.{IsMadeByEvents}

-- ---- a machine that was reached ----

-- events lead to this machine
pub record Reaches (memory : List ℕ) (budget : ℕ) (w : Processor) : Type 0 where
  pub events : List Event
  pub answers : List (Result Done Refusal)
  pub reached : IsReached memory budget events answers w
  pub right : IsRight w

answered : (w : Processor) (e : Event) → allowed w e ≡ None → IsAnswer w e (Ok (done_by w e))
unfolding answer_of answer_by
answered w e h = inl (ap (answer_by (done_by w e)) (sym h))

-- an allowed event leads on
reaches_on : (memory : List ℕ) (budget : ℕ) (w : Processor) (e : Event) → Reaches memory budget w → allowed w e ≡ None
    → Reaches memory budget (after w e)
unfolding settled
reaches_on memory budget w e r h = record {
  events = r.events ++ e ∷ [];
  answers = r.answers ++ Ok (done_by w e) ∷ [];
  reached = search (arith, event_goes_on, answered);
  right = event_kept w e h r.right;
}

-- ---- draining ----

-- the machine leads to a drained machine with the same log and requests
pub record Drains (memory : List ℕ) (budget : ℕ) (w : Processor) : Type 0 where
  pub last : Processor
  pub reaches : Reaches memory budget last
  pub drained : last.pending ≡ []
  pub log : last.log ≡ w.log
  pub request : last.request ≡ w.request
  pub budget_is : last.budget ≡ w.budget
  pub asked : last.asked ≡ w.asked
  pub boot : last.boot_memory ≡ w.boot_memory

drained_here : (memory : List ℕ) (budget : ℕ) (w : Processor) → Reaches memory budget w → is_pending w.pending ≡ false
    → Drains memory budget w
drained_here memory budget w r h = grind (arith, not_pending)

next_accounts : (w : Processor) (e : Event) → allowed w e ≡ None → works_on w.pending e ≡ true
    → KeepsAccounts w (after w e)
unfolding leads_to
next_accounts w e h k = works_accounts w (after w e) 1 (record {
  events = e ∷ [];
  accepted = (h, k, tt);
  leads = refl;
  counted = refl;
  limit = omega arith;
})

drains : (n : ℕ) (memory : List ℕ) (budget : ℕ) (w : Processor) → Reaches memory budget w
    → work_left w.pending ≤ n + saved_of w.pending w.busy → Drains memory budget w
drains zero memory budget w r l = drained_here memory budget w r (all_done w.pending w.busy (omega (arith, l)))
drains (suc n) memory budget w r l =
    by_next (next_of w.pending w.busy) refl (λ v t m. drains n memory budget v t m)
  where
    by_next : (o : Option Event) → next_of w.pending w.busy ≡ o
        → ((v : Processor) → Reaches memory budget v → work_left v.pending ≤ n + saved_of v.pending v.busy
        → Drains memory budget v) → Drains memory budget w
    by_next None k more = drained_here memory budget w r (nothing_next w.pending w.busy k)
    by_next (Some e) k more =
        let h : allowed w e ≡ None = next_is_allowed w w (Some e) w.pending r.right.0 refl refl (sym k) in
        let a = next_accounts w e h (next_works_on w.pending w.busy e k) in
        let eases : work_left (after w e).pending + 1 + saved_of w.pending w.busy
        ≤ work_left w.pending + saved_of (after w e).pending (after w e).busy = next_eases w e k in
        search (arith, reaches_on)

-- ---- at a moment of a run ----

-- the number of requests that may still be made
abbrev pub requests_left : Moment → ℕ
requests_left m = length m.asks + length m.free + length (option_to_list m.waiting)

-- a drained machine in the state of the run is reached
pub record Stands (memory : List ℕ) (budget : ℕ) (m : Moment) : Type 0 where
  pub last : Processor
  pub reaches : Reaches memory budget last
  pub drained : last.pending ≡ []
  pub request : last.request ≡ None
  pub log : last.log ≡ m.log
  pub state : last.state ≡ m.state
  pub budget_is : last.budget ≡ budget
  pub boot : last.boot_memory ≡ memory
  pub asked : last.asked + requests_left m ≤ 1000000

-- ---- what the next turn tells ----

issues_by : (o : Option ℕ) (mid : Bool) (due : Option ℕ) (free : List ℕ) (go : Turn)
    → turn_by o mid due free go ≡ Issues → go ≡ Issues
unfolding turn_by
issues_by o mid due free go h = grind arith

both : (a b : Bool) → cond (a && b) Issues Ends ≡ Issues → (a ≡ true) × (b ≡ true)
both a b h = grind arith

issues_when : (budget : ℕ) (m : Moment) → next_turn budget m ≡ Issues
    → (is_going m.state ≡ true) × (nat_lt (issued m.log) budget ≡ true)
unfolding next_turn issue_or_end
issues_when budget m h = both (is_going m.state) (nat_lt (issued m.log) budget)
    (issues_by m.waiting (is_in_mid_word m.state) (first_due (issued m.log) m.asks) m.free _ h)

package_at : Turn → ℕ
package_at (Exchanges n) = n
package_at other = 0

exchanges_by : (o : Option ℕ) (mid : Bool) (due : Option ℕ) (free : List ℕ) (b : Bool) (n : ℕ)
    → turn_by o mid due free (cond b Issues Ends) ≡ Exchanges n → (o ≡ Some n) × (mid ≡ false)
unfolding turn_by package_at
exchanges_by o mid due free b n h = grind arith

exchanges_when : (budget : ℕ) (m : Moment) (n : ℕ) → next_turn budget m ≡ Exchanges n
    → (m.waiting ≡ Some n) × (is_in_mid_word m.state ≡ false)
unfolding next_turn issue_or_end
exchanges_when budget m n h = exchanges_by m.waiting (is_in_mid_word m.state) (first_due (issued m.log) m.asks) m.free
    (is_going m.state && nat_lt (issued m.log) budget) n h

runs_by : (o : Option Halt) (f : Bool) → (is_none o && not f) ≡ true → (o ≡ None) × (f ≡ false)
runs_by o f h = grind arith

runs_when : (s : State) → is_going s ≡ true → (s.halt ≡ None) × (s.fault ≡ false)
unfolding is_going
runs_when s h = runs_by s.halt s.fault h

not_mid : (a b c : Bool) → ((a && b) && c) ≡ false → (a && (b && c)) ≡ false
not_mid true b c h = h
not_mid false b c h = refl

apart_when : (s : State) → is_in_mid_word s ≡ false
    → (is_none s.halt && (not s.fault && is_some s.position.held)) ≡ false
unfolding is_in_mid_word is_going
apart_when s h = not_mid (is_none s.halt) (not s.fault) (is_some s.position.held) h

-- ---- an instruction ----

issue_asked : (w : Processor) (g : Fetched) → (after_issue w g).asked ≡ w.asked
unfolding after_issue
issue_asked w g = grind arith

after_asked : (w : Processor) → (after w Issue).asked ≡ w.asked
unfolding after
after_asked w = issue_asked w (fetch (bounds_of w.state) w.state.memory w.state.position)

empty_pending : (w : Processor) → w.pending ≡ [] → is_pending w.pending ≡ false
unfolding is_pending
empty_pending w h = ap is_pending h

stands_issued : (memory : List ℕ) (budget : ℕ) (m n : Moment) → Stands memory budget m → is_going m.state ≡ true
    → issued m.log < budget → n.log ≡ m.log ++ Issued ∷ [] → requests_left n ≡ requests_left m
    → replay (boot memory) n.log ≡ Some n.state → Stands memory budget n
unfolding made_request made_steps
stands_issued memory budget m n s g l e q h =
    let w = s.last in
    let runs = runs_when m.state g in
    let a : issued w.log ≡ issued m.log = ap issued s.log in
    let b : w.budget ≡ budget = s.budget_is in
    let ok : allowed w Issue ≡ None = grind (arith, issue_accepted, empty_pending, is_none, is_some) in
    let v = after w Issue in
    let books = books_after w Issue in
    let d = drains (work_left v.pending) memory budget v (reaches_on memory budget w Issue s.reaches ok)
    (omega arith) in grind (arith, drained_replay, after_asked, same_Some)

-- ---- an exchange ----

ask_allowed : (w : Processor) (n : ℕ) → w.asked < 1000000 → w.request ≡ None
    → package_fits n (length w.state.memory) ≡ true → allowed w (Ask n) ≡ None
unfolding allowed tests_of ask_tests refusal_of
ask_allowed w n l r f = grind arith

-- the machine with the request waiting
abbrev pub with_request : Processor → ℕ → Processor
with_request w n = record w { request = Some n; asked = suc w.asked }

asks_reach : (memory : List ℕ) (budget : ℕ) (w : Processor) (n : ℕ) → Reaches memory budget w → w.asked < 1000000
    → w.request ≡ None → package_fits n (length w.state.memory) ≡ true → Reaches memory budget (with_request w n)
unfolding after
asks_reach memory budget w n r l q f = reaches_on memory budget w (Ask n) r (ask_allowed w n l q f)

exchange_reaches : (memory : List ℕ) (budget : ℕ) (w : Processor) (n : ℕ) → Reaches memory budget (with_request w n)
    → w.pending ≡ [] → (is_none w.state.halt && (not w.state.fault && is_some w.state.position.held)) ≡ false
    → Reaches memory budget (record (with_request w n) {
      state = swap n w.state;
      log = w.log ++ Exchanged n ∷ [];
      request = None;
    })
unfolding after after_exchange
exchange_reaches memory budget w n r p h = reaches_on memory budget (with_request w n) Exchange r
    (exchange_accepted (with_request w n) n (empty_pending w p) refl h)

stands_exchanged : (memory : List ℕ) (budget : ℕ) (m : Moment) (n : ℕ) → Stands memory budget m → m.waiting ≡ Some n
    → is_in_mid_word m.state ≡ false → package_fits n (length m.state.memory) ≡ true
    → Stands memory budget (record m { state = swap n m.state; log = m.log ++ Exchanged n ∷ []; waiting = None })
stands_exchanged memory budget m n s w h f =
    let one : length (option_to_list m.waiting) ≡ 1 = ap (λ o. length (option_to_list o)) w in
    let few = s.asked in
    record {
      last = record (with_request s.last n) {
        state = swap n s.last.state;
        log = s.last.log ++ Exchanged n ∷ [];
        request = None;
      };
      reaches = grind (arith, exchange_reaches, asks_reach, apart_when, is_none, is_some);
      drained = s.drained;
      request = refl;
      log = ap (λ l. l ++ Exchanged n ∷ []) s.log;
      state = ap (swap n) s.state;
      budget_is = s.budget_is;
      boot = s.boot;
      asked = omega (arith, one, few);
    }

-- ---- a request, which the machine gets only when its exchange is made ----

stands_as : (memory : List ℕ) (budget : ℕ) (m n : Moment) → Stands memory budget m → n.log ≡ m.log
    → n.state ≡ m.state → requests_left n ≤ requests_left m → Stands memory budget n
stands_as memory budget m n s l e q = grind arith

asks_by : (o : Option ℕ) (mid : Bool) (due : Option ℕ) (free : List ℕ) (b : Bool) (n : ℕ)
    → turn_by o mid due free (cond b Issues Ends) ≡ Asks n → (o ≡ None) × (is_some due ≡ true)
unfolding turn_by
asks_by o mid due free b n h = grind arith

free_by : (o : Option ℕ) (mid : Bool) (due : Option ℕ) (free : List ℕ) (b : Bool) (n : ℕ)
    → turn_by o mid due free (cond b Issues Ends) ≡ AsksFree n → (o ≡ None) × (0 < length free)
unfolding turn_by
free_by o mid due free b n h = grind arith

due_left : (done : ℕ) (asks : List (ℕ × ℕ)) → is_some (first_due done asks) ≡ true → 0 < length asks
unfolding first_due
due_left done [] h = cc
due_left done (ask ∷ asks) h = omega arith

dropped : {X : Type 0} (xs : List X) → 0 < length xs → length (drop 1 xs) + 1 ≤ length xs
dropped [] h = absurd (omega (arith, h))
dropped (x ∷ xs) h = omega arith

-- ---- any turn ----

stands_turn : (memory : List ℕ) (budget : ℕ) (m : Moment) (t : Turn) → next_turn budget m ≡ t
    → Stands memory budget m → replay (boot memory) (take_turn m t).log ≡ Some (take_turn m t).state
    → Stands memory budget (take_turn m t)
unfolding take_turn next_turn issue_or_end
stands_turn memory budget m (Exchanges n) e s h = search (arith, exchanges_when, stands_exchanged)
stands_turn memory budget m (Asks n) e s h = search (arith, asks_by, dropped, due_left, stands_as)
stands_turn memory budget m (AsksFree n) e s h = search (arith, free_by, dropped, stands_as)
stands_turn memory budget m Issues e s h = grind (arith, issues_when, stands_issued, ltb-true)
stands_turn memory budget m Ends e s h = s

stands_turns : (n : ℕ) (memory : List ℕ) (budget : ℕ) (m : Moment) → Stands memory budget m
    → replay (boot memory) m.log ≡ Some m.state → Stands memory budget (turns budget n m)
unfolding turns
stands_turns zero memory budget m s h = s
stands_turns (suc n) memory budget m s h =
    let k : replay (boot memory) (take_turn m (next_turn budget m)).log
    ≡ Some (take_turn m (next_turn budget m)).state = turns_replay budget 1 (boot memory) m h in
    stands_turns n memory budget (take_turn m (next_turn budget m))
    (stands_turn memory budget m (next_turn budget m) refl s k) k

stands_begun : (memory : List ℕ) (budget : ℕ) (asks : List (ℕ × ℕ)) (free : List ℕ)
    → length asks + length free ≤ 1000000 → Stands memory budget (begun memory asks free)
unfolding begun boot_processor
stands_begun memory budget asks free l =
    grind (arith, boot_reached memory budget (boot_processor memory budget) refl, boot_right memory budget)

pub run_made : (memory : List ℕ) (start : ℕ) (given : List (ℕ × ℕ)) (free : List ℕ) (budget : ℕ) (log : List LogStep)
    (s : State) → IsSequentialRun memory start given free budget log s → length given + length free < 1000000
    → IsMadeByEvents memory budget log s
run_made memory start given free budget log s run l =
    let count : length run.asks ≡ suc (length given) = kept_count ((start, 0) ∷ given) run.asks run.ordered.same in
    let ends : Stands memory budget run.last = grind (arith, stands_turns, stands_begun, begun_replays) in
    grind arith
