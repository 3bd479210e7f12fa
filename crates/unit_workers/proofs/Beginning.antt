-- How a run begins.
use Rattle.std.proofs.Common.{◌≡◌, ◌≤◌, ℕ, Bool, true, false, List, [], ◌∷◌, ◌++◌, Option, Some, None, cond, is_some}
use Rattle.std.proofs.Common.{not, refl, sym, ap, subst, ◌∙◌, inl, inr}
use Rattle.std.proofs.lemmas.Bool.{and_parts}
use Rattle.std.proofs.lemmas.List.{append-nil}
use Rattle.std.specs.Prelude.{Result, Ok, Err, is_none, nat_eq, nat_le, length}
use Rattle.instructions.specs.declared.refusal.Refusal.{Refusal}
use Rattle.instructions.specs.declared.refusal.Refusal.TheVariants.{Budget, ExchangeBusy, PackageRange, Nothing}
use Rattle.instructions.specs.declared.refusal.Refusal.TheVariants.{NotDrained, MidWord}
use Rattle.relocation.specs.Relocation.{package_fits}
use Rattle.sequential.specs.declared.log.Entry.{Entry}
use Rattle.sequential.specs.Log.{issued, entries_of}
use Rattle.sequential.specs.Replay.{LogStep, Exchanged}
use Rattle.in_flight.specs.Tests.{refusal_of}
use Rattle.program_order.specs.declared.event.Done.{Done}
use Rattle.program_order.specs.declared.event.Event.{Event}
use Rattle.program_order.specs.declared.event.Event.TheVariants.{Issue, Read, Finish, Store, Accept, Return, BankFree}
use Rattle.program_order.specs.declared.event.Event.TheVariants.{Ask, Exchange, PpRead, PpWrite}
use Rattle.program_order.specs.Drain.{Accepts, Works, KeepsAccounts, works_on, leads_to}
use Rattle.program_order.specs.Events.{after, allowed, tests_of}
use Rattle.program_order.specs.Exchange.{after_exchange, ask_tests, exchange_tests}
use Rattle.program_order.specs.Processor.{Processor}
use Rattle.program_order.specs.Run.{IsAnswer, answer_of, settled}
use Rattle.program_order.specs.SnapshotView.{Snapped}
use Rattle.program_order.proofs.keeping.Naming.{answered_err}
use Rattle.machine_lock.specs.CallerKnowledge.{StartsWith, Booted, booted_by, booted_with, known}
use Rattle.unit_workers.specs.Beginning.{IsAtRest, Begins}
use Rattle.unit_workers.specs.Ending.{is_at_end}
use Rattle.unit_workers.specs.Onward.{EndsFrom}
use Rattle.unit_workers.proofs.Onward.{longer}

-- ---- what a refusal says ----

second_fails : (a b c : Bool) → cond a (Some Budget) (cond b (Some ExchangeBusy) (cond c (Some PackageRange) None))
    ≡ Some ExchangeBusy → b ≡ true
second_fails true b c h = cc
second_fails false true c h = refl
second_fails false false true h = cc
second_fails false false false h = cc

third_fails : (a b c : Bool) → cond a (Some Nothing) (cond b (Some NotDrained) (cond c (Some MidWord) None))
    ≡ Some MidWord → c ≡ true
third_fails true b c h = cc
third_fails false true c h = cc
third_fails false false true h = refl
third_fails false false false h = cc

-- a request is refused as busy only if another one waits
busy_waits : (w : Processor) (n : ℕ) (a : Result Done Refusal) → IsAnswer w (Ask n) a → a ≡ Err ExchangeBusy
    → is_some w.request ≡ true
unfolding answer_of allowed tests_of ask_tests refusal_of
busy_waits w n a (inl h) e =
    second_fails (nat_le 1000000 w.asked) (is_some w.request) (not (package_fits n (length w.state.memory)))
    (answered_err _ (allowed w (Ask n)) ExchangeBusy (sym e ∙ h))
busy_waits w n a (inr r) e = let o = sym e ∙ r.want in absurd (cc)

-- an exchange is refused for the middle of a word only if the machine isn't halted
mid_runs : (w : Processor) (a : Result Done Refusal) → IsAnswer w Exchange a → a ≡ Err MidWord
    → is_none w.state.halt ≡ true
unfolding answer_of allowed tests_of exchange_tests refusal_of
mid_runs w a (inl h) e =
    (and_parts (is_none w.state.halt) _ (third_fails (is_none w.request) _ _
    (answered_err _ (allowed w Exchange) MidWord (sym e ∙ h)))).0
mid_runs w a (inr r) e = let o = sym e ∙ r.want in absurd (cc)

-- ---- how the machine has gone on ----

runs_or_rests : {A : Type 0} (x : Option A) → is_some x ≡ true → is_none x ≡ true → ⊥
runs_or_rests None h k = cc
runs_or_rests (Some x) h k = cc

waits_or_not : {A : Type 0} (x : Option A) → x ≡ None → is_some x ≡ true → ⊥
waits_or_not None h k = cc
waits_or_not (Some x) h k = cc

same_log : (w v : Processor) → v.log ≡ w.log → StartsWith v.log w.log
same_log w v e = ([], e ∙ sym (append-nil w.log))

pub begins_later : (n : ℕ) (w u : Processor) (a : Result Done Refusal) → IsAnswer w (Ask n) a → u ≡ settled w (Ask n) a
    → a ≡ Err ExchangeBusy → Begins false n w u
unfolding settled
begins_later n w u a h s e =
    let same : u ≡ w = s ∙ ap (settled w (Ask n)) e in
    let waits : is_some w.request ≡ true = busy_waits w n a h e in
    record {
      booted = ap booted_by same;
      log = same_log w u (ap (λ (x : Processor). x.log) same);
      first = λ r. absurd (waits_or_not w.request r.request waits);
      whole = λ r l. absurd (waits_or_not w.request r.request waits);
    }

pub begins_in_mid_word : (n : ℕ) (w u v : Processor) (d : Done) (a b : Result Done Refusal) → u ≡ settled w (Ask n) a
    → a ≡ Ok d → IsAnswer u Exchange b → v ≡ settled u Exchange b → b ≡ Err MidWord → Begins false n w v
unfolding settled after
begins_in_mid_word n w u v d a b s e h t f =
    let asked : u ≡ after w (Ask n) = s ∙ ap (settled w (Ask n)) e in
    let same : v ≡ after w (Ask n) = t ∙ ap (settled u Exchange) f ∙ asked in
    let runs : is_none w.state.halt ≡ true =
    sym (ap (λ (x : Processor). is_none x.state.halt) asked) ∙ mid_runs u b h f in
    record {
      booted = ap booted_by same;
      log = same_log w v (ap (λ (x : Processor). x.log) same);
      first = λ r. absurd (runs_or_rests w.state.halt r.halted runs);
      whole = λ r l. absurd (runs_or_rests w.state.halt r.halted runs);
    }

-- a log without steps has no entries
pub new_log : (entries : List Entry) (log : List LogStep) (is_new : Bool) → entries ≡ entries_of log
    → is_new ≡ nat_eq (length entries) 0 → log ≡ [] → is_new ≡ true
unfolding entries_of
new_log entries log is_new e n l = n ∙ ap (λ x. nat_eq (length x) 0) (e ∙ ap entries_of l)

pub begins_at_once : (is_new : Bool) (n : ℕ) (w u v : Processor) (d f : Done) (a b : Result Done Refusal)
    → (w.log ≡ [] → is_new ≡ true) → u ≡ settled w (Ask n) a → a ≡ Ok d → v ≡ settled u Exchange b → b ≡ Ok f
    → Begins is_new n w v
unfolding settled after after_exchange
begins_at_once is_new n w u v d f a b new s e t g =
    let asked : u ≡ after w (Ask n) = s ∙ ap (settled w (Ask n)) e in
    let made : v ≡ after (after w (Ask n)) Exchange =
    t ∙ ap (settled u Exchange) g ∙ ap (λ (x : Processor). after x Exchange) asked in
    record {
      booted = ap booted_by made;
      log = (Exchanged n ∷ [], ap (λ (x : Processor). x.log) made);
      first = λ r. ap (λ (x : Processor). x.log) made;
      whole = λ r l. new l;
    }

-- a request changes neither the log nor the values that the machine was booted with
asked_log : (w v : Processor) (n : ℕ) (a : Result Done Refusal) → v ≡ settled w (Ask n) a → v.log ≡ w.log
unfolding settled after
asked_log w v n (Ok d) h = ap (λ (x : Processor). x.log) h
asked_log w v n (Err k) h = ap (λ (x : Processor). x.log) h

asked_booted : (w v : Processor) (n : ℕ) (a : Result Done Refusal) → v ≡ settled w (Ask n) a
    → booted_by v ≡ booted_by w
unfolding settled after
asked_booted w v n (Ok d) h = ap booted_by h
asked_booted w v n (Err k) h = ap booted_by h

pub begins_on : (b : Bool) (n m : ℕ) (w u v : Processor) (a : Result Done Refusal) → Begins b n w u
    → v ≡ settled u (Ask m) a → Begins b n w v
begins_on b n m w u v a h s =
    let log : v.log ≡ u.log = asked_log u v m a s in
    record {
      booted = asked_booted u v m a s ∙ h.booted;
      log = (h.log.0, log ∙ h.log.1);
      first = λ r. log ∙ h.first r;
      whole = h.whole;
    }

-- ---- what was drained before ----

works_on_none : (e : Event) → works_on [] e ≡ true → ⊥
unfolding works_on
works_on_none Issue h = cc
works_on_none (Read u) h = cc
works_on_none (Finish u) h = cc
works_on_none (Store u) h = cc
works_on_none (Accept p) h = cc
works_on_none (Return c) h = cc
works_on_none (BankFree b) h = cc
works_on_none (Ask n) h = cc
works_on_none Exchange h = cc
works_on_none (PpRead a) h = cc
works_on_none (PpWrite a x) h = cc

-- a machine at rest is drained
drained_at_rest : (w v : Processor) (count : ℕ) → Works w v count → w.pending ≡ [] → v ≡ w
unfolding leads_to
drained_at_rest w v count h p = by_events h.events h.accepted h.leads
  where
    by_events : (events : List Event) → Accepts w events → v ≡ leads_to w events → v ≡ w
    by_events [] a l = l
    by_events (e ∷ events) a l = absurd (works_on_none e (sym (ap (λ p. works_on p e) p) ∙ a.1))

-- ---- to the end ----

-- the end of a run from this machine with this first package, whether or not its log begins with the exchange for that
-- package
pub record EndsRun (is_whole : Bool) (n : ℕ) (w : Processor) (s : Snapped) : Type 0 where
  pub memory : s.boot_memory ≡ w.boot_memory
  pub log : StartsWith s.log w.log
  pub budget : s.budget ≡ w.budget
  pub within : issued s.log ≤ w.budget
  pub at_end : is_at_end s ≡ true
  pub start : IsAtRest w → StartsWith s.log (w.log ++ Exchanged n ∷ [])
  pub whole : IsAtRest w → w.log ≡ [] → is_whole ≡ true

pub ends_run : (is_whole : Bool) (n : ℕ) (w v u : Processor) (count : ℕ) (s : Snapped) → Works w v count
    → KeepsAccounts w v → Begins is_whole n v u → EndsFrom (known (booted_by u) u.log []) s → EndsRun is_whole n w s
ends_run is_whole n w v u count s k a b e =
    let m : booted_by u ≡ booted_by w = b.booted ∙ ap (λ x. booted_with x v.budget) a.boot_memory
    ∙ ap (booted_with w.boot_memory) a.budget in
    record {
      memory = e.boot_memory ∙ ap (λ (x : Booted). x.memory) m;
      log = longer w.log u.log s.log (b.log.0, b.log.1 ∙ ap (λ l. l ++ b.log.0) a.log) e.log;
      budget = e.budget ∙ ap (λ (x : Booted). x.budget) m;
      within = subst (λ (x : Booted). issued s.log ≤ x.budget) m e.within;
      at_end = e.at_end;
      start = λ r.
          let d : v ≡ w = drained_at_rest w v count k r.pending in
          let f : u.log ≡ w.log ++ Exchanged n ∷ [] =
          b.first (subst IsAtRest (sym d) r) ∙ ap (λ l. l ++ Exchanged n ∷ []) a.log in
          (e.log.0, e.log.1 ∙ ap (λ l. l ++ e.log.0) f);
      whole = λ r l. b.whole (subst IsAtRest (sym (drained_at_rest w v count k r.pending)) r) (a.log ∙ l);
    }
