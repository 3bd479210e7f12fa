-- The headline: the log records the issues and exchanges, and the fault flag is set by the log's first faulty
-- instruction.
use Rattle.std.specs.Prelude.{option_and_then, not, Result, Ok, Err}
use Rattle.sequential.specs.Position.{after_jump}
use Rattle.std.proofs.Common.{◌≡◌, ℕ, Bool, true, false, List, [], ◌∷◌, ◌++◌, Option, Some, None, cond, refl, sym}
use Rattle.std.proofs.Common.{ap, ◌∙◌, subst₂, length, append_assoc, append-nil, get_or, ltb, arith}
use Rattle.std.specs.List.{list_any, list_all}
use Rattle.std.proofs.lemmas.Bool.{and_parts, or_parts, not-true, or_left, false≢true}
use Rattle.std.proofs.lemmas.Option.{same_Some}
use Rattle.instructions.proofs.Lists.{or_false}
use Rattle.sequential.proofs.Runs.{replay_on}
use Rattle.program_order.proofs.theorem.Issuing.{replay_more}
use Rattle.in_flight.specs.declared.pending.Pending.{Pending}
use Rattle.program_order.proofs.effects.Effects.{write_all_rest, do_option, do_parts, do_work-is}
use Rattle.program_order.proofs.theorem.Theorem.{run_kept, boot_right, drained_completed, completed_read, made_allowed}
use Rattle.instructions.specs.declared.refusal.Refusal.{Refusal}
use Rattle.in_flight.specs.Tests.{refusal_of}
use Rattle.program_order.specs.Headline.{GainsAccesses, IsFaithful, IsFaultedRun, ends_exchanged, exchange_step}
use Rattle.program_order.specs.Headline.{exchanges, is_access, is_exchange, is_exchanged, log_of, logged, made_request}
use Rattle.program_order.specs.Headline.{made_steps, makes_no_exchange, refusal_at_fault, request_by, steps_by}
use Rattle.program_order.specs.Reached.{IsReached, without_seats}
use Rattle.program_order.specs.Complete.{do_outstanding}
use Rattle.program_order.specs.declared.event.Done.{Done}
use Rattle.program_order.specs.declared.event.Done.TheVariants.{Word}
use Rattle.program_order.specs.Run.{done_by, settled, IsAnswer, IsAnswered, settled_all}
use Rattle.sequential.specs.Swap.{program_entered, swap}
use Rattle.instructions.specs.Finding.{Found}
use Rattle.program_order.specs.Processor.{Processor, boot_processor, completed, replayed}
use Rattle.program_order.specs.Events.{after, after_found, allowed, tests_of}
use Rattle.program_order.specs.Memory.{after_accept, after_return}
use Rattle.program_order.specs.Exchange.{after_exchange}
use Rattle.program_order.specs.Peripheral.{after_pp_read, after_pp_write}
use Rattle.program_order.specs.Units.{after_finish, after_read, after_store, after_work}
use Rattle.program_order.specs.Issue.{after_issue, issue_tests}
use Rattle.program_order.specs.declared.event.Event.{Event}
use Rattle.program_order.specs.declared.event.Event.TheVariants.{Issue, PpRead}
use Rattle.hopper.specs.declared.reference.Reference.{Reference}
use Rattle.in_flight.specs.declared.pending.Outstanding.{Outstanding}
use Rattle.in_flight.specs.declared.pending.Stage.{Stage}
use Rattle.relocation.specs.declared.area.Access.{Access}
use Rattle.relocation.specs.declared.area.Access.TheVariants.{Load as LoadInto, Store as StoreWord}
use Rattle.sequential.specs.Replay.{Exchanged, Issued, LogStep, ReadAt, Wrote, boot, do_log_step, replay}
use Rattle.sequential.specs.State.{Bounds, access_at, jump_to, halt_by, or_fault, move_to, store_word, write}
use Rattle.sequential.specs.Step.{do_fetched, do_instruction, step, step_unless}
use Rattle.sequential.specs.Work.{Work, write_and_jump}
use Rattle.sequential.specs.declared.fetching.Fetched.{Fetched}
use Rattle.sequential.specs.declared.state.State.{State}

-- ---- the books: log, request, and what was given at boot ----

pub record Books (w v : Processor) (r : Option ℕ) (xs : List LogStep) : Type 0 where
  pub log : v.log ≡ w.log ++ xs
  pub request : v.request ≡ r
  pub boot : v.boot_memory ≡ w.boot_memory
  pub budget : v.budget ≡ w.budget

books_same : (w v : Processor) → v.log ≡ w.log → v.request ≡ w.request → v.boot_memory ≡ w.boot_memory
    → v.budget ≡ w.budget → Books w v w.request []
books_same w v a b c d = record { log = a ∙ sym (append-nil w.log); request = b; boot = c; budget = d }

books_found : {K : Type 0} (w : Processor) (o : Option (Found Pending K)) (f : Found Pending K → Processor)
    → ((x : Found Pending K) → Books w (f x) w.request []) → Books w (after_found w o f) w.request []
unfolding after_found
books_found w None f h = books_same w w refl refl refl refl
books_found w (Some x) f h = h x

books_store : (w : Processor) (f : Found Pending Stage) (t : Stage) → Books w (after_store w f t) w.request []
unfolding after_store after_work
books_store w f t = grind (arith, books_same)

books_accept : (w : Processor) (f : Found Pending Reference) (a : ℕ) (access : Access)
    → Books w (after_accept w f a access) w.request []
unfolding after_accept
books_accept w f a (LoadInto n) = books_same w _ refl refl refl refl
books_accept w f a (StoreWord v) = books_same w _ refl refl refl refl

books_issue : (w : Processor) (g : Fetched) → Books w (after_issue w g) w.request (Issued ∷ [])
unfolding after_issue
books_issue w g = grind arith

books_exchange : (w : Processor) (o : Option ℕ) → w.request ≡ o → Books w (after_exchange w o) None (exchange_step o)
unfolding after_exchange exchange_step
books_exchange w None e = record { log = sym (append-nil w.log); request = e; boot = refl; budget = refl }
books_exchange w (Some n) e = record { log = refl; request = refl; boot = refl; budget = refl }

pub books_after : (w : Processor) (e : Event) → Books w (after w e) (made_request w.request e) (made_steps w.request e)
unfolding after made_request made_steps after_read after_finish after_return after_pp_read after_pp_write
books_after w e =
    grind (arith, books_issue, books_found, books_same, books_store, books_accept, books_exchange, append-nil)

pub books_by : (w : Processor) (e : Event) (a : Result Done Refusal)
    → Books w (settled w e a) (request_by a w.request e) (steps_by a w.request e)
unfolding settled request_by steps_by
books_by w e (Ok done) = books_after w e
books_by w e (Err k) = books_same w w refl refl refl refl

pub run_log : (w : Processor) (es : List Event) (given : List (Result Done Refusal))
    → (settled_all w es given).log ≡ w.log ++ logged w.request es given
unfolding settled_all logged
run_log w [] given = sym (append-nil w.log)
run_log w (e ∷ es) [] = sym (append-nil w.log)
run_log w (e ∷ es) (a ∷ given) = grind (arith, run_log (settled w e a) es given, books_by, append_assoc)

pub run_boot : (w : Processor) (es : List Event) (given : List (Result Done Refusal))
    → (settled_all w es given).boot_memory ≡ w.boot_memory
unfolding settled_all
run_boot w [] given = refl
run_boot w (e ∷ es) [] = refl
run_boot w (e ∷ es) (a ∷ given) = run_boot (settled w e a) es given ∙ (books_by w e a).boot

-- ---- a fault stays ----

jump_to-fault : (s : State) (j : Option ℕ) → (jump_to s j).fault ≡ s.fault
unfolding jump_to after_jump
jump_to-fault s None = refl
jump_to-fault s (Some to) = refl

write_and_jump-fault : (b : Bounds) (s : State) (w : Work) → s.fault ≡ true → (write_and_jump b s w).fault ≡ true
unfolding write_and_jump or_fault
write_and_jump-fault b s w h = or_left _ _ (jump_to-fault _ w.jump ∙ ap (λ y. y.fault) (write_all_rest s w.sets) ∙ h)

do_option-fault : (s : State) (o : Option Outstanding) → (do_option s o).fault ≡ s.fault
unfolding do_option do_outstanding access_at write store_word
do_option-fault s o = grind arith

do_fetched-fault : (b : Bounds) (s : State) (at : ℕ) (g : Fetched) → s.fault ≡ true → (do_fetched b s at g).fault ≡ true
unfolding do_fetched do_instruction do_parts halt_by move_to
do_fetched-fault b s h g k = grind (arith, do_work-is, do_option-fault, write_and_jump-fault)

step-fault : (s : State) → s.fault ≡ true → (step s).fault ≡ true
unfolding step step_unless
step-fault s h = grind (arith, do_fetched-fault)

-- the state that the test returns is the tested state
let_through : (b : Bool) (s t : State) → cond b (Some s) None ≡ Some t → s ≡ t
let_through true s t h = cc
let_through false s t h = cc

log_step-fault : (s : State) (x : LogStep) (t : State) → is_exchanged x ≡ false → do_log_step s x ≡ Some t
    → s.fault ≡ true → t.fault ≡ true
unfolding do_log_step is_exchanged store_word
log_step-fault s x t n h f = grind (arith, step-fault, let_through, same_Some)

-- once set, the fault flag stays set through all later steps but an exchange
replay-fault : (s : State) (xs : List LogStep) (t : State) → list_any is_exchanged xs ≡ false → replay s xs ≡ Some t
    → s.fault ≡ true → t.fault ≡ true
unfolding replay
replay-fault s [] t n h f = ap (λ (y : State). y.fault) (sym (same_Some s t h)) ∙ f
replay-fault s (x ∷ xs) t n h f =
    let p = or_parts (is_exchanged x) (list_any is_exchanged xs) n in
    after (do_log_step s x) refl (λ u k g. replay-fault u xs t p.1 k g) p.0 h
  where
    after : (o : Option State) → do_log_step s x ≡ o → ((u : State) → replay u xs ≡ Some t → u.fault ≡ true
        → t.fault ≡ true) → is_exchanged x ≡ false → option_and_then (λ u. replay u xs) o ≡ Some t → t.fault ≡ true
    after None e ih q k = cc
    after (Some u) e ih q k = ih u k (log_step-fault s x u q e f)

-- ---- the first instruction that sets the fault ----

-- in a run that starts without a fault, some instruction is the first after which the fault flag is set
pub record FirstFault (s : State) (xs : List LogStep) : Type 0 where
  pub earlier : List LogStep
  pub later : List LogStep
  pub run_is : xs ≡ earlier ++ Issued ∷ later
  pub never_before : (front rest : List LogStep) → earlier ≡ front ++ rest → (t : State) → replay s front ≡ Some t
      → t.fault ≡ false
  pub always_after : (more : List LogStep) → list_any is_exchanged more ≡ false → (t : State)
      → replay s (earlier ++ Issued ∷ more) ≡ Some t → t.fault ≡ true

-- the first step sets the fault flag, so it is an instruction: exchanges and peripheral accesses don't set it
set_at_once : (s u : State) (x : LogStep) (xs : List LogStep) → s.fault ≡ false → is_exchanged x ≡ false
    → do_log_step s x ≡ Some u → u.fault ≡ true → FirstFault s (x ∷ xs)
unfolding do_log_step is_exchanged store_word replay
set_at_once s u Issued xs f n h g = record {
  earlier = [];
  later = xs;
  run_is = refl;
  never_before = λ front rest e t k. none_before front rest e t k;
  always_after = grind (arith, replay-fault, same_Some);
}
  where
    none_before : (front rest : List LogStep) → [] ≡ front ++ rest → (t : State) → replay s front ≡ Some t
        → t.fault ≡ false
    none_before [] rest e t k = ap (λ (y : State). y.fault) (sym (same_Some s t k)) ∙ f
    none_before (y ∷ front) rest e t k = cc
set_at_once s u (Exchanged k) xs f n h g = cc
set_at_once s u (ReadAt a) xs f n h g =
    absurd (false≢true (sym f ∙ ap (λ (y : State). y.fault) (let_through (ltb a (length s.memory)) s u h) ∙ g))
set_at_once s u (Wrote a w) xs f n h g = grind arith

-- the first step doesn't set the fault flag
set_later : (s u : State) (x : LogStep) (xs : List LogStep) → s.fault ≡ false → do_log_step s x ≡ Some u
    → FirstFault u xs → FirstFault s (x ∷ xs)
unfolding replay
set_later s u x xs f h r = record {
  earlier = x ∷ r.earlier;
  later = r.later;
  run_is = ap (λ l. x ∷ l) r.run_is;
  never_before = λ front rest e t k. not_before front rest e t k;
  always_after = λ more q t k. r.always_after more q t (onward (r.earlier ++ Issued ∷ more) t k);
}
  where
    onward : (ys : List LogStep) (t : State) → option_and_then (λ v. replay v ys) (do_log_step s x) ≡ Some t
        → replay u ys ≡ Some t
    onward ys t k = sym (ap (λ o. option_and_then (λ v. replay v ys) o) h) ∙ k

    not_before : (front rest : List LogStep) → x ∷ r.earlier ≡ front ++ rest → (t : State) → replay s front ≡ Some t
        → t.fault ≡ false
    not_before [] rest e t k = ap (λ (y : State). y.fault) (sym (same_Some s t k)) ∙ f
    not_before (y ∷ front) rest e t k = grind arith

first_fault : (s : State) (xs : List LogStep) (t : State) → list_any is_exchanged xs ≡ false → replay s xs ≡ Some t
    → s.fault ≡ false → t.fault ≡ true → FirstFault s xs
unfolding replay
first_fault s [] t n h f g =
    absurd (false≢true (sym f ∙ ap (λ (y : State). y.fault) (same_Some s t h) ∙ g))
first_fault s (x ∷ xs) t n h f g =
    let p = or_parts (is_exchanged x) (list_any is_exchanged xs) n in
    after (do_log_step s x) refl (λ u k e. first_fault u xs t p.1 k e g) p.0 h
  where
    by_fault : (u : State) (b : Bool) → u.fault ≡ b → do_log_step s x ≡ Some u
        → (u.fault ≡ false → FirstFault u xs) → is_exchanged x ≡ false → FirstFault s (x ∷ xs)
    by_fault u true i e ih q = set_at_once s u x xs f q e i
    by_fault u false i e ih q = set_later s u x xs f e (ih i)

    after : (o : Option State) → do_log_step s x ≡ o
        → ((u : State) → replay u xs ≡ Some t → u.fault ≡ false → FirstFault u xs) → is_exchanged x ≡ false
        → option_and_then (λ u. replay u xs) o ≡ Some t → FirstFault s (x ∷ xs)
    after None e ih q k = cc
    after (Some u) e ih q k = by_fault u u.fault refl e (ih u k) q

-- ---- the run since the last exchange ----

exchanged_last : (xs : List LogStep) (n : ℕ) → ends_exchanged (xs ++ Exchanged n ∷ []) ≡ true
unfolding ends_exchanged is_exchanged
exchanged_last [] n = refl
exchanged_last (x ∷ []) n = refl
exchanged_last (x ∷ y ∷ xs) n = exchanged_last (y ∷ xs) n

no_exchange_more : (xs : List LogStep) (x : LogStep) → list_any is_exchanged xs ≡ false → is_exchanged x ≡ false
    → list_any is_exchanged (xs ++ x ∷ []) ≡ false
no_exchange_more [] x h k = or_false (is_exchanged x) ∙ k
no_exchange_more (y ∷ xs) x h k =
    let p = or_parts (is_exchanged y) (list_any is_exchanged xs) h in cc (no_exchange_more xs x p.1 k)

pub swap-no_fault : (n : ℕ) (s : State) → (swap n s).fault ≡ false
unfolding swap program_entered
swap-no_fault n s = refl

-- a log, split at its last exchange
record IsSplit (memory : List ℕ) (log : List LogStep) (s : State) : Type 0 where
  before : List LogStep
  start : State
  ends : ends_exchanged before ≡ true
  starts : replay (boot memory) before ≡ Some start
  no_fault : start.fault ≡ false
  run : List LogStep
  log_is : log ≡ before ++ run
  no_exchange : list_any is_exchanged run ≡ false
  leads : replay start run ≡ Some s

-- one more step, an exchange
split_exchange : (memory : List ℕ) (log : List LogStep) (s t : State) (n : ℕ) → IsSplit memory log s
    → do_log_step s (Exchanged n) ≡ Some t → IsSplit memory (log ++ Exchanged n ∷ []) t
unfolding replay do_log_step
split_exchange memory log s t n p h = record {
  before = log ++ Exchanged n ∷ [];
  start = t;
  ends = exchanged_last log n;
  starts = replay_more (boot memory) s log (Exchanged n)
      (ap (replay (boot memory)) p.log_is ∙ replay_on (boot memory) p.start p.before p.run p.starts ∙ p.leads) ∙ h;
  no_fault = grind (arith, let_through, swap-no_fault);
  run = [];
  log_is = sym (append-nil (log ++ Exchanged n ∷ []));
  no_exchange = refl;
  leads = refl;
}

-- one more step, an instruction or a peripheral access
split_other : (memory : List ℕ) (log : List LogStep) (s t : State) (x : LogStep) → IsSplit memory log s
    → do_log_step s x ≡ Some t → is_exchanged x ≡ false → IsSplit memory (log ++ x ∷ []) t
split_other memory log s t x p h n = grind (arith, no_exchange_more, replay_more, append_assoc)

split_more : (memory : List ℕ) (log : List LogStep) (s t : State) (x : LogStep) → IsSplit memory log s
    → do_log_step s x ≡ Some t → IsSplit memory (log ++ x ∷ []) t
unfolding is_exchanged
split_more memory log s t x p h = search (arith, split_other, split_exchange)

split_all : (memory : List ℕ) (log more : List LogStep) (s t : State) → IsSplit memory log s → replay s more ≡ Some t
    → IsSplit memory (log ++ more) t
unfolding replay
split_all memory log [] s t p h = subst₂ (IsSplit memory) (sym (append-nil log)) (same_Some s t h) p
split_all memory log (x ∷ xs) s t p h =
    after (do_log_step s x) refl (λ u q k. split_all memory (log ++ x ∷ []) xs u t q k) h
  where
    after : (o : Option State) → do_log_step s x ≡ o
        → ((u : State) → IsSplit memory (log ++ x ∷ []) u → replay u xs ≡ Some t
        → IsSplit memory ((log ++ x ∷ []) ++ xs) t) → option_and_then (λ u. replay u xs) o ≡ Some t
        → IsSplit memory (log ++ x ∷ xs) t
    after None e ih k = cc
    after (Some u) e ih k = grind (arith, split_more, append_assoc)

split_boot : (memory : List ℕ) → IsSplit memory [] (boot memory)
unfolding boot replay ends_exchanged
split_boot memory = record {
  before = [];
  start = boot memory;
  ends = refl;
  starts = refl;
  no_fault = refl;
  run = [];
  log_is = refl;
  no_exchange = refl;
  leads = refl;
}

-- ---- a fault stays in the machine ----

fault_found : {K : Type 0} (w : Processor) (o : Option (Found Pending K)) (f : Found Pending K → Processor)
    → ((x : Found Pending K) → (f x).state.fault ≡ true) → w.state.fault ≡ true → (after_found w o f).state.fault ≡ true
unfolding after_found
fault_found w None f h k = k
fault_found w (Some x) f h k = h x

fault_store : (w : Processor) (f : Found Pending Stage) (t : Stage) → w.state.fault ≡ true
    → (after_store w f t).state.fault ≡ true
unfolding after_store after_work
fault_store w f t h = grind (arith, write_and_jump-fault)

fault_accept : (w : Processor) (f : Found Pending Reference) (a : ℕ) (access : Access) → w.state.fault ≡ true
    → (after_accept w f a access).state.fault ≡ true
unfolding after_accept store_word
fault_accept w f a (LoadInto n) h = h
fault_accept w f a (StoreWord v) h = h

fault_issue : (w : Processor) (g : Fetched) → w.state.fault ≡ true → (after_issue w g).state.fault ≡ true
unfolding after_issue move_to halt_by
fault_issue w g h = grind arith

pub fault_after : (w : Processor) (e : Event) → is_exchange e ≡ false → w.state.fault ≡ true
    → (after w e).state.fault ≡ true
unfolding after is_exchange after_read after_finish after_return after_pp_read after_pp_write write store_word
fault_after w e n h = grind (arith, fault_issue, fault_found, fault_store, fault_accept)

-- the refusal of an issue while the fault flag is set
issue_at_fault : (w : Processor) → w.state.fault ≡ true → allowed w Issue ≡ Some (refusal_at_fault w.state.halt)
unfolding allowed tests_of issue_tests refusal_of refusal_at_fault
issue_at_fault w h = grind arith

-- ---- no exchange while the fault is set ----

-- while the fault flag is set, an allowed event other than an exchange adds only peripheral accesses to the log
accesses_alone : (w : Processor) (r : Option ℕ) (e : Event) → w.state.fault ≡ true → allowed w e ≡ None
    → is_exchange e ≡ false → list_all is_access (made_steps r e) ≡ true
unfolding made_steps is_exchange is_access
accesses_alone w r e f h n = grind (arith, issue_at_fault)

-- the log gains only peripheral accesses, and the fault flag stays set
abbrev StaysFaulted : Processor → Processor → Type 0
StaysFaulted w v = GainsAccesses w.log v.log × (v.state.fault ≡ true)

gains_nothing : (xs : List LogStep) → GainsAccesses xs xs
gains_nothing xs = record { more = []; accesses = refl; gained = sym (append-nil xs) }

all-append : {K : Type 0} (f : K → Bool) (xs ys : List K) → list_all f xs ≡ true → list_all f ys ≡ true
    → list_all f (xs ++ ys) ≡ true
all-append f [] ys h k = k
all-append f (x ∷ xs) ys h k =
    let p = and_parts (f x) (list_all f xs) h in cc (all-append f xs ys p.1 k)

gains_both : (xs ys zs : List LogStep) → GainsAccesses xs ys → GainsAccesses ys zs → GainsAccesses xs zs
gains_both xs ys zs g h = grind (arith, all-append, append_assoc)

fault_settled : (w : Processor) (e : Event) (a : Result Done Refusal) → w.state.fault ≡ true → IsAnswer w e a
    → exchanges e a ≡ false → StaysFaulted w (settled w e a)
unfolding settled exchanges
fault_settled w e (Ok done) f h n =
    let none = made_allowed w e done h in grind (arith, accesses_alone, books_after, fault_after)
fault_settled w e (Err k) f h n = (gains_nothing w.log, f)

pub fault_run : (w : Processor) (es : List Event) (given : List (Result Done Refusal)) → w.state.fault ≡ true
    → IsAnswered w es given → makes_no_exchange es given ≡ true → GainsAccesses w.log (settled_all w es given).log
    × ((settled_all w es given).state.fault ≡ true)
unfolding settled_all makes_no_exchange
fault_run w [] given f h n = (gains_nothing w.log, f)
fault_run w (e ∷ es) [] f h n = (gains_nothing w.log, f)
fault_run w (e ∷ es) (a ∷ given) f h n =
    let p = and_parts (not (exchanges e a)) (makes_no_exchange es given) n in
    let k = fault_settled w e a f h.0 (not-true (exchanges e a) p.0) in
    let r = fault_run (settled w e a) es given k.1 h.1 p.1 in search (arith, gains_both)

-- ---- the headline ----

run_log_from_boot : (memory : List ℕ) (budget : ℕ) (events : List Event) (given : List (Result Done Refusal))
    → (settled_all (boot_processor memory budget) events given).log ≡ log_of events given
unfolding boot_processor
run_log_from_boot memory budget events given = run_log (boot_processor memory budget) events given

boot_memory_from_boot : (memory : List ℕ) (budget : ℕ) (events : List Event) (given : List (Result Done Refusal))
    → (settled_all (boot_processor memory budget) events given).boot_memory ≡ memory
unfolding boot_processor
boot_memory_from_boot memory budget events given = run_boot (boot_processor memory budget) events given

-- in every reached machine, completing the pending instructions gives the replay of the log
run_from_boot : (memory : List ℕ) (budget : ℕ) (events : List Event) (given : List (Result Done Refusal))
    (w : Processor) → IsAnswered (boot_processor memory budget) events given
    → w ≡ settled_all (boot_processor memory budget) events given
    → replay (boot memory) (log_of events given) ≡ Some (completed w)
unfolding replayed
run_from_boot memory budget events given w h l =
    grind (arith, run_log_from_boot, boot_memory_from_boot, run_kept, boot_right)

faulted_run : (log : List LogStep) (memory : List ℕ) (t : State) → t.fault ≡ true → IsSplit memory log t
    → IsFaultedRun log memory t
faulted_run log memory t f p = grind (arith, first_fault)

-- every faulted state that is a replay of the log is on such a run
pub replay_faulted : (log : List LogStep) (memory : List ℕ) (t : State) → replay (boot memory) log ≡ Some t
    → t.fault ≡ true → IsFaultedRun log memory t
replay_faulted log memory t h f =
    faulted_run log memory t f (split_all memory [] log (boot memory) t (split_boot memory) h)

-- the word that a machine's read returns is the word of the completed state
read_done : (w : Processor) (a : ℕ) → allowed w (PpRead a) ≡ None
    → done_by w (PpRead a) ≡ Word (get_or (completed w).memory a 0)
unfolding done_by
read_done w a h = ap Word (completed_read w a h)

pub faithful : (memory : List ℕ) (budget : ℕ) (events : List Event) (given : List (Result Done Refusal))
    (w : Processor) → IsReached memory budget events given w → IsFaithful memory events given w
unfolding completed
faithful memory budget events given w r =
    let comes : replay (boot memory) (log_of events given) ≡ Some (completed w) =
    run_from_boot memory budget events given (without_seats w) r.answered r.left in
    grind (
      arith,
      drained_completed,
      run_log_from_boot,
      boot_memory_from_boot,
      read_done,
      replay_faulted,
      issue_at_fault,
      fault_after,
    )
