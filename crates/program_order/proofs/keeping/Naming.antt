-- Each refusal is one that its event may have.
use Rattle.std.proofs.Common.{◌≡◌, Bool, true, false, ◌||◌, List, [], ◌∷◌, Option, Some, None, refl, arith}
use Rattle.std.specs.Prelude.{Result, Err, IfErr}
use Rattle.instructions.specs.declared.refusal.Refusal.{Refusal}
use Rattle.instructions.specs.declared.refusal.Refusal.TheVariants.{OutOfMemory}
use Rattle.sequential.specs.declared.fetching.Fetched.{Fetched}
use Rattle.program_order.specs.declared.event.Done.{Done}
use Rattle.program_order.specs.declared.event.Event.{Event}
use Rattle.program_order.specs.declared.event.Event.TheVariants.{Issue, Read, Finish, Store, Accept, Return, BankFree}
use Rattle.program_order.specs.declared.event.Event.TheVariants.{Ask, Exchange, PpRead, PpWrite}
use Rattle.in_flight.specs.declared.pending.Pending.{Pending}
use Rattle.in_flight.specs.declared.pending.Stage.{Stage}
use Rattle.instructions.specs.Each.{Each}
use Rattle.program_order.specs.Refusals.{is_accept_refusal, is_access_refusal, is_ask_refusal, is_exchange_refusal}
use Rattle.program_order.specs.Refusals.{is_issue_refusal}
use Rattle.program_order.specs.Refusals.{is_nothing, is_read_refusal, is_return_refusal, is_store_refusal, may_refuse}
use Rattle.program_order.specs.Run.{IsAnswer, answer_by, answer_of, makes_room}
use Rattle.instructions.specs.Finding.{Found, seek}
use Rattle.in_flight.specs.Tests.{Test, accept_tests, free_tests, nothing, read_tests, refusal_of, return_tests}
use Rattle.in_flight.specs.Tests.{reservation_tests, tests_found}
use Rattle.program_order.specs.Processor.{Processor}
use Rattle.program_order.specs.Events.{allowed, tests_of}
use Rattle.program_order.specs.Exchange.{ask_tests, exchange_tests}
use Rattle.program_order.specs.Peripheral.{access_tests}
use Rattle.program_order.specs.Units.{finish_tests, store_tests}
use Rattle.program_order.specs.Issue.{issue_tests}
use Rattle.in_flight.specs.Lookup.{stage_at}
use Rattle.sequential.specs.State.{Bounds, bounds_of}
use Rattle.program_order.proofs.Opened.{refusals_by_event}

-- a refusal by a list of tests is the refusal of one of the tests
pub one_of : (p : Refusal → Bool) (ts : List Test) (k : Refusal) → Each (λ t. p t.refusal ≡ true) ts
    → refusal_of ts ≡ Some k → p k ≡ true
unfolding refusal_of
one_of p [] k h e = cc
one_of p (t ∷ ts) k h e = grind (arith, one_of p ts k h.1)

-- if no instruction is found, the refusal is `Nothing`
found_one_of : {K : Type 0} (p : Refusal → Bool) (o : Option (Found Pending K)) (f : Found Pending K → List Test)
    (k : Refusal) → ((x : Found Pending K) → Each (λ t. (is_nothing t.refusal || p t.refusal) ≡ true) (f x))
    → refusal_of (tests_found o f) ≡ Some k → (is_nothing k || p k) ≡ true
unfolding tests_found nothing is_nothing
found_one_of p None f k h e = one_of (λ r. is_nothing r || p r) nothing k (refl, tt) e
found_one_of p (Some x) f k h e = one_of (λ r. is_nothing r || p r) (f x) k (h x) e

reservation_named : (ms : List Pending) (f : Fetched)
    → Each (λ t. is_issue_refusal t.refusal ≡ true) (reservation_tests ms f)
unfolding reservation_tests is_issue_refusal
reservation_named ms f = grind arith

read_named : (t : Stage) (x : Found Pending Stage)
    → Each (λ t. (is_nothing t.refusal || is_read_refusal t.refusal) ≡ true) (read_tests t x.earlier x.item.instr)
unfolding read_tests nothing is_nothing is_read_refusal
read_named t x = grind arith

finish_named : (t : Stage) → Each (λ t. (is_nothing t.refusal || false) ≡ true) (finish_tests t)
unfolding finish_tests nothing is_nothing
finish_named t = grind arith

store_named : (b : Bounds) (ms : List Pending) (t : Stage) (x : Found Pending Stage)
    → Each (λ t. (is_nothing t.refusal || is_store_refusal t.refusal) ≡ true)
    (store_tests b ms t x.earlier x.item.instr)
unfolding store_tests nothing is_nothing is_store_refusal
store_named b ms t x = grind arith

or_false : (b : Bool) → (b || false) ≡ true → b ≡ true
or_false true h = refl
or_false false h = cc

pub refusal_named : (w : Processor) (e : Event) (k : Refusal) → allowed w e ≡ Some k → may_refuse e k ≡ true
unfolding refusals_by_event allowed tests_of issue_tests accept_tests return_tests free_tests ask_tests exchange_tests
    access_tests
refusal_named w Issue k h = one_of is_issue_refusal (issue_tests w.state w.pending w.request w.budget _) k
    (refl, (refl, (refl, (refl, (refl, (refl, reservation_named w.pending _)))))) h
refusal_named w (Read u) k h =
    found_one_of is_read_refusal (seek (stage_at u) w.pending) _ k (λ x. read_named x.answer x) h
refusal_named w (Finish u) k h =
    or_false (is_nothing k) (found_one_of (λ r. false) (seek (stage_at u) w.pending) _ k (λ x. finish_named x.answer) h)
refusal_named w (Store u) k h =
    found_one_of is_store_refusal (seek (stage_at u) w.pending) _ k
    (λ x. store_named (bounds_of w.state) w.pending x.answer x) h
refusal_named w (Accept p) k h = found_one_of is_accept_refusal _ _ k (λ x. (refl, (refl, tt))) h
refusal_named w (Return c) k h = found_one_of is_return_refusal _ _ k (λ x. (refl, tt)) h
refusal_named w (BankFree b) k h = one_of is_nothing (free_tests w.busy b) k (refl, tt) h
refusal_named w (Ask n) k h = one_of is_ask_refusal (ask_tests w.asked w.request _ n) k (refl, (refl, (refl, tt))) h
refusal_named w Exchange k h =
    one_of is_exchange_refusal (exchange_tests w.request w.pending w.state) k (refl, (refl, (refl, tt))) h
refusal_named w (PpRead a) k h =
    one_of is_access_refusal (access_tests w.accessed w.pending _ a) k (refl, (refl, (refl, tt))) h
refusal_named w (PpWrite a v) k h =
    one_of is_access_refusal (access_tests w.accessed w.pending _ a) k (refl, (refl, (refl, tt))) h

-- only an event that needs room in the log can be refused for want of memory
room_named : (e : Event) → makes_room e ≡ true → may_refuse e OutOfMemory ≡ true
unfolding makes_room may_refuse is_ask_refusal is_access_refusal
room_named e h = grind arith

err_inj : (k : Refusal) → ◌≡◌ {A = Result Done Refusal} (Err k) (Err OutOfMemory) → OutOfMemory ≡ k
err_inj k i = cc

pub answered_err : (d : Done) (o : Option Refusal) (k : Refusal) → Err k ≡ answer_by d o → o ≡ Some k
unfolding answer_by
answered_err d None k e = cc
answered_err d (Some x) k e = cc

pub answer_named : (w : Processor) (e : Event) (a : Result Done Refusal) → IsAnswer w e a
    → IfErr a (λ k. may_refuse e k ≡ true)
unfolding answer_of answer_by
answer_named w e a h = grind (arith, refusal_named, answered_err, err_inj, room_named)
