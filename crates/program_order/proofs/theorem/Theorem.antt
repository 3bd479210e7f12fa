-- Each event keeps the pending instructions apart, and keeps the completed state the replay of the log.
use Rattle.std.proofs.Common.{Bool, ◌≡◌, ℕ, false, List, [], ◌∷◌, ◌++◌, Option, Some, None, cond, refl, sym, ap, ◌∙◌}
use Rattle.std.proofs.Common.{subst, length, true, not, ltb, get_or, arith}
use Rattle.std.specs.Prelude.{is_some, Result, Ok, Err}
use Rattle.std.proofs.lemmas.List.{length-set}
use Rattle.std.specs.List.{list_any}
use Rattle.std.proofs.lemmas.Bool.{not-false}
use Rattle.program_order.proofs.effects.Effects.{write_and_jump-bounds}
use Rattle.program_order.proofs.effects.Completing.{each_no_branch, complete-bounds, complete-move, complete-store_word}
use Rattle.program_order.proofs.effects.Completing.{complete-word}
use Rattle.program_order.proofs.theorem.Apart.{untouched_by_access, unstored_by_access}
use Rattle.in_flight.proofs.asking.Finding.{refusal_none, not_nothing, stage_found, entry_found, arrival_found}
use Rattle.instructions.proofs.Finding.{seek_splits}
use Rattle.program_order.proofs.theorem.Events.{IsKept, read_event, finish_event, store_event, accept_load_event}
use Rattle.program_order.proofs.theorem.Events.{accept_store_event, return_event}
use Rattle.program_order.proofs.theorem.Issuing.{step-complete, issue_halting, issue_taking, new_apart, replay_more}
use Rattle.instructions.specs.Shape.{shape_of}
use Rattle.instructions.specs.Operands.{sources_of}
use Rattle.instructions.specs.declared.instr.Instr.{Instr}
use Rattle.instructions.specs.declared.refusal.Refusal.{Refusal}
use Rattle.instructions.specs.Each.{Each, Pairs}
use Rattle.in_flight.specs.Pending.{awaited, delays_access, has_turn, is_branch}
use Rattle.program_order.specs.Complete.{complete}
use Rattle.program_order.specs.Invariant.{Fits, IsReplay, IsSound}
use Rattle.in_flight.specs.Apart.{IsApart}
use Rattle.instructions.specs.declared.instr.Unit.{Unit as FunctionalUnit}
use Rattle.in_flight.specs.declared.pending.Arrival.{Arrival}
use Rattle.program_order.specs.declared.event.Done.{Done}
use Rattle.program_order.specs.Run.{answer_by, answer_of, IsAnswer, settled, IsAnswered, settled_all}
use Rattle.sequential.specs.Log.{issued}
use Rattle.instructions.specs.Finding.{Found, put_back, seek}
use Rattle.program_order.specs.Exchange.{ask_tests, exchange_tests, after_exchange}
use Rattle.program_order.specs.Peripheral.{access_tests, after_pp_read, after_pp_write, word_read}
use Rattle.program_order.specs.Processor.{Processor, boot_processor, completed, replayed}
use Rattle.program_order.specs.Events.{after, after_found, allowed, tests_of}
use Rattle.program_order.specs.Memory.{after_accept, after_return}
use Rattle.program_order.specs.Units.{after_finish, after_read, after_store, after_work, finish_tests, store_tests}
use Rattle.program_order.specs.Issue.{after_issue, issue_tests}
use Rattle.in_flight.specs.Tests.{free_tests, accept_tests, read_tests, refusal_of, return_tests, reservation_tests}
use Rattle.in_flight.specs.Tests.{tests_found}
use Rattle.in_flight.specs.Lookup.{arrival_at, entry_at, is_pending, stage_at}
use Rattle.program_order.specs.declared.event.Event.{Event}
use Rattle.program_order.specs.declared.event.Event.TheVariants.{Accept, Ask, BankFree, Exchange, Finish, Issue, Read}
use Rattle.program_order.specs.declared.event.Event.TheVariants.{Return, Store as StoreResult, PpRead, PpWrite}
use Rattle.hopper.specs.declared.reference.Reference.{Reference}
use Rattle.in_flight.specs.declared.pending.Outstanding.TheVariants.{Entered}
use Rattle.in_flight.specs.declared.pending.Pending.{Pending}
use Rattle.in_flight.specs.declared.pending.Phase.TheVariants.{After, Before}
use Rattle.in_flight.specs.declared.pending.Stage.{Stage}
use Rattle.in_flight.specs.declared.pending.Stage.TheVariants.{Finished, Read as HasRead, Unread}
use Rattle.relocation.specs.declared.area.Access.{Access}
use Rattle.relocation.specs.declared.area.Access.TheVariants.{Load as LoadInto, Store as StoreWord}
use Rattle.sequential.specs.Replay.{Exchanged, Issued, ReadAt, Wrote, boot, do_log_step, replay}
use Rattle.sequential.specs.State.{Bounds, bounds_of, halt_by, move_to, store_word, write}
use Rattle.sequential.specs.Step.{do_fetched, fetch, step}
use Rattle.sequential.specs.Swap.{swap}
use Rattle.sequential.specs.Work.{work_of}
use Rattle.sequential.specs.declared.fetching.Fetched.{Fetched}
use Rattle.sequential.specs.declared.fetching.Fetched.TheVariants.{Halting, Passing, Taking}
use Rattle.sequential.specs.declared.state.State.{State}

abbrev pub IsRight : Processor → Type 0
IsRight w = IsSound w × IsReplay w

from_kept : (w w' : Processor) (ms : List Pending) → w.pending ≡ ms
    → IsKept (bounds_of w.state) w.state w'.state ms w'.pending → bounds_of w'.state ≡ bounds_of w.state
    → replayed w' ≡ replayed w → w'.request ≡ w.request → IsRight w → IsRight w'
unfolding completed bounds_of
from_kept w w' ms e k eb er eq r = grind arith

-- ---- read ----

read_allowed : (t : Stage) (es : List Pending) (i : Instr) → refusal_of (read_tests t es i) ≡ None
    → list_any (awaited es) (sources_of i) ≡ false
unfolding read_tests
read_allowed Unread es i h = (refusal_none _ h).0
read_allowed (HasRead os) es i h = absurd (not_nothing h)
read_allowed (Finished v) es i h = absurd (not_nothing h)

read_kept : (w : Processor) (u : FunctionalUnit) (o : Option (Found Pending Stage)) → seek (stage_at u) w.pending ≡ o
    → refusal_of (tests_found o (λ f. read_tests f.answer f.earlier f.item.instr)) ≡ None → IsRight w
    → IsRight (after_found w o (after_read w))
unfolding tests_found after_found after_read put_back replayed
read_kept w u None e h r = absurd (not_nothing h)
read_kept w u (Some f) e h r =
    let p = seek_splits (stage_at u) w.pending f e in
    from_kept w _ _ p.0
    (read_event (bounds_of w.state) w.state f.earlier f.item f.later f.answer (stage_found u f.item f.answer p.1)
    (read_allowed f.answer f.earlier f.item.instr h) (subst (Pairs IsApart) p.0 r.0.apart))
    refl refl refl r

-- ---- finish ----

finish_kept : (w : Processor) (u : FunctionalUnit) (o : Option (Found Pending Stage)) → seek (stage_at u) w.pending ≡ o
    → refusal_of (tests_found o (λ f. finish_tests f.answer)) ≡ None → IsRight w
    → IsRight (after_found w o (after_finish w))
unfolding tests_found after_found after_finish put_back replayed
finish_kept w u None e h r = absurd (not_nothing h)
finish_kept w u (Some f) e h r =
    let p = seek_splits (stage_at u) w.pending f e in
    from_kept w _ _ p.0
    (finish_event (bounds_of w.state) w.state f.earlier f.item f.later f.answer (stage_found u f.item f.answer p.1)
    (subst (Pairs IsApart) p.0 r.0.apart))
    refl refl refl r

-- ---- store ----

store_at : (w : Processor) (f : Found Pending Stage) (t : Stage) → w.pending ≡ f.earlier ++ f.item ∷ f.later
    → f.item.phase ≡ Before t → refusal_of (store_tests (bounds_of w.state) w.pending t f.earlier f.item.instr)
    ≡ None → IsRight w → IsRight (after_store w f t)
unfolding has_turn store_tests after_store after_work put_back replayed
store_at w f Unread s e h r = absurd (not_nothing h)
store_at w f (HasRead os) s e h r = absurd (not_nothing h)
store_at w f (Finished v) s e h r =
    let t = refusal_none _ h in
    from_kept w _ _ s
    (store_event (bounds_of w.state) w.state f.earlier f.item f.later v _ e t.0 t.1.1.0
    (subst (Pairs IsApart) s r.0.apart))
    (write_and_jump-bounds (bounds_of w.state) w.state (work_of (shape_of f.item.instr) v)) refl refl r

store_kept : (w : Processor) (u : FunctionalUnit) (o : Option (Found Pending Stage)) → seek (stage_at u) w.pending ≡ o
    → refusal_of (tests_found o (λ f. store_tests (bounds_of w.state) w.pending f.answer f.earlier f.item.instr))
    ≡ None → IsRight w → IsRight (after_found w o (λ f. after_store w f f.answer))
unfolding tests_found after_found
store_kept w u o e h r = search (arith, not_nothing, seek_splits, store_at, stage_found)

-- ---- accept ----

store_word-bounds : (s : State) (a v : ℕ) → bounds_of (store_word s a v) ≡ bounds_of s
unfolding bounds_of store_word
store_word-bounds s a v = ap (λ n. record { area = s.area; size = n }) (length-set s.memory a v)

accept_at : (w : Processor) (f : Found Pending Reference) (slot a : ℕ) (access : Access) (busy : List Bool)
    → w.pending ≡ f.earlier ++ f.item ∷ f.later → f.item.phase ≡ After (Entered slot a access)
    → refusal_of (accept_tests busy f.earlier (record { address = a; access = access })) ≡ None → IsRight w
    → IsRight (after_accept w f a access)
unfolding accept_tests after_accept put_back replayed
accept_at w f slot a (LoadInto n) busy s e h r =
    from_kept w _ _ s
    (accept_load_event (bounds_of w.state) w.state f.earlier f.item f.later slot a n e (refusal_none _ h).1.0
    (subst (Pairs IsApart) s r.0.apart))
    refl refl refl r
accept_at w f slot a (StoreWord v) busy s e h r =
    from_kept w _ _ s
    (accept_store_event (bounds_of w.state) w.state f.earlier f.item f.later slot a v e (refusal_none _ h).1.0
    (subst (Pairs IsApart) s r.0.apart))
    (store_word-bounds w.state a v) refl refl r

accept_kept : (w : Processor) (p : ℕ) (o : Option (Found Pending Reference)) → seek (entry_at p) w.pending ≡ o
    → refusal_of (tests_found o (λ f. accept_tests w.busy f.earlier f.answer)) ≡ None → IsRight w
    → IsRight (after_found w o (λ f. after_accept w f f.answer.address f.answer.access))
unfolding tests_found after_found
accept_kept w p None e h r = absurd (not_nothing h)
accept_kept w p (Some f) e h r =
    let q = seek_splits (entry_at p) w.pending f e in
    let k = entry_found p f.item f.answer q.1 in search (arith, accept_at)

-- ---- return ----

return_kept : (w : Processor) (c : ℕ) (o : Option (Found Pending Arrival)) → seek (arrival_at c) w.pending ≡ o
    → refusal_of (tests_found o (λ f. return_tests f.earlier f.answer)) ≡ None → IsRight w
    → IsRight (after_found w o (after_return w))
unfolding tests_found after_found after_return return_tests put_back replayed bounds_of write
return_kept w c None e h r = absurd (not_nothing h)
return_kept w c (Some f) e h r =
    let q = seek_splits (arrival_at c) w.pending f e in
    from_kept w _ _ q.0
    (return_event (bounds_of w.state) w.state f.earlier f.item f.later f.answer.channel f.answer.word
    (arrival_found c f.item f.answer q.1) (refusal_none _ h).0 (subst (Pairs IsApart) q.0 r.0.apart))
    refl refl refl r

-- ---- issue ----

pub is_some_none : {K : Type 0} (o : Option K) → is_some o ≡ false → o ≡ None
is_some_none None h = refl
is_some_none (Some x) h = cc

issue_completed : (w : Processor) (g : Fetched) → list_any is_branch w.pending ≡ false
    → completed (after_issue w g) ≡ do_fetched (bounds_of w.state) (completed w) w.state.position.p g
unfolding completed after_issue do_fetched bounds_of move_to halt_by
issue_completed w g nb = grind (arith, issue_halting, complete-move, each_no_branch, issue_taking)

issue_sound : (w : Processor) (g : Fetched) → list_any is_branch w.pending ≡ false
    → Each (λ t. t.fails ≡ false) (reservation_tests w.pending g) → IsSound w → IsSound (after_issue w g)
unfolding after_issue reservation_tests move_to halt_by
issue_sound w g nb h s = grind (arith, new_apart)

issue_replayed : (w : Processor) (g : Fetched) (t : State) → replayed w ≡ Some t
    → replayed (after_issue w g) ≡ Some (step t)
unfolding replayed after_issue do_log_step
issue_replayed w (Halting k place) t h = replay_more _ t w.log Issued h
issue_replayed w (Passing place) t h = replay_more _ t w.log Issued h
issue_replayed w (Taking i place) t h = replay_more _ t w.log Issued h

issue_kept : (w : Processor) → refusal_of (issue_tests w.state w.pending w.request w.budget (issued w.log)) ≡ None
    → IsRight w → IsRight (after_issue w (fetch (bounds_of w.state) w.state.memory w.state.position))
unfolding issue_tests completed
issue_kept w h r =
    let t = refusal_none _ h in
    let g = fetch (bounds_of w.state) w.state.memory w.state.position in
    let nb = t.1.1.1.0 in (
      grind (arith, issue_sound),
      issue_replayed w g _ r.1
          ∙ ap Some (grind (arith, step-complete, is_some_none, issue_completed)),
    )

-- ---- exchange ----

pub not_pending : (ms : List Pending) → is_pending ms ≡ false → ms ≡ []
unfolding is_pending
not_pending [] h = refl
not_pending (m ∷ ms) h = cc

complete_none : (b : Bounds) (s : State) (ms : List Pending) → ms ≡ [] → complete b s ms ≡ s
unfolding complete
complete_none b s ms e = ap (complete b s) e

-- a drained machine is its completed state
pub drained_completed : (w : Processor) → w.pending ≡ [] → completed w ≡ w.state
unfolding completed
drained_completed w e = complete_none (bounds_of w.state) w.state w.pending e

exchange_at : (w : Processor) (o : Option ℕ) → w.pending ≡ [] → Fits o (length w.state.memory) → IsRight w
    → IsRight (after_exchange w o)
unfolding after_exchange replayed do_log_step
exchange_at w None e f r = r
exchange_at w (Some n) e f r = (
  grind arith,
  replay_more _ w.state w.log (Exchanged n) (r.1 ∙ ap Some (drained_completed w e))
      ∙ ap (λ b. cond b (Some (swap n w.state)) None) f
      ∙ ap Some (sym (drained_completed _ e)),
)

-- ---- peripheral access ----

within : (a n : ℕ) → not (ltb a n) ≡ false → ltb a n ≡ true
within a n h = not-false _ h

-- the completed memory has the same size
completed_within : (w : Processor) (a : ℕ) → not (ltb a (length w.state.memory)) ≡ false
    → ltb a (length (completed w).memory) ≡ true
unfolding completed bounds_of
completed_within w a h = grind (arith, complete-bounds, within)

-- a write gives the same state before and after all pending instructions
completed_write : (w : Processor) (a v : ℕ) → list_any (delays_access a) w.pending ≡ false
    → completed (after_pp_write w a v) ≡ store_word (completed w) a v
unfolding completed after_pp_write
completed_write w a v h = simp (store_word-bounds, complete-store_word, untouched_by_access)

-- a word that is read is the word of the completed memory
pub completed_read : (w : Processor) (a : ℕ) → allowed w (PpRead a) ≡ None
    → word_read w a ≡ get_or (completed w).memory a 0
unfolding allowed tests_of access_tests completed word_read
completed_read w a h =
    sym (complete-word (bounds_of w.state) w.state w.pending a
    (unstored_by_access w.pending a (refusal_none _ h).1.0))

pp_read_kept : (w : Processor) (a : ℕ) → allowed w (PpRead a) ≡ None → IsRight w → IsRight (after_pp_read w a)
unfolding allowed tests_of access_tests after_pp_read completed replayed do_log_step
pp_read_kept w a h r = (
  grind arith,
  replay_more _ (completed w) w.log (ReadAt a) r.1
      ∙ ap (λ b. cond b (Some (completed w)) None) (completed_within w a (refusal_none _ h).1.1.0),
)

pp_write_kept : (w : Processor) (a v : ℕ) → allowed w (PpWrite a v) ≡ None → IsRight w
    → IsRight (after_pp_write w a v)
unfolding allowed tests_of access_tests after_pp_write replayed do_log_step bounds_of
pp_write_kept w a v h r = (
  grind (arith, store_word-bounds),
  replay_more _ (completed w) w.log (Wrote a v) r.1
      ∙ ap (λ b. cond b (Some (store_word (completed w) a v)) None) (completed_within w a (refusal_none _ h).1.1.0)
      ∙ ap Some (sym (completed_write w a v (refusal_none _ h).1.0)),
)

-- ---- any event ----

pub event_kept : (w : Processor) (e : Event) → allowed w e ≡ None → IsRight w → IsRight (after w e)
unfolding allowed tests_of after completed replayed ask_tests exchange_tests free_tests
event_kept w Issue h r = issue_kept w h r
event_kept w (Read u) h r = read_kept w u (seek (stage_at u) w.pending) refl h r
event_kept w (Finish u) h r = finish_kept w u (seek (stage_at u) w.pending) refl h r
event_kept w (StoreResult u) h r = store_kept w u (seek (stage_at u) w.pending) refl h r
event_kept w (Accept p) h r = accept_kept w p (seek (entry_at p) w.pending) refl h r
event_kept w (Return c) h r = return_kept w c (seek (arrival_at c) w.pending) refl h r
event_kept w (BankFree k) h r = (record { apart = r.0.apart; request_fits = r.0.request_fits }, r.1)
event_kept w (Ask n) h r = (record { apart = r.0.apart; request_fits = not-false _ (refusal_none _ h).1.1.0 }, r.1)
event_kept w Exchange h r = exchange_at w w.request (not_pending w.pending (refusal_none _ h).1.0) r.0.request_fits r
event_kept w (PpRead a) h r = pp_read_kept w a h r
event_kept w (PpWrite a v) h r = pp_write_kept w a v h r

not_refused : (d done : Done) (r : Refusal) → Ok done ≡ answer_by d (Some r) → ⊥
unfolding answer_by
not_refused d done r k = cc

-- an answer `Ok` is given only if no test fails
pub made_allowed : (w : Processor) (e : Event) (done : Done) → IsAnswer w e (Ok done) → allowed w e ≡ None
unfolding answer_of
made_allowed w e done h = grind (arith, not_refused)

pub settled_kept : (w : Processor) (e : Event) (a : Result Done Refusal) → IsAnswer w e a → IsRight w
    → IsRight (settled w e a)
unfolding settled
settled_kept w e (Ok done) h r = event_kept w e (made_allowed w e done h) r
settled_kept w e (Err k) h r = r

pub run_kept : (w : Processor) (es : List Event) (given : List (Result Done Refusal)) → IsAnswered w es given
    → IsRight w → IsRight (settled_all w es given)
unfolding settled_all
run_kept w [] given h r = r
run_kept w (e ∷ es) [] h r = r
run_kept w (e ∷ es) (a ∷ given) h r = run_kept (settled w e a) es given h.1 (settled_kept w e a h.0 r)

pub boot_right : (memory : List ℕ) (budget : ℕ) → IsRight (boot_processor memory budget)
unfolding boot_processor completed replayed complete replay
boot_right memory budget = (record { apart = tt; request_fits = tt }, refl)

-- a drained machine's state is the replay of its log
pub drained_replay : (w : Processor) → IsRight w → w.pending ≡ [] → replay (boot w.boot_memory) w.log ≡ Some w.state
unfolding replayed
drained_replay w r e = r.1 ∙ ap Some (drained_completed w e)
