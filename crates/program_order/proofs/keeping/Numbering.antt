-- Reservations are numbered along the log: an event keeps the last number, and an issue answers with the next one.
use Rattle.std.proofs.Common.{◌≡◌, ◌+◌, ℕ, true, false, List, [], ◌∷◌, ◌++◌, Option, Some, None, refl, sym}
use Rattle.std.proofs.Common.{ap, ◌∙◌, subst, arith, inl, inr}
use Rattle.std.specs.Prelude.{unwrap_or, Result, Ok}
use Rattle.std.specs.List.{list_any}
use Rattle.instructions.specs.declared.instr.Instr.{Instr}
use Rattle.instructions.specs.declared.instr.Unit.TheVariants.{Branch}
use Rattle.instructions.specs.declared.refusal.Refusal.{Refusal}
use Rattle.instructions.specs.Each.{Each}
use Rattle.instructions.specs.Finding.{Found}
use Rattle.instructions.specs.Operands.{uses}
use Rattle.relocation.specs.declared.area.Access.{Access}
use Rattle.relocation.specs.declared.area.Access.TheVariants.{Load as LoadInto, Store as StoreWord}
use Rattle.scoreboard.specs.Units.{may_take}
use Rattle.sequential.specs.declared.fetching.Fetched.{Fetched}
use Rattle.sequential.specs.declared.fetching.Fetched.TheVariants.{Halting, Passing, Taking}
use Rattle.sequential.specs.declared.position.ProgramPosition.{ProgramPosition}
use Rattle.sequential.specs.declared.state.State.{State}
use Rattle.sequential.specs.Replay.{LogStep, Issued, Exchanged, ReadAt, Wrote, boot}
use Rattle.sequential.specs.State.{bounds_of}
use Rattle.sequential.specs.Step.{fetch}
use Rattle.sequential.specs.UnitIssues.{taken_by, taken_unless, taken_in, one_for, taken_at, taken}
use Rattle.sequential.proofs.UnitIssues.{taken-push}
use Rattle.hopper.specs.declared.reference.Reference.{Reference}
use Rattle.in_flight.specs.declared.pending.Pending.{Pending}
use Rattle.in_flight.specs.declared.pending.Stage.{Stage}
use Rattle.in_flight.specs.Pending.{is_branch}
use Rattle.in_flight.specs.Tests.{reservation_tests, unit_for}
use Rattle.in_flight.proofs.asking.Finding.{refusal_none}
use Rattle.program_order.specs.declared.event.Done.{Done}
use Rattle.program_order.specs.declared.event.Done.TheVariants.{Issued as DoneIssue}
use Rattle.program_order.specs.declared.event.Event.{Event}
use Rattle.program_order.specs.declared.event.Event.TheVariants.{Issue, Read, Finish, Store as StoreResult, Accept}
use Rattle.program_order.specs.declared.event.Event.TheVariants.{Return, BankFree, Ask, Exchange, PpRead, PpWrite}
use Rattle.program_order.specs.declared.event.Note.{Note}
use Rattle.program_order.specs.Events.{after, after_found, allowed, tests_of}
use Rattle.program_order.specs.Exchange.{after_exchange}
use Rattle.program_order.specs.Peripheral.{after_pp_read, after_pp_write}
use Rattle.program_order.specs.Issue.{after_issue, fetch_waits, issue_tests}
use Rattle.program_order.specs.Memory.{after_accept, after_return}
use Rattle.program_order.specs.Processor.{Processor, boot_processor, completed, replayed}
use Rattle.program_order.specs.Run.{IsAnswer, answer_by, answer_of, done_by, note_by, settled}
use Rattle.program_order.specs.Invariant.{IsReplay}
use Rattle.program_order.specs.Telling.{IsNumbered, IsNoted}
use Rattle.program_order.specs.Units.{after_finish, after_read, after_store, after_work}
use Rattle.program_order.proofs.effects.Completing.{complete-bounds, complete-halted, complete-position, each_no_branch}
use Rattle.program_order.proofs.keeping.Slotted.{unit_found}
use Rattle.program_order.proofs.theorem.Issuing.{fetch-same}
use Rattle.program_order.proofs.theorem.Theorem.{is_some_none, made_allowed}

-- the completed state makes the same reservations as the present state
taken_completed : (w : Processor) → w.state.halt ≡ None → list_any is_branch w.pending ≡ false
    → fetch_waits (bounds_of w.state) w.state.position w.pending ≡ false
    → taken_in (completed w) ≡ taken_by (fetch (bounds_of w.state) w.state.memory w.state.position)
unfolding taken_in taken_unless completed
taken_completed w h nb f =
    grind (arith, complete-halted, complete-bounds, complete-position, each_no_branch, fetch-same)

-- ---- every event ----

numbers_found : {K : Type 0} (w : Processor) (o : Option (Found Pending K)) (f : Found Pending K → Processor)
    → ((x : Found Pending K) → IsNumbered (f x)) → IsNumbered w → IsNumbered (after_found w o f)
unfolding after_found
numbers_found w None f h k = k
numbers_found w (Some x) f h k = h x

numbers_store : (w : Processor) (f : Found Pending Stage) (t : Stage) → IsNumbered w → IsNumbered (after_store w f t)
unfolding after_store after_work
numbers_store w f t h = grind arith

numbers_accept : (w : Processor) (f : Found Pending Reference) (a : ℕ) (access : Access) → IsNumbered w
    → IsNumbered (after_accept w f a access)
unfolding after_accept
numbers_accept w f a (LoadInto n) h = h
numbers_accept w f a (StoreWord v) h = h

-- after one more step that is no instruction
numbers_step : (w : Processor) (x : LogStep) → ((s : State) → taken_at s x ≡ 0) → IsReplay w → IsNumbered w
    → w.last ≡ taken (boot w.boot_memory) (w.log ++ x ∷ [])
unfolding replayed
numbers_step w x z r h = grind (arith, taken-push (boot w.boot_memory) (completed w) w.log x r)

numbers_exchange : (w : Processor) (o : Option ℕ) → IsReplay w → IsNumbered w → IsNumbered (after_exchange w o)
unfolding after_exchange taken_at
numbers_exchange w None r h = h
numbers_exchange w (Some n) r h = numbers_step w (Exchanged n) (λ s. refl) r h

-- after one more issue
issued_count : (w : Processor) (g : Fetched) → IsReplay w → taken_in (completed w) ≡ taken_by g
    → taken (boot w.boot_memory) (w.log ++ Issued ∷ []) ≡ taken (boot w.boot_memory) w.log + one_for (taken_by g)
unfolding replayed taken_at
issued_count w g r t = cc (taken-push (boot w.boot_memory) (completed w) w.log Issued r)

numbers_issue : (w : Processor) (g : Fetched) → IsReplay w → IsNumbered w → taken_in (completed w) ≡ taken_by g
    → IsNumbered (after_issue w g)
unfolding after_issue taken_by one_for
numbers_issue w (Halting halt position) r h t = let e = issued_count w (Halting halt position) r t in omega
    (arith, e, h)
numbers_issue w (Passing position) r h t = let e = issued_count w (Passing position) r t in omega (arith, e, h)
numbers_issue w (Taking i position) r h t = let e = issued_count w (Taking i position) r t in omega (arith, e, h)

issue_taken : (w : Processor) → allowed w Issue ≡ None
    → taken_in (completed w) ≡ taken_by (fetch (bounds_of w.state) w.state.memory w.state.position)
unfolding allowed tests_of issue_tests
issue_taken w h =
    let t = refusal_none _ h in grind (arith, taken_completed, is_some_none)

pub numbers_kept : (w : Processor) (e : Event) → allowed w e ≡ None → IsReplay w → IsNumbered w
    → IsNumbered (after w e)
unfolding after after_read after_finish after_return after_pp_read after_pp_write taken_at
numbers_kept w Issue a r h = numbers_issue w _ r h (issue_taken w a)
numbers_kept w (Read u) a r h = numbers_found w _ _ (λ f. h) h
numbers_kept w (Finish u) a r h = numbers_found w _ _ (λ f. h) h
numbers_kept w (StoreResult u) a r h = numbers_found w _ _ (λ f. numbers_store w f f.answer h) h
numbers_kept w (Accept p) a r h = numbers_found w _ _ (λ f. numbers_accept w f f.answer.address f.answer.access h) h
numbers_kept w (Return c) a r h = numbers_found w _ _ (λ f. h) h
numbers_kept w (BankFree k) a r h = h
numbers_kept w (Ask n) a r h = h
numbers_kept w Exchange a r h = numbers_exchange w w.request r h
numbers_kept w (PpRead k) a r h = numbers_step w (ReadAt k) (λ s. refl) r h
numbers_kept w (PpWrite k v) a r h = numbers_step w (Wrote k v) (λ s. refl) r h

pub boot_numbered : (memory : List ℕ) (budget : ℕ) → IsNumbered (boot_processor memory budget)
unfolding boot_processor taken
boot_numbered memory budget = refl

-- ---- what an issue answers ----

reserved_unit : (w : Processor) (i : Instr) (position : ProgramPosition)
    → Each (λ t. t.fails ≡ false) (reservation_tests w.pending (Taking i position))
    → may_take (uses i).unit (unwrap_or (unit_for w.pending (uses i).unit) Branch) ≡ true
unfolding reservation_tests
reserved_unit w i position h = (unit_found w.pending (uses i).unit h.0).of_kind

noted_by : (w : Processor) (g : Fetched) → IsReplay w → IsNumbered w → taken_in (completed w) ≡ taken_by g
    → Each (λ t. t.fails ≡ false) (reservation_tests w.pending g)
    → IsNoted (completed w) (taken (boot w.boot_memory) (w.log ++ Issued ∷ [])) (note_by w g)
unfolding note_by taken_by one_for
noted_by w (Halting halt position) r h t u =
    record { none = λ _. refl; some = λ i e. let k = sym t ∙ e in absurd (cc) }
noted_by w (Passing position) r h t u = record { none = λ _. refl; some = λ i e. let k = sym t ∙ e in absurd (cc) }
noted_by w (Taking i position) r h t u =
    grind (arith, issued_count w (Taking i position) r t, reserved_unit w i position u)

log_issue : (w : Processor) (g : Fetched)
    → ((after_issue w g).log ≡ w.log ++ Issued ∷ []) × ((after_issue w g).boot_memory ≡ w.boot_memory)
unfolding after_issue
log_issue w g = grind arith

issue_reservations : (w : Processor) → allowed w Issue ≡ None
    → Each (λ t. t.fails ≡ false) (reservation_tests w.pending
    (fetch (bounds_of w.state) w.state.memory w.state.position))
unfolding allowed tests_of issue_tests
issue_reservations w h = (refusal_none _ h).1.1.1.1.1.1

pub ok_done : (w : Processor) (e : Event) (d : Done) → IsAnswer w e (Ok d) → allowed w e ≡ None → d ≡ done_by w e
unfolding answer_of answer_by
ok_done w e d (inl h) a = let k = h ∙ ap (answer_by (done_by w e)) a in cc
ok_done w e d (inr h) a = let k = h.want in absurd (cc)

is_issue : (w : Processor) (e : Event) (note : Option Note) → DoneIssue note ≡ done_by w e → e ≡ Issue
unfolding done_by
is_issue w e note h = grind arith

note_is : (w : Processor) (note : Option Note) → DoneIssue note ≡ done_by w Issue
    → note ≡ note_by w (fetch (bounds_of w.state) w.state.memory w.state.position)
unfolding done_by
note_is w o h = cc

noted_at : (w : Processor) (note : Option Note) → IsReplay w → IsNumbered w → allowed w Issue ≡ None
    → DoneIssue note ≡ done_by w Issue
    → IsNoted (completed w) (taken (boot (after w Issue).boot_memory) (after w Issue).log) note
unfolding after
noted_at w note r h a d =
    let g = fetch (bounds_of w.state) w.state.memory w.state.position in
    grind (
      arith,
      log_issue w g,
      note_is w note d,
      noted_by w g r h (issue_taken w a) (issue_reservations w a),
      issue_taken w a,
      issue_reservations w a,
    )

pub noted : (w v : Processor) (e : Event) (a : Result Done Refusal) (note : Option Note) → IsReplay w → IsNumbered w
    → IsAnswer w e a → v ≡ settled w e a → a ≡ Ok (DoneIssue note)
    → IsNoted (completed w) (taken (boot v.boot_memory) v.log) note
unfolding settled
noted w v e a note r h i s o =
    let k : IsAnswer w e (Ok (DoneIssue note)) = subst (IsAnswer w e) o i in
    let free = made_allowed w e (DoneIssue note) k in
    let d = ok_done w e (DoneIssue note) k free in
    let is = is_issue w e note d in grind (arith, noted_at)
