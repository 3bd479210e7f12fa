-- The machine after made and refused events, as a plain value.
use Rattle.std.proofs.Common.{◌≡◌, ◌≤◌, ◌+◌, ℕ, Bool, true, false, List, [], ◌∷◌, ◌++◌, Option, Some, None, length}
use Rattle.std.proofs.Common.{refl, sym, ap, ◌∙◌, subst, suc, add-one, arith, leb}
use Rattle.std.specs.Prelude.{Result, Ok, Err, ◌^◌, ◌-◌, min, unwrap_or, set, IfSome, replicate}
use Rattle.std.proofs.lemmas.Bool.{leb-true, leb-false, le-leb, lt-leb}
use Rattle.instructions.specs.declared.instr.Instr.{Instr}
use Rattle.instructions.specs.declared.instr.Reg.TheVariants.{X}
use Rattle.instructions.specs.declared.instr.Unit.{Unit as FunctionalUnit}
use Rattle.instructions.specs.declared.refusal.Halt.{Halt}
use Rattle.instructions.specs.declared.refusal.Refusal.{Refusal}
use Rattle.instructions.specs.Shape.{shape_of}
use Rattle.registers.specs.declared.file.RegisterFile.{RegisterFile}
use Rattle.registers.specs.Registers.{put}
use Rattle.relocation.specs.declared.area.Access.{Access}
use Rattle.relocation.specs.declared.area.Access.TheVariants.{Load as LoadInto, Store as StoreWord}
use Rattle.hopper.specs.Hopper.{bank_of}
use Rattle.unit_ops.specs.declared.Operands.{Operands}
use Rattle.unit_ops.specs.declared.UnitValue.{UnitValue}
use Rattle.unit_ops.specs.Values.{value_of}
use Rattle.sequential.specs.declared.fetching.Fetched.{Fetched}
use Rattle.sequential.specs.declared.fetching.Fetched.TheVariants.{Halting, Passing, Taking}
use Rattle.sequential.specs.declared.position.ProgramPosition.{ProgramPosition}
use Rattle.sequential.specs.declared.state.State.{State}
use Rattle.sequential.specs.declared.work.ProgramReference.{ProgramReference}
use Rattle.sequential.specs.declared.work.Work.{Work as DoneWork}
use Rattle.sequential.specs.State.{Bounds, bounds_of, write, store_word, access_at, move_to, halt_by}
use Rattle.sequential.specs.Work.{IsWorkOf, operands, fault_of, reference_for, work_of, write_and_jump, written}
use Rattle.sequential.proofs.Performing.{written_by}
use Rattle.sequential.specs.Step.{fetch}
use Rattle.sequential.specs.Swap.{swap}
use Rattle.sequential.specs.Replay.{LogStep, Issued, Exchanged, ReadAt, Wrote, boot, replay}
use Rattle.sequential.specs.Log.{Logged, ends_issuing, issued}
use Rattle.in_flight.specs.declared.referring.Relocated.{Relocated}
use Rattle.program_order.specs.declared.event.Note.{Note}
use Rattle.hopper.specs.declared.reference.Reference.{Reference}
use Rattle.in_flight.proofs.asking.Finding.{not_nothing, no_sought, sought_pending, sought_what}
use Rattle.program_order.specs.declared.event.Done.{Done}
use Rattle.program_order.specs.declared.event.Done.TheVariants.{Issued as DoneIssue}
use Rattle.program_order.specs.declared.event.Event.{Event}
use Rattle.program_order.specs.declared.event.Event.TheVariants.{Issue, Read, Finish, Store as StoreResult, Accept}
use Rattle.program_order.specs.declared.event.Event.TheVariants.{Return, BankFree, Ask, Exchange, PpRead, PpWrite}
use Rattle.in_flight.specs.declared.pending.Arrival.{Arrival}
use Rattle.in_flight.specs.declared.pending.Outstanding.{Outstanding}
use Rattle.in_flight.specs.declared.pending.Pending.{Pending}
use Rattle.in_flight.specs.declared.pending.Phase.TheVariants.{Before}
use Rattle.in_flight.specs.declared.pending.Stage.{Stage}
use Rattle.in_flight.specs.declared.pending.Stage.TheVariants.{Unread, Read as HasRead, Finished}
use Rattle.in_flight.specs.Tests.{refusal_in, refusal_of, tests_found, read_tests, accept_tests, return_tests}
use Rattle.in_flight.specs.Tests.{free_tests, reservation_tests}
use Rattle.in_flight.specs.Flight.{left_by, Flight, outstanding_of, reserved_in, unit_taken, with_pending, relocated}
use Rattle.program_order.specs.Run.{note_by, done_by, answer_by, answer_of, settled}
use Rattle.in_flight.specs.Lookup.{located, stage_at, entry_at, arrival_at, place_for, in_phase, kept, is_pending}
use Rattle.instructions.specs.Finding.{replaced, Found, seek, put_back}
use Rattle.machine.specs.inner.View.{owed, IsKept, processor_of}
use Rattle.program_order.specs.Processor.{Processor, boot_processor, completed, replayed}
use Rattle.program_order.specs.Units.{finish_tests, store_tests, rest_of, stage_after_read, stage_after_finish}
use Rattle.program_order.specs.Units.{after_read, after_finish, after_work, after_store}
use Rattle.program_order.specs.Exchange.{ask_tests, exchange_tests, after_exchange}
use Rattle.program_order.specs.Peripheral.{access_tests, after_pp_read, after_pp_write}
use Rattle.program_order.specs.Issue.{issue_tests, after_issue}
use Rattle.program_order.specs.Events.{tests_of, allowed, after_found, after}
use Rattle.program_order.specs.Memory.{after_accept, after_return}
use Rattle.program_order.specs.Invariant.{IsAtBeginning, IsWithinBudget}
use Rattle.program_order.proofs.keeping.Budget.{boot_within, event_within}
use Rattle.program_order.proofs.keeping.Limits.{event_banks, event_starts, boot_banks, boot_starts}
use Rattle.program_order.proofs.keeping.Slotted.{IsSlottedWhole, event_slotted}
use Rattle.sequential.proofs.Entries.{issued-append, issued-more}
use Rattle.program_order.specs.Telling.{IsNumbered}
use Rattle.program_order.proofs.keeping.Numbering.{numbers_kept, boot_numbered}
use Rattle.program_order.proofs.theorem.Theorem.{IsRight, event_kept, boot_right, drained_replay, not_pending}

-- ---- what stays right ----

pub still_kept : (w v : Processor) (e : Event) (old new : Logged) → allowed w e ≡ None → v ≡ after w e → IsKept w old
    → owed (ends_issuing new.steps) v.request ≤ new.room → v.last ≤ issued v.log → v.budget ≤ 10000000 → IsKept v new
still_kept w v e old new a h k room numbered limit =
    let r : IsRight v = subst IsRight (sym h) (event_kept w e a (k.sound, k.replay)) in
    record {
      sound = r.0;
      replay = r.1;
      slotted = subst IsSlottedWhole (sym h) (event_slotted w e a k.slotted);
      room = room;
      numbered = numbered;
      limit = limit;
      numbers = subst IsNumbered (sym h) (numbers_kept w e a k.replay k.numbers);
      banks = ap (λ (x : Processor). length x.busy) h ∙ event_banks w e ∙ k.banks;
      starts = subst (λ (x : Processor). IsAtBeginning x.state.position) (sym h) (event_starts w e k.starts);
      within = subst IsWithinBudget (sym h) (event_within w e a k.within);
    }

-- the instructions in flight of a machine, and the machine with other instructions in flight
abbrev pub flight : Processor → Flight
flight w = record { pending = w.pending; busy = w.busy; last = w.last }

abbrev pub with_flight : Processor → Flight → Processor
with_flight w g = record w { pending = g.pending; busy = g.busy; last = g.last }

-- if the instructions in flight are unchanged, so is the machine
pub same_flight : (w : Processor) (g : Flight) → g ≡ flight w → with_flight w g ≡ w
same_flight w g e = ap (with_flight w) e

-- ---- the clauses of a method ----

pub err_answer : (w v : Processor) (e : Event) (k : Refusal) → w ≡ v → allowed w e ≡ Some k → Err k ≡ answer_of v e
unfolding answer_of answer_by
err_answer w v e k h a = ap (λ o. answer_by (done_by v e) o) (sym a ∙ ap (λ x. allowed x e) h)

pub err_after : (v n : Processor) (e : Event) (k : Refusal) → n ≡ v → n ≡ settled v e (Err k)
unfolding settled
err_after v n e k h = h

pub ok_answer : (w v : Processor) (e : Event) (d : Done) → w ≡ v → allowed w e ≡ None → d ≡ done_by w e
    → Ok d ≡ answer_of v e
unfolding answer_of answer_by
ok_answer w v e d h a i =
    ap Ok i
    ∙ ap (answer_by (done_by w e)) (sym a)
    ∙ ap (λ x. answer_by (done_by x e) (allowed x e)) h

pub ok_after : (w v n : Processor) (e : Event) (d : Done) → w ≡ v → n ≡ after w e → n ≡ settled v e (Ok d)
unfolding settled
ok_after w v n e d h m = m ∙ ap (λ x. after x e) h

-- ---- the judgements ----

-- a count that saturates gives the same answer whether the budget is used up
same_used : (budget issues count : ℕ) → budget ≤ 10000000 → count ≡ min issues (2 ^ 64 - 1)
    → leb budget issues ≡ leb budget count
same_used budget issues count h e = by_test (leb budget count) refl
  where
    by_test : (b : Bool) → leb budget count ≡ b → leb budget issues ≡ b
    by_test true t = let k = leb-true budget count t in le-leb budget issues (omega (arith, k, e))
    by_test false t = let k = leb-false budget count t in lt-leb budget issues (omega (arith, k, e, h))

same_tests : (w : Processor) (count : ℕ) → w.budget ≤ 10000000 → count ≡ min (issued w.log) (2 ^ 64 - 1)
    → issue_tests w.state w.pending w.request w.budget (issued w.log)
    ≡ issue_tests w.state w.pending w.request w.budget count
unfolding issue_tests
same_tests w count h e = rw (same_used w.budget (issued w.log) count h e)

-- the refusals that come before first order, and first order
pub issue_refused : (w : Processor) (count : ℕ) (k : Refusal) → w.budget ≤ 10000000
    → count ≡ min (issued w.log) (2 ^ 64 - 1)
    → refusal_of (issue_tests w.state w.pending w.request w.budget count) ≡ Some k → allowed w Issue ≡ Some k
unfolding allowed tests_of
issue_refused w count k l n h = ap refusal_of (same_tests w count l n) ∙ h

pub issue_judged : (w : Processor) (count : ℕ) (g : Fetched) (o : Option Refusal) → w.budget ≤ 10000000
    → count ≡ min (issued w.log) (2 ^ 64 - 1)
    → refusal_of (issue_tests w.state w.pending w.request w.budget count) ≡ refusal_of (reservation_tests w.pending g)
    → refusal_of (reservation_tests w.pending g) ≡ o → allowed w Issue ≡ o
unfolding allowed tests_of
issue_judged w count g o l n h k = ap refusal_of (same_tests w count l n) ∙ h ∙ k

pub read_judged : (w : Processor) (u : FunctionalUnit) (r o : Option Refusal)
    → refusal_of (tests_found (seek (stage_at u) w.pending) (λ f. read_tests f.answer f.earlier f.item.instr)) ≡ r
    → r ≡ o → allowed w (Read u) ≡ o
unfolding allowed tests_of
read_judged w u r o h k = h ∙ k

pub finish_judged : (w : Processor) (u : FunctionalUnit) (r o : Option Refusal)
    → refusal_of (tests_found (seek (stage_at u) w.pending) (λ f. finish_tests f.answer)) ≡ r → r ≡ o
    → allowed w (Finish u) ≡ o
unfolding allowed tests_of
finish_judged w u r o h k = h ∙ k

pub store_judged : (w : Processor) (u : FunctionalUnit) (size : ℕ) (r o : Option Refusal)
    → size ≡ length w.state.memory
    → refusal_of (tests_found (seek (stage_at u) w.pending)
    (λ f. store_tests (record { area = w.state.area; size = size }) w.pending f.answer f.earlier
    f.item.instr)) ≡ r → r ≡ o → allowed w (StoreResult u) ≡ o
unfolding allowed tests_of bounds_of
store_judged w u size r o n h k =
    ap (λ z. refusal_of (tests_found (seek (stage_at u) w.pending)
    (λ f. store_tests (record { area = w.state.area; size = z }) w.pending f.answer f.earlier
    f.item.instr))) (sym n)
    ∙ h ∙ k

pub accept_judged : (w : Processor) (p : ℕ) (r o : Option Refusal)
    → refusal_of (tests_found (seek (entry_at p) w.pending) (λ f. accept_tests w.busy f.earlier f.answer)) ≡ r → r ≡ o
    → allowed w (Accept p) ≡ o
unfolding allowed tests_of
accept_judged w p r o h k = h ∙ k

pub return_judged : (w : Processor) (n : ℕ) (r o : Option Refusal)
    → refusal_of (tests_found (seek (arrival_at n) w.pending) (λ f. return_tests f.earlier f.answer)) ≡ r → r ≡ o
    → allowed w (Return n) ≡ o
unfolding allowed tests_of
return_judged w n r o h k = h ∙ k

pub free_judged : (w : Processor) (k : ℕ) (r o : Option Refusal) → refusal_of (free_tests w.busy k) ≡ r → r ≡ o
    → allowed w (BankFree k) ≡ o
unfolding allowed tests_of
free_judged w k r o h e = h ∙ e

pub ask_judged : (w : Processor) (n size : ℕ) (r : Result (Unit {0}) Refusal) (o : Option Refusal)
    → size ≡ length w.state.memory → refusal_of (ask_tests w.asked w.request size n) ≡ refusal_in r → refusal_in r ≡ o
    → allowed w (Ask n) ≡ o
unfolding allowed tests_of
ask_judged w n size r o z h e = ap (λ k. refusal_of (ask_tests w.asked w.request k n)) (sym z) ∙ h ∙ e

-- a peripheral access; the memory's size was counted
pub access_judged : (w : Processor) (e : Event) (a size : ℕ) (r o : Option Refusal) → size ≡ length w.state.memory
    → allowed w e ≡ refusal_of (access_tests w.accessed w.pending (length w.state.memory) a)
    → refusal_of (access_tests w.accessed w.pending size a) ≡ r → r ≡ o → allowed w e ≡ o
access_judged w e a size r o z g h k =
    g ∙ ap (λ n. refusal_of (access_tests w.accessed w.pending n a)) (sym z) ∙ h ∙ k

pub exchange_judged : (w : Processor) (r o : Option Refusal)
    → refusal_of (exchange_tests w.request w.pending w.state) ≡ r → r ≡ o → allowed w Exchange ≡ o
unfolding allowed tests_of
exchange_judged w r o h k = h ∙ k

-- ---- the machines that are made ----

pub read_made : (w : Processor) (u : FunctionalUnit) (m : Pending) (os : Operands) (g : Flight)
    → located (seek (stage_at u) w.pending) ≡ Some (record { pending = m; answer = Unread })
    → os ≡ operands m.instr m.at w.state.registers
    → g ≡ with_pending (flight w)
    (replaced (seek (stage_at u) w.pending) w.pending (λ x. in_phase x (Before (HasRead os)) ∷ []))
    → with_flight w g ≡ after w (Read u)
unfolding after replaced after_found after_read stage_after_read
read_made w u m os g h o e = ap (with_flight w) e ∙ found (seek (stage_at u) w.pending) h
  where
    found : (q : Option (Found Pending Stage)) → located q ≡ Some (record { pending = m; answer = Unread })
        → record w { pending = replaced q w.pending (λ x. in_phase x (Before (HasRead os)) ∷ []) }
        ≡ after_found w q (after_read w)
    found None k = absurd (no_sought (record { pending = m; answer = Unread }) k)
    found (Some f) k =
        ap (λ x. record w { pending = put_back f (in_phase f.item (Before (HasRead x)) ∷ []) })
        (o ∙ ap (λ (x : Pending). operands x.instr x.at w.state.registers)
        (sym (sought_pending f (record { pending = m; answer = Unread }) k)))
        ∙ ap (λ t. record w {
          pending = put_back f
              (in_phase f.item (Before (stage_after_read w.state.registers f.item.instr f.item.at t))
              ∷ []);
        }) (sym (sought_what f (record { pending = m; answer = Unread }) k))

pub finish_made : (w : Processor) (u : FunctionalUnit) (m : Pending) (os : Operands) (v : UnitValue) (g : Flight)
    → located (seek (stage_at u) w.pending) ≡ Some (record { pending = m; answer = HasRead os })
    → v ≡ value_of m.instr os → g
    ≡ with_pending (flight w) (replaced (seek (stage_at u) w.pending) w.pending
    (λ x. in_phase x (Before (Finished v)) ∷ [])) → with_flight w g ≡ after w (Finish u)
unfolding after replaced after_found after_finish stage_after_finish
finish_made w u m os v g h o e = ap (with_flight w) e ∙ found (seek (stage_at u) w.pending) h
  where
    found : (q : Option (Found Pending Stage)) → located q ≡ Some (record { pending = m; answer = HasRead os })
        → record w { pending = replaced q w.pending (λ x. in_phase x (Before (Finished v)) ∷ []) }
        ≡ after_found w q (after_finish w)
    found None k = absurd (no_sought (record { pending = m; answer = HasRead os }) k)
    found (Some f) k =
        ap (λ x. record w { pending = put_back f (in_phase f.item (Before (Finished x)) ∷ []) })
        (o ∙ ap (λ (x : Pending). value_of x.instr os)
        (sym (sought_pending f (record { pending = m; answer = HasRead os }) k)))
        ∙ ap (λ t. record w {
          pending = put_back f
              (in_phase f.item (Before (stage_after_finish f.item.instr t)) ∷ []);
        }) (sym (sought_what f
        (record { pending = m; answer = HasRead os }) k))

pub return_made : (w : Processor) (n : ℕ) (x : Arrival) (r : RegisterFile) (g : Flight) → allowed w (Return n) ≡ None
    → IfSome (seek (arrival_at n) w.pending) (λ f. f.answer ≡ x) → r ≡ put w.state.registers (X x.channel) x.word
    → g ≡ with_pending (flight w) (replaced (seek (arrival_at n) w.pending) w.pending (λ m. []))
    → with_flight (record w { state = record w.state { registers = r } }) g ≡ after w (Return n)
unfolding allowed tests_of after replaced after_found after_return write tests_found
return_made w n x r g a h o e = ap (with_flight (record w { state = record w.state { registers = r } })) e
    ∙ found (seek (arrival_at n) w.pending) a h
  where
    found : (q : Option (Found Pending Arrival))
        → refusal_of (tests_found q (λ f. return_tests f.earlier f.answer)) ≡ None → IfSome q (λ f. f.answer ≡ x)
        → record w { state = record w.state { registers = r }; pending = replaced q w.pending (λ m. []) }
        ≡ after_found w q (after_return w)
    found None k i = absurd (not_nothing k)
    found (Some f) k i = ap (λ y. record w { state = record w.state { registers = y }; pending = put_back f [] })
        (o ∙ ap (λ (y : Arrival). put w.state.registers (X y.channel) y.word) (sym i))

by_access : (w : Processor) (f : Found Pending Reference) (a : ℕ) (x : Access)
    → record w {
      state = record w.state { memory = (access_at w.state a x).memory };
      pending = put_back f (kept f.item (left_by w.state.memory a x));
      busy =
          set w.busy (bank_of a) true;
    } ≡ after_accept w f a x
unfolding after_accept put_back kept in_phase access_at write store_word
by_access w f a (LoadInto n) = refl
by_access w f a (StoreWord v) = refl

pub accept_made : (w : Processor) (p : ℕ) (r : Reference) (s : State) (g : Flight) → allowed w (Accept p) ≡ None
    → IfSome (seek (entry_at p) w.pending) (λ f. f.answer ≡ record { address = r.address; access = r.access })
    → s ≡ record w.state { memory = (access_at w.state r.address r.access).memory }
    → g ≡ record (flight w) {
      pending = replaced (seek (entry_at p) w.pending) w.pending
          (λ m. kept m (left_by w.state.memory r.address r.access));
      busy = set w.busy (bank_of r.address) true;
    }
    → with_flight (record w { state = s }) g ≡ after w (Accept p)
unfolding allowed tests_of after replaced after_found tests_found
accept_made w p r s g a h es e = ap (with_flight (record w { state = s })) e
    ∙ ap (λ t. record w {
      state = t;
      pending = replaced (seek (entry_at p) w.pending) w.pending
          (λ x. kept x (left_by w.state.memory r.address r.access));
      busy =
          set w.busy (bank_of r.address) true;
    }) es ∙ found (seek (entry_at p) w.pending) a h
  where
    found : (q : Option (Found Pending Reference))
        → refusal_of (tests_found q (λ f. accept_tests w.busy f.earlier f.answer)) ≡ None
        → IfSome q (λ f. f.answer ≡ record { address = r.address; access = r.access })
        → record w {
          state = record w.state { memory = (access_at w.state r.address r.access).memory };
          pending = replaced q w.pending (λ x. kept x (left_by w.state.memory r.address r.access));
          busy =
              set w.busy (bank_of r.address) true;
        } ≡ after_found w q (λ f. after_accept w f f.answer.address f.answer.access)
    found None k i = absurd (not_nothing k)
    found (Some f) k i =
        by_access w f r.address r.access ∙ ap (λ (y : Reference). after_accept w f y.address y.access) (sym i)

pub store_made : (w : Processor) (u : FunctionalUnit) (m : Pending) (v : UnitValue) (s : State)
    (left : Option Outstanding) (g : Flight)
    → located (seek (stage_at u) w.pending) ≡ Some (record { pending = m; answer = Finished v })
    → s ≡ write_and_jump (bounds_of w.state) w.state (work_of (shape_of m.instr) v)
    → left ≡ rest_of (bounds_of w.state) (unwrap_or (place_for w.pending) 0) (reference_for (shape_of m.instr) v)
    → g ≡ with_pending (flight w) (replaced (seek (stage_at u) w.pending) w.pending (λ x. kept x left))
    → with_flight (record w { state = s }) g ≡ after w (StoreResult u)
unfolding after replaced after_found after_store after_work work_of
store_made w u m v s left g h es el e =
    ap (with_flight (record w { state = s })) e
    ∙ ap (λ l. record w {
      state = s;
      pending = replaced (seek (stage_at u) w.pending) w.pending (λ x. kept x l);
    }) el
    ∙ ap (λ t. record w {
      state = t;
      pending = replaced (seek (stage_at u) w.pending) w.pending
          (λ x. kept x (rest_of (bounds_of w.state) (unwrap_or (place_for w.pending) 0)
          (reference_for (shape_of m.instr) v)));
    }) es
    ∙ found (seek (stage_at u) w.pending) h
  where
    found : (q : Option (Found Pending Stage)) → located q ≡ Some (record { pending = m; answer = Finished v })
        → record w {
          state = write_and_jump (bounds_of w.state) w.state (work_of (shape_of m.instr) v);
          pending = replaced q w.pending
              (λ x. kept x (rest_of (bounds_of w.state) (unwrap_or (place_for w.pending) 0)
              (reference_for (shape_of m.instr) v)));
        } ≡ after_found w q (λ f. after_store w f f.answer)
    found None k = absurd (no_sought (record { pending = m; answer = Finished v }) k)
    found (Some f) k =
        ap (λ (y : Pending). record w {
          state = write_and_jump (bounds_of w.state) w.state (work_of (shape_of y.instr) v);
          pending = put_back f (kept f.item
              (rest_of (bounds_of w.state) (unwrap_or (place_for w.pending) 0)
              (reference_for (shape_of y.instr) v)));
        }) (sym (sought_pending f (record {
          pending =
              m;
          answer = Finished v;
        }) k))
        ∙ ap (λ t. after_store w f t) (sym (sought_what f (record { pending = m; answer = Finished v }) k))

pub bank_made : (w : Processor) (k : ℕ) (g : Flight) → g ≡ record (flight w) { busy = set w.busy k false }
    → with_flight w g ≡ after w (BankFree k)
unfolding after
bank_made w k g e = ap (with_flight w) e

pub ask_made : (w : Processor) (n : ℕ) (log : List LogStep) → log ≡ w.log
    → record w { request = Some n; asked = w.asked + 1; log = log } ≡ after w (Ask n)
unfolding after
ask_made w n log e = ap (λ l. record w { request = Some n; asked = w.asked + 1; log = l }) e
    ∙ ap (λ k. record w { request = Some n; asked = k }) (add-one w.asked)

pub exchange_made : (w : Processor) (n : ℕ) (s : State) (log : List LogStep) → w.request ≡ Some n → s ≡ swap n w.state
    → log ≡ w.log ++ Exchanged n ∷ [] → record w { state = s; log = log; request = None } ≡ after w Exchange
unfolding after after_exchange
exchange_made w n s log e es el =
    ap (λ l. record w { state = s; log = l; request = None }) el
    ∙ ap (λ t. record w { state = t; log = w.log ++ Exchanged n ∷ []; request = None }) es
    ∙ ap (λ r. after_exchange w r) (sym e)

pub read_word_made : (w : Processor) (a : ℕ) (log : List LogStep) → log ≡ w.log ++ ReadAt a ∷ []
    → record w { log = log; accessed = w.accessed + 1 } ≡ after w (PpRead a)
unfolding after after_pp_read
read_word_made w a log e = ap (λ l. record w { log = l; accessed = w.accessed + 1 }) e
    ∙ ap (λ k. record w { log = w.log ++ ReadAt a ∷ []; accessed = k }) (add-one w.accessed)

pub write_word_made : (w : Processor) (a v : ℕ) (s : State) (log : List LogStep)
    → s ≡ record w.state { memory = (access_at w.state a (StoreWord v)).memory } → log ≡ w.log ++ Wrote a v ∷ []
    → record w { state = s; log = log; accessed = w.accessed + 1 } ≡ after w (PpWrite a v)
unfolding after after_pp_write access_at store_word
write_word_made w a v s log es el =
    ap (λ t. record w { state = t; log = log; accessed = w.accessed + 1 }) es
    ∙ ap (λ l. record w { state = store_word w.state a v; log = l; accessed = w.accessed + 1 }) el
    ∙ ap (λ k. record w { state = store_word w.state a v; log = w.log ++ Wrote a v ∷ []; accessed = k })
    (add-one w.accessed)

-- the machine after an issue, apart from the log's new entry, and the reservation in the answer
pub record IsIssued (w : Processor) (before : Logged) (g : Fetched) (v : Processor) (log : Logged)
    (given : Option Note) : Type 0 where
  pub judged : refusal_of (reservation_tests w.pending g) ≡ None
  pub left : record v { log = w.log ++ Issued ∷ [] } ≡ after_issue w g
  pub noted : given ≡ note_by w g
  pub same_log : log ≡ before
  pub same_request : v.request ≡ w.request
  pub same_budget : v.budget ≡ w.budget
  pub numbered : v.last ≤ suc w.last

pub issued_halting : (w : Processor) (log : Logged) (halt : Halt) (position : ProgramPosition)
    → IsIssued w log (Halting halt position) (record w {
      state = record w.state
          { position = position; halt = Some halt };
    }) log
    None
unfolding refusal_of reservation_tests after_issue move_to halt_by note_by
issued_halting w log halt position =
    record {
      judged = refl;
      left = refl;
      noted = refl;
      same_log = refl;
      same_request = refl;
      same_budget = refl;
      numbered = omega arith;
    }

pub issued_passing : (w : Processor) (log : Logged) (position : ProgramPosition)
    → IsIssued w log (Passing position) (record w { state = record w.state { position = position } }) log None
unfolding refusal_of reservation_tests after_issue move_to note_by
issued_passing w log position = record {
  judged = refl;
  left = refl;
  noted = refl;
  same_log = refl;
  same_request = refl;
  same_budget = refl;
  numbered = omega arith;
}

pub issued_taking : (w : Processor) (log : Logged) (i : Instr) (position : ProgramPosition) (unit : FunctionalUnit)
    (number : ℕ)
    (f : Flight) → refusal_of (reservation_tests w.pending (Taking i position)) ≡ None → unit ≡ unit_taken (flight w) i
    → number ≡ suc w.last → f ≡ reserved_in (flight w) i w.state.position.p
    → IsIssued w log (Taking i position) (with_flight (record w { state = record w.state { position = position } }) f)
    log
    (Some (record { unit = unit; number = number }))
unfolding after_issue move_to note_by
issued_taking w log i position unit number f a eu en ef = record {
  judged = a;
  left = ap (with_flight (record w { state = record w.state { position = position }; log = w.log ++ Issued ∷ [] })) ef;
  noted = ap (λ x. Some (record { unit = x; number = number })) eu
      ∙ ap (λ x. Some (record { unit = unit_taken (flight w) i; number = x })) en;
  same_log = refl;
  same_request = refl;
  same_budget = refl;
  numbered = let n = ap (λ (x : Flight). x.last) ef in omega (arith, n);
}

pub issue_made : (w : Processor) (before log : Logged) (g : Fetched) (v : Processor) (given : Option Note)
    (steps : List LogStep) → before.steps ≡ w.log → g ≡ fetch (bounds_of w.state) w.state.memory w.state.position
    → IsIssued w before g v log given → steps ≡ log.steps ++ Issued ∷ [] → record v { log = steps } ≡ after w Issue
unfolding after
issue_made w before log g v given steps eb eg s el =
    ap (λ l. record v { log = l })
    (el ∙ ap (λ (l : Logged). l.steps ++ Issued ∷ []) s.same_log ∙ ap (λ l. l ++ Issued ∷ []) eb)
    ∙ s.left
    ∙ ap (after_issue w) eg

pub issue_done : (w : Processor) (before log : Logged) (g : Fetched) (v : Processor) (given : Option Note)
    → g ≡ fetch (bounds_of w.state) w.state.memory w.state.position → IsIssued w before g v log given
    → DoneIssue given ≡ done_by w Issue
unfolding done_by
issue_done w before log g v given eg s = ap DoneIssue (s.noted ∙ ap (note_by w) eg)

-- ---- room in the log ----

pub owed_at_most : (is_open : Bool) (request : Option ℕ) (room : ℕ) → 3 ≤ room → owed is_open request ≤ room
owed_at_most true None room h = omega arith
owed_at_most false None room h = omega arith
owed_at_most true (Some n) room h = omega arith
owed_at_most false (Some n) room h = omega arith

pub room_of_request : (is_open : Bool) (request : Option ℕ) (n room : ℕ) → owed is_open request ≤ room
    → request ≡ Some n → 2 ≤ room
room_of_request is_open request n room h e = two is_open (subst (λ r. owed is_open r ≤ room) e h)
  where
    two : (b : Bool) → owed b (Some n) ≤ room → 2 ≤ room
    two true k = omega arith
    two false k = omega arith

pub owed_none : (is_open : Bool) (room : ℕ) → 1 ≤ room → owed is_open None ≤ room
owed_none true room h = omega arith
owed_none false room h = omega arith

pub owed_issued : (was_open is_open : Bool) (request : Option ℕ) (old new spent : ℕ) → owed was_open request ≤ old
    → is_open ≡ true → new + spent ≡ old → spent ≡ owed was_open None → owed is_open request ≤ new
owed_issued true false request old new spent h e k i = cc
owed_issued false false request old new spent h e k i = cc
owed_issued true true None old new spent h e k i = omega (arith, h, k, i)
owed_issued false true None old new spent h e k i = omega (arith, h, k, i)
owed_issued true true (Some n) old new spent h e k i = omega (arith, h, k, i)
owed_issued false true (Some n) old new spent h e k i = omega (arith, h, k, i)

-- ---- numbers ----

pub numbered_still : (last : ℕ) (old new : List LogStep) → new ≡ old → last ≤ issued old → last ≤ issued new
numbered_still last old new e h = subst (λ l. last ≤ issued l) (sym e) h

-- one more log step that is no instruction
pub numbered_other : (last : ℕ) (old new : List LogStep) (x : LogStep) → issued (x ∷ []) ≡ 0 → new ≡ old ++ x ∷ []
    → last ≤ issued old → last ≤ issued new
numbered_other last old new x z e h = subst (λ l. last ≤ issued l) (sym e) (after old h)
  where
    after : (xs : List LogStep) → last ≤ issued xs → last ≤ issued (xs ++ x ∷ [])
    after xs k = let a = issued-append xs (x ∷ []) in omega (arith, a, k, z)

pub numbered_issue : (before last : ℕ) (old new : List LogStep) → new ≡ old ++ Issued ∷ [] → before ≤ issued old
    → last ≤ suc before → last ≤ issued new
numbered_issue before last old new e h k =
    let a : issued new ≡ issued old + 1 = ap issued e ∙ issued-more old in omega (arith, a, h, k)

-- ---- a store from its parts ----

pub bounds_at : (w : Processor) (size : ℕ) → size ≡ length w.state.memory
    → record { area = w.state.area; size = size } ≡ bounds_of w.state
unfolding bounds_of
bounds_at w size e = ap (λ n. record { area = w.state.area; size = n }) e

pub store_parts : (w : Processor) (u : FunctionalUnit) (size : ℕ) (m : Pending) (v : UnitValue) (work : DoneWork)
    (s : State) (rest : Option Relocated) (g : Flight)
    → located (seek (stage_at u) w.pending) ≡ Some (record { pending = m; answer = Finished v })
    → size ≡ length w.state.memory
    → IsWorkOf (shape_of m.instr) v work
    → rest ≡ relocated (record { area = w.state.area; size = size }) (reference_for (shape_of m.instr) v)
    → s ≡ written w.state work (fault_of (bounds_of w.state) work.reference)
    → g ≡ with_pending (flight w)
    (replaced (seek (stage_at u) w.pending) w.pending
    (λ x. kept x (outstanding_of (unwrap_or (place_for w.pending) 0) rest)))
    → with_flight (record w { state = s }) g ≡ after w (StoreResult u)
store_parts w u size m v work s rest g p ez is el es em =
    let b : Bounds = record { area = w.state.area; size = size } in
    let q : Option ProgramReference = reference_for (shape_of m.instr) v in
    let free : ℕ = unwrap_or (place_for w.pending) 0 in
    store_made w u m v s (outstanding_of free rest) g p
    (es ∙ written_by (bounds_of w.state) w.state (shape_of m.instr) v work
    (fault_of (bounds_of w.state) work.reference) is (ap (fault_of (bounds_of w.state)) is.reference))
    (ap (outstanding_of free) el ∙ ap (λ x. rest_of x free q) (bounds_at w size ez))
    em

-- ---- boot ----

pub booted : (memory copy : List ℕ) (s : State) (g : Flight) (log : Logged) (budget : ℕ) → s ≡ boot memory
    → copy ≡ memory → g ≡ record { pending = []; busy = replicate 32 false; last = 0 } → log.steps ≡ []
    → processor_of s g.pending g.busy None log budget 0 0 g.last copy false ≡ boot_processor memory budget
unfolding boot_processor
booted memory copy s g log budget es ec em el =
    ap (λ x. record {
      state = x;
      pending = g.pending;
      busy = g.busy;
      request = None;
      log = log.steps;
      budget = budget;
      asked = 0;
      accessed = 0;
      last = g.last;
      boot_memory = copy;
      seats_given = false;
    }) es
    ∙ ap (λ (x : Flight). record {
      state = boot memory;
      pending = x.pending;
      busy = x.busy;
      request = None;
      log = log.steps;
      budget = budget;
      asked = 0;
      accessed = 0;
      last = x.last;
      boot_memory = copy;
      seats_given = false;
    }) em
    ∙ ap (λ x. record {
      state = boot memory;
      pending = [];
      busy = replicate 32 false;
      request = None;
      log = x;
      budget = budget;
      asked = 0;
      accessed = 0;
      last = 0;
      boot_memory = copy;
      seats_given = false;
    }) el
    ∙ ap (λ x. record {
      state = boot memory;
      pending = [];
      busy = replicate 32 false;
      request = None;
      log = [];
      budget = budget;
      asked = 0;
      accessed = 0;
      last = 0;
      boot_memory = x;
      seats_given = false;
    }) ec

slotted_none : (w : Processor) (memory : List ℕ) (budget : ℕ) → w ≡ boot_processor memory budget → IsSlottedWhole w
unfolding boot_processor
slotted_none w memory budget e = subst IsSlottedWhole (sym e) (record { apart = tt; proper = tt })

pub boot_kept : (w : Processor) (memory : List ℕ) (budget : ℕ) (log : Logged) → w ≡ boot_processor memory budget
    → w.request ≡ None → 1 ≤ log.room → w.last ≡ 0 → w.budget ≤ 10000000 → IsKept w log
boot_kept w memory budget log e r h n l =
    let k : IsRight w = subst IsRight (sym e) (boot_right memory budget) in
    record {
      sound = k.0;
      replay = k.1;
      slotted = slotted_none w memory budget e;
      room = subst (λ q. owed (ends_issuing log.steps) q ≤ log.room) (sym r)
          (owed_none (ends_issuing log.steps) log.room h);
      numbered =
          omega (arith, n);
      limit = l;
      numbers = subst IsNumbered (sym e) (boot_numbered memory budget);
      banks = ap (λ (x : Processor). length x.busy) e ∙ boot_banks memory budget;
      starts = subst (λ (x : Processor). IsAtBeginning x.state.position) (sym e) (boot_starts memory budget);
      within = subst IsWithinBudget (sym e) (boot_within memory budget);
    }

-- handing out the seats changes nothing else
pub seats_kept : (w : Processor) (log : Logged) → IsKept w log → IsKept (record w { seats_given = true }) log
unfolding completed replayed
seats_kept w log k = record {
  sound = record { apart = k.sound.apart; request_fits = k.sound.request_fits };
  replay = k.replay;
  slotted = record { apart = k.slotted.apart; proper = k.slotted.proper };
  room = k.room;
  numbered = k.numbered;
  limit = k.limit;
  numbers = k.numbers;
  banks = k.banks;
  starts = k.starts;
  within = k.within;
}

-- ---- a snapshot ----

-- the state of a drained machine is the replay of its log; the same holds for copies of both
pub snap_replay : (w : Processor) (log : Logged) (s : State) (steps : List LogStep) (memory : List ℕ) → IsKept w log
    → is_pending w.pending ≡ false → s ≡ w.state → steps ≡ w.log → memory ≡ w.boot_memory
    → replay (boot memory) steps ≡ Some s
snap_replay w log s steps memory k p es el em =
    ap (λ m. replay (boot m) steps) em
    ∙ ap (replay (boot w.boot_memory)) el
    ∙ drained_replay w (k.sound, k.replay) (not_pending w.pending p)
    ∙ ap Some (sym es)

-- the copies stay within the budget too
pub snap_within : (w : Processor) (log : Logged) (steps : List LogStep) → IsKept w log → steps ≡ w.log
    → issued steps ≤ w.budget
snap_within w log steps k el = let e = ap issued el in let h = k.within in omega (arith, e, h)
