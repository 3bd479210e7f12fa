-- Each refusal of a token's call is that of a stranger, or one that the event itself may have.
use Rattle.std.proofs.Common.{◌≡◌, ℕ, Bool, true, false, ◌||◌, ◌&&◌, List, Option, Some, None, refl, sym, ap, ◌∙◌, eqb}
use Rattle.instructions.specs.declared.refusal.Refusal.{Refusal}
use Rattle.instructions.specs.declared.instr.Unit.{Unit as FunctionalUnit}
use Rattle.program_order.specs.declared.event.Note.{Note}
use Rattle.program_order.specs.declared.event.Event.TheVariants.{Read, Store}
use Rattle.in_flight.specs.declared.pending.Pending.{Pending}
use Rattle.in_flight.specs.declared.pending.Stage.{Stage}
use Rattle.in_flight.specs.declared.pending.Stage.TheVariants.{Unread, Read as HasRead, Finished}
use Rattle.program_order.specs.Refusals.{is_read_refusal, is_store_refusal, is_stranger}
use Rattle.machine.specs.Tokens.{finished_in, slot, unread_in}
use Rattle.in_flight.specs.Pending.{is_finished, is_unread}
use Rattle.instructions.specs.Finding.{Found, seek}
use Rattle.in_flight.specs.Tests.{nothing, read_tests, refusal_of, tests_found}
use Rattle.program_order.specs.Processor.{Processor}
use Rattle.program_order.specs.Events.{allowed, tests_of}
use Rattle.program_order.specs.Units.{store_tests}
use Rattle.in_flight.specs.Lookup.{stage_at}
use Rattle.sequential.specs.State.{bounds_of}
use Rattle.program_order.proofs.keeping.Naming.{one_of}

-- while the instruction waits, only its operands can be the reason of a refusal
waiting_named : (w : Processor) (u : FunctionalUnit) (n : ℕ) (k : Refusal) → unread_in n (slot w u) ≡ true
    → allowed w (Read u) ≡ Some k → is_read_refusal k ≡ true
unfolding allowed tests_of tests_found read_tests unread_in is_unread is_read_refusal nothing refusal_of
waiting_named w u n k h e = in_slot (slot w u) h e
  where
    in_slot : (o : Option (Found Pending Stage)) → unread_in n o ≡ true
        → refusal_of (tests_found o (λ f. read_tests f.answer f.earlier f.item.instr)) ≡ Some k
        → is_read_refusal k ≡ true
    in_slot None i j = cc
    in_slot (Some f) i j = at_stage f.answer i j
      where
        at_stage : (t : Stage) → (is_unread t && eqb f.item.number n) ≡ true
            → refusal_of (read_tests t f.earlier f.item.instr) ≡ Some k → is_read_refusal k ≡ true
        at_stage Unread a b = one_of is_read_refusal (read_tests Unread f.earlier f.item.instr) k (refl, tt) b
        at_stage (HasRead os) a b = cc
        at_stage (Finished v) a b = cc

finished_named : (w : Processor) (u : FunctionalUnit) (n : ℕ) (k : Refusal) → finished_in n (slot w u) ≡ true
    → allowed w (Store u) ≡ Some k → is_store_refusal k ≡ true
unfolding allowed tests_of tests_found store_tests finished_in is_finished is_store_refusal nothing refusal_of
finished_named w u n k h e = in_slot (slot w u) h e
  where
    in_slot : (o : Option (Found Pending Stage)) → finished_in n o ≡ true
        → refusal_of (tests_found o (λ f. store_tests (bounds_of w.state) w.pending f.answer f.earlier f.item.instr))
        ≡ Some k → is_store_refusal k ≡ true
    in_slot None i j = cc
    in_slot (Some f) i j = at_stage f.answer i j
      where
        at_stage : (t : Stage) → (is_finished t && eqb f.item.number n) ≡ true
            → refusal_of (store_tests (bounds_of w.state) w.pending t f.earlier f.item.instr) ≡ Some k
            → is_store_refusal k ≡ true
        at_stage Unread a b = cc
        at_stage (HasRead os) a b = cc
        at_stage (Finished v) a b = one_of is_store_refusal
            (store_tests (bounds_of w.state) w.pending (Finished v) f.earlier f.item.instr) k
            (refl, (refl, (refl, tt))) b

or_second : (p q : Bool) → q ≡ true → (p || q) ≡ true
or_second true q h = refl
or_second false q h = h

pub read_named_to : (w : Processor) (note : Note) (pending : List Pending) (k : Refusal)
    → pending ≡ w.pending → unread_in note.number (seek (stage_at note.unit) pending) ≡ true
    → allowed w (Read note.unit) ≡ Some k → (is_stranger k || is_read_refusal k) ≡ true
read_named_to w note pending k em et h =
    or_second (is_stranger k) (is_read_refusal k)
    (waiting_named w note.unit note.number k
    (ap (λ l. unread_in note.number (seek (stage_at note.unit) l)) (sym em) ∙ et) h)

pub store_named_to : (w : Processor) (note : Note) (pending : List Pending) (k : Refusal)
    → pending ≡ w.pending → finished_in note.number (seek (stage_at note.unit) pending) ≡ true
    → allowed w (Store note.unit) ≡ Some k → (is_stranger k || is_store_refusal k) ≡ true
store_named_to w note pending k em et h =
    or_second (is_stranger k) (is_store_refusal k)
    (finished_named w note.unit note.number k
    (ap (λ l. finished_in note.number (seek (stage_at note.unit) l)) (sym em) ∙ et) h)
