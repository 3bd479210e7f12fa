-- Slots after each event, instruction by instruction: no two instructions share one.
use Rattle.std.proofs.Common.{◌≡◌, ◌<◌, ◌+◌, ℕ, Bool, true, false, List, [], ◌∷◌, ◌++◌, Option, Some, None}
use Rattle.std.proofs.Common.{length, refl, sym, ap, ◌∙◌, subst, get_or, arith}
use Rattle.std.proofs.lemmas.List.{length-set}
use Rattle.std.specs.Prelude.{◌&&◌, is_none, unwrap_or}
use Rattle.std.specs.List.{list_any}
use Rattle.instructions.specs.declared.instr.Unit.{Unit as FunctionalUnit}
use Rattle.instructions.specs.declared.instr.Unit.TheVariants.{Branch}
use Rattle.instructions.specs.declared.instr.UnitKind.{UnitKind}
use Rattle.instructions.specs.Shape.{Shape, Loads, shape_of}
use Rattle.instructions.specs.Operands.{uses}
use Rattle.relocation.specs.declared.area.Access.{Access}
use Rattle.relocation.specs.declared.area.Access.TheVariants.{Load as LoadInto, Store as StoreWord}
use Rattle.relocation.specs.Relocation.{relocate}
use Rattle.scoreboard.specs.Reservations as board
use Rattle.scoreboard.specs.Reservations.{is_reserved}
use Rattle.scoreboard.specs.Units.{same_unit, units_of, may_take}
use Rattle.scoreboard.specs.Conflicts.{is_held, first_free, free_unit, unit_for as free_unit_for}
use Rattle.sequential.specs.declared.work.ProgramReference.{ProgramReference}
use Rattle.sequential.specs.declared.fetching.Fetched.{Fetched}
use Rattle.sequential.specs.State.{Bounds, bounds_of, absolute, store_word, write, move_to, halt_by}
use Rattle.sequential.specs.Work.{reference_for, work_of}
use Rattle.unit_ops.specs.declared.UnitValue.{UnitValue}
use Rattle.program_order.specs.declared.event.Event.{Event}
use Rattle.program_order.specs.declared.event.Event.TheVariants.{Issue, Read, Finish, Store as StoreResult, Accept}
use Rattle.program_order.specs.declared.event.Event.TheVariants.{Return, BankFree, Ask, Exchange, PpRead, PpWrite}
use Rattle.program_order.specs.Peripheral.{after_pp_read, after_pp_write}
use Rattle.in_flight.specs.declared.pending.Arrival.{Arrival}
use Rattle.hopper.specs.declared.reference.Reference.{Reference}
use Rattle.in_flight.specs.declared.pending.Outstanding.{Outstanding}
use Rattle.in_flight.specs.declared.pending.Outstanding.TheVariants.{Entered, Accepted}
use Rattle.in_flight.specs.declared.pending.Phase.{Phase}
use Rattle.in_flight.specs.declared.pending.Phase.TheVariants.{Before, After}
use Rattle.in_flight.specs.declared.pending.Pending.{Pending}
use Rattle.in_flight.specs.declared.pending.Stage.{Stage}
use Rattle.in_flight.specs.declared.pending.Stage.TheVariants.{Unread, Read as HasRead, Finished}
use Rattle.instructions.specs.Each.{Each}
use Rattle.in_flight.specs.Pending.{occupancy_of, reservation_of}
use Rattle.in_flight.proofs.asking.PendingReservations.{holds}
use Rattle.in_flight.specs.inner.OwnSlots.{unit_slot, clash_in, clash, IsChannel, IsLoadable, IsPlaced}
use Rattle.in_flight.specs.inner.OwnSlots.{IsProper, HasOwnSlots}
use Rattle.instructions.specs.Finding.{Found, seek, put_back}
use Rattle.program_order.specs.Processor.{Processor}
use Rattle.program_order.specs.Issue.{issue_tests, after_issue}
use Rattle.program_order.specs.Units.{store_tests, rest_of, after_read, after_finish, after_work, after_store}
use Rattle.program_order.specs.Exchange.{exchange_tests, after_exchange}
use Rattle.program_order.specs.Events.{tests_of, allowed, after_found, after}
use Rattle.program_order.specs.Memory.{after_accept, after_return}
use Rattle.in_flight.specs.Tests.{refusal_of, tests_found, unit_for, reservation_tests}
use Rattle.in_flight.specs.Lookup.{stage_at, entry_at, arrival_at, in_place, place_for, enters, kept}
use Rattle.program_order.proofs.effects.Effects.{write_and_jump-bounds}
use Rattle.in_flight.proofs.asking.Finding.{refusal_none, stage_found, entry_found}
use Rattle.instructions.proofs.Finding.{seek_splits}
use Rattle.instructions.proofs.Lists.{each_of_any, each_append, each_both, pairs_push}
use Rattle.in_flight.proofs.asking.Slotting.{other_slot, slotted_without, proper_there, placed_in, loads_channel}
use Rattle.in_flight.proofs.asking.Slotting.{slotted_after, slotted_stage, taken_by, accepted_free, entered_free}
use Rattle.in_flight.specs.Flight.{entering, outstanding_of, relocated}
use Rattle.in_flight.proofs.answering.Beside.{place_found}
use Rattle.program_order.proofs.theorem.Theorem.{not_pending}

-- ---- places, channels and addresses of what is left ----

pub reference_loadable : (h : Shape) (v : UnitValue) (r : ProgramReference) → ((n : ℕ) → h ≡ Loads n → IsChannel n)
    → reference_for h v ≡ Some r → IsLoadable r.access
unfolding reference_for
reference_loadable h v r f e = grind arith

pub absolute_below : (b : Bounds) (a k : ℕ) → absolute b a ≡ Some k → k < b.size
unfolding absolute relocate
absolute_below b a k h = grind arith

-- ---- what is left of a reference ----

entering_placed : (size : ℕ) (u : FunctionalUnit) (p : ℕ) (o : Option ℕ) (access : Access) (l : Outstanding)
    → ((a : ℕ) → o ≡ Some a → a < size) → IsLoadable access → (enters (entering 0 o access) ≡ true → p < 4)
    → entering p o access ≡ Some l → IsPlaced size u (After l)
unfolding entering enters
entering_placed size u p o access l f g h e = grind arith

rest_placed : (b : Bounds) (u : FunctionalUnit) (p : ℕ) (r : Option ProgramReference) (l : Outstanding)
    → ((x : ProgramReference) → r ≡ Some x → IsLoadable x.access) → (enters (rest_of b 0 r) ≡ true → p < 4)
    → rest_of b p r ≡ Some l → IsPlaced b.size u (After l)
unfolding relocated outstanding_of
rest_placed b u p None l f h e = cc
rest_placed b u p (Some r) l f h e =
    entering_placed b.size u p (absolute b r.address) r.access l (λ a k. absolute_below b r.address a k) (f r refl) h e

entering_free : (p : ℕ) (o : Option ℕ) (access : Access) (l : Outstanding) (ms : List Pending)
    → (enters (entering 0 o access) ≡ true → list_any (in_place p) ms ≡ false) → entering p o access ≡ Some l
    → Each (λ x. taken_by l x ≡ false) ms
unfolding entering enters
entering_free p (Some a) access l ms h e =
    subst (λ k. Each (λ x. taken_by k x ≡ false) ms) (entered_is e) (entered_free p a access ms (h refl))
  where
    entered_is : Some (Entered p a access) ≡ Some l → Entered p a access ≡ l
    entered_is k = cc
entering_free p None (LoadInto n) l ms h e =
    subst (λ k. Each (λ x. taken_by k x ≡ false) ms) (accepted_is e) (accepted_free n 0 ms)
  where
    accepted_is : Some (Accepted n 0) ≡ Some l → Accepted n 0 ≡ l
    accepted_is k = cc
entering_free p None (StoreWord w) l ms h e = cc

rest_free : (b : Bounds) (p : ℕ) (r : Option ProgramReference) (l : Outstanding) (ms : List Pending)
    → (enters (rest_of b 0 r) ≡ true → list_any (in_place p) ms ≡ false) → rest_of b p r ≡ Some l
    → Each (λ x. taken_by l x ≡ false) ms
unfolding relocated outstanding_of
rest_free b p None l ms h e = cc
rest_free b p (Some r) l ms h e = entering_free p (absolute b r.address) r.access l ms h e

-- an entering reference takes a free place among the four
place_taken : (ms : List Pending) (f : Bool) → (f && is_none (place_for ms)) ≡ false → f ≡ true
    → (list_any (in_place (unwrap_or (place_for ms) 0)) ms ≡ false) × (unwrap_or (place_for ms) 0 < 4)
place_taken ms f h e = by_place (place_for ms) refl (ap (λ x. x && is_none (place_for ms)) (sym e) ∙ h)
  where
    by_place : (o : Option ℕ) → place_for ms ≡ o → (true && is_none o) ≡ false
        → (list_any (in_place (unwrap_or o 0)) ms ≡ false) × (unwrap_or o 0 < 4)
    by_place None i k = cc
    by_place (Some p) i k = place_found ms p i

-- ---- the events ----

-- the slots after an event
abbrev pub IsSlottedWhole : Processor → Type 0
IsSlottedWhole w = HasOwnSlots (length w.state.memory) w.pending

from_size : (old new : ℕ) (ms : List Pending) → new ≡ old → HasOwnSlots old ms → HasOwnSlots new ms
from_size old new ms e h = subst (λ n. HasOwnSlots n ms) (sym e) h

split_slotted : (w : Processor) (es : List Pending) (m : Pending) (ls : List Pending) → w.pending ≡ es ++ m ∷ ls
    → IsSlottedWhole w → HasOwnSlots (length w.state.memory) (es ++ m ∷ ls)
split_slotted w es m ls e h = subst (HasOwnSlots (length w.state.memory)) e h

read_slotted : (w : Processor) (u : FunctionalUnit) (o : Option (Found Pending Stage))
    → seek (stage_at u) w.pending ≡ o → IsSlottedWhole w → IsSlottedWhole (after_found w o (after_read w))
unfolding after_found after_read put_back
read_slotted w u None e h = h
read_slotted w u (Some f) e h =
    let p = seek_splits (stage_at u) w.pending f e in search (arith, slotted_stage, stage_found, split_slotted)

finish_slotted : (w : Processor) (u : FunctionalUnit) (o : Option (Found Pending Stage))
    → seek (stage_at u) w.pending ≡ o → IsSlottedWhole w → IsSlottedWhole (after_found w o (after_finish w))
unfolding after_found after_finish put_back
finish_slotted w u None e h = h
finish_slotted w u (Some f) e h =
    let p = seek_splits (stage_at u) w.pending f e in search (arith, slotted_stage, stage_found, split_slotted)

kept_slotted : (b : Bounds) (es : List Pending) (m : Pending) (ls : List Pending) (p : ℕ) (r : Option ProgramReference)
    (o : Option Outstanding) → rest_of b p r ≡ o → ((x : ProgramReference) → r ≡ Some x → IsLoadable x.access)
    → (enters (rest_of b 0 r) ≡ true → p < 4)
    → (enters (rest_of b 0 r) ≡ true → list_any (in_place p) (es ++ m ∷ ls) ≡ false) → HasOwnSlots b.size (es ++ m ∷ ls)
    → HasOwnSlots b.size (es ++ (kept m o ++ ls))
unfolding kept
kept_slotted b es m ls p r None e f g free h = slotted_without b.size es m ls h
kept_slotted b es m ls p r (Some l) e f g free h =
    slotted_after b.size es m ls l (rest_placed b m.unit p r l f g e) (rest_free b p r l (es ++ m ∷ ls) free e) h

store_at : (w : Processor) (f : Found Pending Stage) (t : Stage) → w.pending ≡ f.earlier ++ f.item ∷ f.later
    → refusal_of (store_tests (bounds_of w.state) w.pending t f.earlier f.item.instr) ≡ None → IsSlottedWhole w
    → IsSlottedWhole (after_store w f t)
unfolding store_tests after_store after_work put_back bounds_of work_of
store_at w f Unread s h k = k
store_at w f (HasRead os) s h k = k
store_at w f (Finished v) s h k =
    let test = (refusal_none _ h).1.0 in
    let b : Bounds = record { area = w.state.area; size = length w.state.memory } in
    from_size (length w.state.memory) _ _
    (ap (λ (x : Bounds). x.size) (write_and_jump-bounds b w.state (work_of (shape_of f.item.instr) v)))
    (kept_slotted b f.earlier f.item f.later (unwrap_or (place_for w.pending) 0)
    (reference_for (shape_of f.item.instr) v) _ refl
    (λ x e. reference_loadable (shape_of f.item.instr) v x (λ n i. loads_channel f.item.instr n i) e)
    (λ e. (place_taken w.pending _ test e).1)
    (λ e. ap (list_any (in_place (unwrap_or (place_for w.pending) 0))) (sym s) ∙ (place_taken w.pending _ test e).0)
    (split_slotted w f.earlier f.item f.later s k))

store_slotted : (w : Processor) (u : FunctionalUnit) (o : Option (Found Pending Stage))
    → seek (stage_at u) w.pending ≡ o
    → refusal_of (tests_found o (λ f. store_tests (bounds_of w.state) w.pending f.answer f.earlier f.item.instr))
    ≡ None → IsSlottedWhole w → IsSlottedWhole (after_found w o (λ f. after_store w f f.answer))
unfolding tests_found after_found
store_slotted w u None e h k = k
store_slotted w u (Some f) e h k = store_at w f f.answer (seek_splits (stage_at u) w.pending f e).0 h k

accept_at : (w : Processor) (f : Found Pending Reference) (slot a : ℕ) (access : Access) → w.pending ≡ f.earlier
    ++ f.item ∷ f.later → f.item.phase ≡ After (Entered slot a access) → IsSlottedWhole w
    → IsSlottedWhole (after_accept w f a access)
unfolding after_accept put_back store_word
accept_at w f slot a (LoadInto n) s e h =
    let k = split_slotted w f.earlier f.item f.later s h in
    slotted_after (length w.state.memory) f.earlier f.item f.later (Accepted n (get_or w.state.memory a 0))
    (placed_in (length w.state.memory) f.item (After (Entered slot a (LoadInto n))) e
    (proper_there (length w.state.memory) f.earlier f.item f.later k)).2
    (accepted_free n (get_or w.state.memory a 0) (f.earlier ++ f.item ∷ f.later)) k
accept_at w f slot a (StoreWord v) s e h =
    from_size (length w.state.memory) _ _ (length-set w.state.memory a v)
    (slotted_without (length w.state.memory) f.earlier f.item f.later
    (split_slotted w f.earlier f.item f.later s h))

accept_slotted : (w : Processor) (p : ℕ) (o : Option (Found Pending Reference)) → seek (entry_at p) w.pending ≡ o
    → IsSlottedWhole w → IsSlottedWhole (after_found w o (λ f. after_accept w f f.answer.address f.answer.access))
unfolding after_found
accept_slotted w p None e h = h
accept_slotted w p (Some f) e h =
    let q = seek_splits (entry_at p) w.pending f e in
    let k = entry_found p f.item f.answer q.1 in search (arith, accept_at)

return_slotted : (w : Processor) (c : ℕ) (o : Option (Found Pending Arrival)) → seek (arrival_at c) w.pending ≡ o
    → IsSlottedWhole w → IsSlottedWhole (after_found w o (after_return w))
unfolding after_found after_return put_back write
return_slotted w c None e h = h
return_slotted w c (Some f) e h =
    let q = seek_splits (arrival_at c) w.pending f e in
    slotted_without (length w.state.memory) f.earlier f.item f.later
    (split_slotted w f.earlier f.item f.later q.0 h)

-- ---- issue ----

-- a unit of this kind has a slot
abbrev IsInUse : UnitKind → FunctionalUnit → Type 0
IsInUse kind u = (unit_slot u < 7) × (may_take (Some kind) u ≡ true)

in_use : (kind : UnitKind) → Each (IsInUse kind) (units_of kind)
unfolding units_of unit_slot may_take same_unit
in_use kind = grind arith

first_free_found : (kind : UnitKind) (held : FunctionalUnit → Bool) (us : List FunctionalUnit) (u : FunctionalUnit)
    → Each (IsInUse kind) us → first_free held us ≡ Some u → (held u ≡ false) × IsInUse kind u
unfolding first_free
first_free_found kind held [] u h e = cc
first_free_found kind held (v ∷ us) u h e = grind (arith, first_free_found kind held us u h.1)

-- the unit that an instruction takes
pub record TakesUnit (ms : List Pending) (kind : Option UnitKind) (u : FunctionalUnit) : Type 0 where
  pub of_kind : may_take kind u ≡ true
  free : list_any (holds u) ms ≡ false
  in_use : unit_slot u < 7

held_is : (ms : List Pending) (u : FunctionalUnit) → is_held reservation_of ms u ≡ list_any (holds u) ms
unfolding is_held holds
held_is ms u = refl

pub unit_found : (ms : List Pending) (kind : Option UnitKind) → is_none (unit_for ms kind) ≡ false
    → TakesUnit ms kind (unwrap_or (unit_for ms kind) Branch)
unfolding free_unit_for free_unit
unit_found ms None h = cc
unit_found ms (Some kind) h = by_unit (first_free (is_held reservation_of ms) (units_of kind)) refl h
  where
    by_unit : (o : Option FunctionalUnit) → first_free (is_held reservation_of ms) (units_of kind) ≡ o
        → is_none o ≡ false
        → TakesUnit ms (Some kind) (unwrap_or o Branch)
    by_unit None i k = cc
    by_unit (Some u) i k =
        let f = first_free_found kind (is_held reservation_of ms) (units_of kind) u (in_use kind) i in
        record { of_kind = f.1.1; free = sym (held_is ms u) ∙ f.0; in_use = f.1.0 }

and_false : (f : Bool) → (f && true) ≡ false → f ≡ false
and_false true k = cc
and_false false k = refl

waiting_clash : (size : ℕ) (u v : FunctionalUnit) (p : Phase) → unit_slot u < 7 → IsPlaced size v p
    → (same_unit v u && is_reserved (occupancy_of p)) ≡ false → clash_in v p u (Before Unread) ≡ false
unfolding clash_in occupancy_of is_reserved
waiting_clash size u v (Before t) h k e = other_slot v u k h (and_false (same_unit v u) e)
waiting_clash size u v (After l) h k e = refl

new_clash : (size : ℕ) (x m : Pending) → m.phase ≡ Before Unread → unit_slot m.unit < 7 → IsProper size x
    → holds m.unit x ≡ false → clash x m ≡ false
unfolding clash holds board.holds reservation_of
new_clash size x m e h p k =
    ap (clash_in x.unit x.phase m.unit) e ∙ waiting_clash size m.unit x.unit x.phase h p.placed k

pub slotted_push : (size : ℕ) (ms : List Pending) (m : Pending) → m.phase ≡ Before Unread
    → may_take (uses m.instr).unit m.unit ≡ true → unit_slot m.unit < 7 → list_any (holds m.unit) ms ≡ false
    → HasOwnSlots size ms → HasOwnSlots size (ms ++ m ∷ [])
slotted_push size ms m e u h free s = record {
  apart = pairs_push (λ a b. clash a b ≡ false) ms m s.apart
      (each_both (IsProper size) (λ x. holds m.unit x ≡ false) (λ x. clash x m ≡ false)
      (λ x p k. new_clash size x m e h p k) ms s.proper
      (each_of_any (holds m.unit) (λ x. holds m.unit x ≡ false) (λ x k. k) ms free));
  proper = grind (arith, each_append);
}

pub issue_slotted : (w : Processor) (g : Fetched) → Each (λ t. t.fails ≡ false) (reservation_tests w.pending g)
    → IsSlottedWhole w → IsSlottedWhole (after_issue w g)
unfolding after_issue reservation_tests move_to halt_by
issue_slotted w g h s = grind (arith, unit_found, slotted_push, in_use)

exchange_slotted : (w : Processor) (o : Option ℕ) → w.pending ≡ [] → IsSlottedWhole w
    → IsSlottedWhole (after_exchange w o)
unfolding after_exchange
exchange_slotted w None e h = h
exchange_slotted w (Some n) e h = subst (HasOwnSlots _) (sym e) (record { apart = tt; proper = tt })

pub event_slotted : (w : Processor) (e : Event) → allowed w e ≡ None → IsSlottedWhole w → IsSlottedWhole (after w e)
unfolding allowed tests_of after after_pp_read after_pp_write store_word issue_tests exchange_tests
event_slotted w Issue h s = issue_slotted w _ (refusal_none _ h).1.1.1.1.1.1 s
event_slotted w (Read u) h s = read_slotted w u (seek (stage_at u) w.pending) refl s
event_slotted w (Finish u) h s = finish_slotted w u (seek (stage_at u) w.pending) refl s
event_slotted w (StoreResult u) h s = store_slotted w u (seek (stage_at u) w.pending) refl h s
event_slotted w (Accept p) h s = accept_slotted w p (seek (entry_at p) w.pending) refl s
event_slotted w (Return c) h s = return_slotted w c (seek (arrival_at c) w.pending) refl s
event_slotted w (BankFree k) h s = s
event_slotted w (Ask n) h s = s
event_slotted w Exchange h s = exchange_slotted w w.request (not_pending w.pending (refusal_none _ h).1.0) s
event_slotted w (PpRead a) h s = s
event_slotted w (PpWrite a v) h s =
    from_size (length w.state.memory) _ _ (length-set w.state.memory a v) s
