-- The next event for the oldest pending instruction is allowed, and reduces the remaining work.
use Rattle.std.proofs.Common.{◌≡◌, ◌≤◌, ◌+◌, ℕ, zero, suc, Bool, true, false, cond, List, [], ◌∷◌, ◌++◌, Option, Some}
use Rattle.std.proofs.Common.{None, refl, ap, ◌∙◌, get_or, set, arith}
use Rattle.std.specs.Prelude.{◌&&◌, not, is_some, is_none, IfSome}
use Rattle.std.proofs.lemmas.Bool.{or_from, and_left, and_right, eq-eqb}
use Rattle.std.proofs.lemmas.Option.{same_Some}
use Rattle.std.specs.List.{list_any}
use Rattle.instructions.specs.Shape.{Shape, shape_of, sets_of, has_reference}
use Rattle.instructions.specs.declared.instr.Unit.{Unit as FunctionalUnit}
use Rattle.relocation.specs.declared.area.Access.{Access}
use Rattle.relocation.specs.declared.area.Access.TheVariants.{Load as LoadInto, Store as StoreWord}
use Rattle.hopper.specs.Hopper.{bank_of, first_place, free_place}
use Rattle.scoreboard.specs.Conflicts as conflict
use Rattle.scoreboard.specs.Units.{unit_number, same_unit}
use Rattle.sequential.specs.State.{Bounds}
use Rattle.sequential.specs.Work.{reference_for, work_of}
use Rattle.unit_ops.specs.declared.Operands.{Operands}
use Rattle.unit_ops.specs.declared.UnitValue.{UnitValue}
use Rattle.program_order.specs.declared.event.Event.{Event}
use Rattle.program_order.specs.declared.event.Event.TheVariants.{Read, Finish, Store as StoreResult, Accept, Return}
use Rattle.program_order.specs.declared.event.Event.TheVariants.{BankFree}
use Rattle.in_flight.specs.declared.pending.Outstanding.{Outstanding}
use Rattle.in_flight.specs.declared.pending.Outstanding.TheVariants.{Entered, Accepted}
use Rattle.in_flight.specs.declared.pending.Pending.{Pending}
use Rattle.in_flight.specs.declared.pending.Phase.{Phase}
use Rattle.in_flight.specs.declared.pending.Phase.TheVariants.{Before, After}
use Rattle.in_flight.specs.declared.pending.Stage.{Stage}
use Rattle.in_flight.specs.declared.pending.Stage.TheVariants.{Unread, Read as HasRead, Finished}
use Rattle.instructions.specs.Each.{Each}
use Rattle.in_flight.specs.Pending.{is_entered, entered_in, has_turn}
use Rattle.in_flight.specs.Apart.{IsApart}
use Rattle.program_order.specs.Invariant.{IsSound}
use Rattle.instructions.specs.Finding.{Found, seek, put_back}
use Rattle.program_order.specs.Processor.{Processor}
use Rattle.program_order.specs.Units.{finish_tests, rest_of, store_tests, stage_after_read}
use Rattle.program_order.specs.Units.{stage_after_finish, after_read, after_finish, after_work, after_store}
use Rattle.program_order.specs.Events.{tests_of, allowed, after_found, after}
use Rattle.program_order.specs.Memory.{after_accept, after_return}
use Rattle.in_flight.specs.Tests.{Test, refusal_of, tests_found, read_tests, accept_tests, return_tests, free_tests}
use Rattle.in_flight.specs.Lookup.{stage_in, stage_at, entry_in, entry_at, arrival_in, arrival_at, enters, in_place}
use Rattle.in_flight.specs.Flight.{entering, outstanding_of, relocated}
use Rattle.in_flight.specs.Lookup.{place_for, is_pending, in_phase, kept}
use Rattle.in_flight.proofs.answering.Beside.{same_place}
use Rattle.in_flight.proofs.answering.Referring.{turn_there}
use Rattle.program_order.specs.Drain.{next_in, next_of, reference_cost, stage_cost, outstanding_cost}
use Rattle.program_order.specs.Drain.{phase_cost, cost, work_left}
use Rattle.program_order.proofs.effects.Effects.{no_reference}
use Rattle.instructions.proofs.Finding.{seek_around}

-- ---- it is allowed ----

refusal_from : (ts : List Test) → Each (λ t. t.fails ≡ false) ts → refusal_of ts ≡ None
unfolding refusal_of
refusal_from [] h = refl
refusal_from (t ∷ ts) h = ap (λ b. cond b (Some t.refusal) (refusal_of ts)) h.0 ∙ refusal_from ts h.1

any_none : {K : Type 0} (f : K → Bool) → ((x : K) → f x ≡ false) → (xs : List K) → list_any f xs ≡ false
any_none f h [] = refl
any_none f h (x ∷ xs) = or_from (f x) (list_any f xs) (h x) (any_none f h xs)

seek_first : {K : Type 0} (f : Pending → Option K) (ms ls : List Pending) (m : Pending) (x : K) → ms ≡ m ∷ ls
    → f m ≡ Some x → seek f ms ≡ Some (record { earlier = []; item = m; answer = x; later = ls })
seek_first f ms ls m x e h = ap (seek f) e ∙ seek_around f [] m x ls tt h

same_self : (u : FunctionalUnit) → same_unit u u ≡ true
unfolding same_unit
same_self u = eq-eqb (unit_number u) (unit_number u) refl

pub stage_first : (m : Pending) (t : Stage) → m.phase ≡ Before t → stage_at m.unit m ≡ Some t
unfolding stage_at stage_in
stage_first m t e = ap (λ b. cond b (stage_in m.phase) None) (same_self m.unit) ∙ ap stage_in e

pub entry_first : (m : Pending) (place a : ℕ) (access : Access) → m.phase ≡ After (Entered place a access)
    → entry_at place m ≡ Some (record { address = a; access = access })
unfolding entry_at entry_in
entry_first m place a access e = grind arith

pub arrival_first : (m : Pending) (n word : ℕ) → m.phase ≡ After (Accepted n word)
    → arrival_at n m ≡ Some (record { channel = n; word = word })
unfolding arrival_at arrival_in
arrival_first m n word e =
    ap (arrival_in n) e ∙ ap (λ b. cond b (Some (record { channel = n; word = word })) None) (eq-eqb n n refl)

-- the tests of an event that finds the oldest instruction
first_allowed : {K : Type 0} (f : Pending → Option K) (tests : Found Pending K → List Test) (ms ls : List Pending)
    (m : Pending) (x : K) → ms ≡ m ∷ ls → f m ≡ Some x
    → Each (λ t. t.fails ≡ false) (tests (record { earlier = []; item = m; answer = x; later = ls }))
    → refusal_of (tests_found (seek f ms) tests) ≡ None
unfolding tests_found
first_allowed f tests ms ls m x e h k =
    ap (λ o. refusal_of (tests_found o tests)) (seek_first f ms ls m x e h) ∙ refusal_from _ k

no_place : (p : ℕ) (q : Phase) → entered_in q ≡ false → is_some (entry_in p q) ≡ false
unfolding entered_in entry_in
no_place p q e = grind arith

and_true_right : (f g : Bool) → g ≡ true → (f && g) ≡ false → f ≡ false
and_true_right false g e h = refl
and_true_right true g e h = cc

-- if the oldest instruction still has a reference to make, no later instruction waits in the hopper
none_entered : (m : Pending) (ls : List Pending) → has_turn m ≡ true → Each (IsApart m) ls
    → list_any (in_place 0) ls ≡ false
unfolding in_place entry_at is_entered
none_entered m [] e h = refl
none_entered m (l ∷ ls) e h = grind (arith, none_entered m ls e h.1, no_place, and_true_right, or_from)

place_is_free : (m : Pending) (ms ls : List Pending) (t : Stage) → ms ≡ m ∷ ls → m.phase ≡ Before t → has_turn m ≡ true
    → Each (IsApart m) ls → is_none (place_for ms) ≡ false
unfolding free_place first_place in_place entry_at entered_in
place_is_free m ms ls t e p k h = grind (arith, same_place, no_place, none_entered, or_from)

enters_nothing : (b : Bounds) (h : Shape) (v : UnitValue) → has_reference h ≡ false
    → enters (rest_of b 0 (reference_for h v)) ≡ false
unfolding relocated outstanding_of enters
enters_nothing b h v e = ap (λ r. enters (rest_of b 0 r)) (no_reference h v e)

hopper_has_room : (b : Bounds) (m : Pending) (ms ls : List Pending) (v : UnitValue) (f : Bool)
    → has_reference (shape_of m.instr) ≡ f → ms ≡ m ∷ ls → m.phase ≡ Before (Finished v) → Each (IsApart m) ls
    → (enters (rest_of b 0 (work_of (shape_of m.instr) v).reference) && is_none (place_for ms)) ≡ false
unfolding work_of
hopper_has_room b m ms ls v false k e p h = and_left _ _ (enters_nothing b (shape_of m.instr) v k)
hopper_has_room b m ms ls v true k e p h =
    and_right _ _ (place_is_free m ms ls (Finished v) e p (turn_there m (Finished v) p k) h)

-- the tests of the events of a drain
unfoldable working_tests : Unit {0}
unfolding read_tests finish_tests store_tests accept_tests return_tests free_tests
working_tests = tt

oldest_allowed : (w : Processor) (m : Pending) (ls : List Pending) (p : Phase) → w.pending ≡ m ∷ ls → m.phase ≡ p
    → Each (IsApart m) ls → allowed w (next_in m.unit p w.busy) ≡ None
unfolding next_in allowed tests_of working_tests conflict.awaited conflict.to_be_read
oldest_allowed w m ls (Before Unread) e p h = search (arith, first_allowed, stage_first, any_none)
oldest_allowed w m ls (Before (HasRead os)) e p h =
    first_allowed (stage_at m.unit) _ w.pending ls m (HasRead os) e (stage_first m (HasRead os) p) tt
oldest_allowed w m ls (Before (Finished v)) e p h =
    first_allowed (stage_at m.unit) _ w.pending ls m (Finished v) e (stage_first m (Finished v) p) (
      any_none _ (λ r. refl) (sets_of (shape_of m.instr)),
      grind (arith, hopper_has_room, and_right),
    )
oldest_allowed w m ls (After (Entered place a access)) e p h = by_bank (get_or w.busy (bank_of a) false) refl
  where
    by_bank : (b : Bool) → get_or w.busy (bank_of a) false ≡ b
        → allowed w (cond b (BankFree (bank_of a)) (Accept place)) ≡ None
    by_bank true k = refusal_from _ (ap not k, tt)
    by_bank false k = search (arith, first_allowed, entry_first)
oldest_allowed w m ls (After (Accepted n word)) e p h = search (arith, first_allowed, arrival_first)

-- the next event is allowed
next_allowed : (w : Processor) (e : Event) → IsSound w → next_of w.pending w.busy ≡ Some e → allowed w e ≡ None
unfolding next_of
next_allowed w e s h = grind (arith, oldest_allowed, same_Some)

pub next_is_allowed : (v w : Processor) (o : Option Event) (held : List Pending) → IsSound v → v ≡ w → held ≡ v.pending
    → o ≡ next_of held v.busy → IfSome o (λ e. allowed w e ≡ None)
next_is_allowed v w o held s e h k = grind (arith, next_allowed)

-- if there is no next event, nothing is pending
pub nothing_next : (ms : List Pending) (busy : List Bool) → next_of ms busy ≡ None → is_pending ms ≡ false
unfolding next_of is_pending
nothing_next [] busy h = refl
nothing_next (m ∷ ms) busy h = cc

-- ---- it takes from the work that is left ----

-- the step that is saved if the oldest instruction is in the hopper and its bank is free: only the acceptance remains
unfoldable pub saved_in : Phase → List Bool → ℕ
saved_in (Before t) busy = 0
saved_in (After (Entered place a access)) busy = cond (get_or busy (bank_of a) false) 0 1
saved_in (After (Accepted n word)) busy = 0

unfoldable pub saved_of : List Pending → List Bool → ℕ
saved_of [] busy = 0
saved_of (m ∷ ms) busy = saved_in m.phase busy

abbrev pub Eases : Processor → Processor → Type 0
Eases w v = work_left v.pending + 1 + saved_of w.pending w.busy ≤ work_left w.pending + saved_of v.pending v.busy

cost_in : (m : Pending) (p : Phase) → m.phase ≡ p → cost m ≡ phase_cost (shape_of m.instr) p
unfolding cost
cost_in m p e = ap (phase_cost (shape_of m.instr)) e

left_cost : Option Outstanding → ℕ
left_cost None = 0
left_cost (Some l) = outstanding_cost l

entering_load : (place n : ℕ) (o : Option ℕ) → left_cost (entering place o (LoadInto n)) ≤ 3
unfolding left_cost entering outstanding_cost
entering_load place n None = omega arith
entering_load place n (Some a) = omega arith

entering_store : (place word : ℕ) (o : Option ℕ) → left_cost (entering place o (StoreWord word)) ≤ 2
unfolding left_cost entering outstanding_cost
entering_store place word None = omega arith
entering_store place word (Some a) = omega arith

rest_cost : (b : Bounds) (place : ℕ) (h : Shape) (v : UnitValue)
    → left_cost (rest_of b place (reference_for h v)) ≤ reference_cost h
unfolding left_cost relocated outstanding_of reference_for reference_cost
rest_cost b place h v = grind (arith, entering_load, entering_store)

kept_work : (m : Pending) (o : Option Outstanding) (ls : List Pending)
    → work_left (kept m o ++ ls) ≡ left_cost o + work_left ls
unfolding kept work_left left_cost cost in_phase phase_cost
kept_work m None ls = omega arith
kept_work m (Some l) ls = refl

after_first : {K : Type 0} (w : Processor) (f : Pending → Option K) (g : Found Pending K → Processor)
    (ls : List Pending) (m : Pending) (x : K) → w.pending ≡ m ∷ ls → f m ≡ Some x
    → after_found w (seek f w.pending) g ≡ g (record { earlier = []; item = m; answer = x; later = ls })
unfolding after_found
after_first w f g ls m x e h = ap (λ o. after_found w o g) (seek_first f w.pending ls m x e h)

work_first : (w : Processor) (m : Pending) (ls : List Pending) (p : Phase) → w.pending ≡ m ∷ ls → m.phase ≡ p
    → work_left w.pending ≡ phase_cost (shape_of m.instr) p + work_left ls
unfolding work_left
work_first w m ls p e k = ap work_left e ∙ ap (λ n. n + work_left ls) (cost_in m p k)

saved_first : (w : Processor) (m : Pending) (ls : List Pending) (p : Phase) → w.pending ≡ m ∷ ls → m.phase ≡ p
    → saved_of w.pending w.busy ≡ saved_in p w.busy
unfolding saved_of
saved_first w m ls p e k = ap (λ ms. saved_of ms w.busy) e ∙ ap (λ q. saved_in q w.busy) k

-- an event that reduces the remaining work
eases : (w v : Processor) (ms : List Pending) (k : ℕ) → v.pending ≡ ms → saved_of w.pending w.busy ≡ k
    → work_left ms + 1 + k ≤ work_left w.pending → Eases w v
eases w v ms k e h l = let q : work_left v.pending ≡ work_left ms = ap work_left e in omega (arith, q, h, l)

less_read : (m : Pending) (ls : List Pending) (os : Operands) (n : ℕ)
    → n ≡ phase_cost (shape_of m.instr) (Before Unread) + work_left ls
    → work_left (in_phase m (Before (HasRead os)) ∷ ls) + 1 + 0 ≤ n
unfolding work_left cost in_phase phase_cost stage_cost
less_read m ls os n h = omega (arith, h)

less_finish : (m : Pending) (ls : List Pending) (os : Operands) (v : UnitValue) (n : ℕ)
    → n ≡ phase_cost (shape_of m.instr) (Before (HasRead os)) + work_left ls
    → work_left (in_phase m (Before (Finished v)) ∷ ls) + 1 + 0 ≤ n
unfolding work_left cost in_phase phase_cost stage_cost
less_finish m ls os v n h = omega (arith, h)

less_store : (m : Pending) (ls : List Pending) (b : Bounds) (place : ℕ) (v : UnitValue) (n : ℕ)
    → n ≡ phase_cost (shape_of m.instr) (Before (Finished v)) + work_left ls
    → work_left (kept m (rest_of b place (work_of (shape_of m.instr) v).reference) ++ ls) + 1 + 0 ≤ n
unfolding phase_cost stage_cost work_of
less_store m ls b place v n h = grind (arith, kept_work, rest_cost)

less_return : (ls : List Pending) (h : Shape) (n word k : ℕ)
    → k ≡ phase_cost h (After (Accepted n word)) + work_left ls → work_left ls + 1 + 0 ≤ k
unfolding phase_cost outstanding_cost
less_return ls h n word k e = omega (arith, e)

less_accept : (w : Processor) (m : Pending) (ls : List Pending) (place a : ℕ) (access : Access)
    → work_left (after_accept w (record {
      earlier = [];
      item = m;
      answer = record { address = a; access = access };
      later = ls;
    }) a access).pending + 2 ≤ outstanding_cost (Entered place a access) + work_left ls
unfolding after_accept put_back in_phase work_left cost phase_cost outstanding_cost
less_accept w m ls place a (LoadInto n) = omega arith
less_accept w m ls place a (StoreWord word) = omega arith

bank_freed : (busy : List Bool) (k : ℕ) → get_or (set busy k false) k false ≡ false
bank_freed [] k = refl
bank_freed (b ∷ busy) zero = refl
bank_freed (b ∷ busy) (suc k) = bank_freed busy k

entered_eases : (w : Processor) (m : Pending) (ls : List Pending) (place a : ℕ) (access : Access) (b : Bool)
    → get_or w.busy (bank_of a) false ≡ b → w.pending ≡ m ∷ ls → m.phase ≡ After (Entered place a access)
    → Eases w (after w (cond b (BankFree (bank_of a)) (Accept place)))
unfolding after saved_in phase_cost
entered_eases w m ls place a access true k e p =
    let v : Processor = record w { busy = set w.busy (bank_of a) false } in
    grind (
      arith,
      saved_first w m ls (After (Entered place a access)) e p,
      saved_first v m ls (After (Entered place a access)) e p,
      bank_freed w.busy (bank_of a),
    )
entered_eases w m ls place a access false k e p =
    eases w (after w (Accept place))
    (after_accept w (record { earlier = []; item = m; answer = record { address = a; access = access }; later = ls }) a
    access).pending 1
    (ap (λ (x : Processor). x.pending)
    (after_first w (entry_at place) (λ f. after_accept w f f.answer.address f.answer.access) ls m
    (record { address = a; access = access }) e (entry_first m place a access p)))
    (saved_first w m ls (After (Entered place a access)) e p ∙ ap (λ b. cond b 0 1) k)
    (let j = less_accept w m ls place a access in grind (arith, work_first w m ls (After (Entered place a access)) e p))

-- the changes that the events of a unit make to its instruction
unfoldable unit_changes : Unit {0}
unfolding after_read after_finish after_store after_work stage_after_read stage_after_finish
unit_changes = tt

oldest_eases : (w : Processor) (m : Pending) (ls : List Pending) (p : Phase) → w.pending ≡ m ∷ ls → m.phase ≡ p
    → Eases w (after w (next_in m.unit p w.busy))
unfolding next_in after unit_changes after_return put_back saved_in
oldest_eases w m ls (Before Unread) e p =
    eases w (after w (Read m.unit)) _ 0
    (ap (λ (x : Processor). x.pending)
    (after_first w (stage_at m.unit) (after_read w) ls m Unread e (stage_first m Unread p)))
    (saved_first w m ls (Before Unread) e p)
    (less_read m ls _ _ (work_first w m ls (Before Unread) e p))
oldest_eases w m ls (Before (HasRead os)) e p =
    eases w (after w (Finish m.unit)) _ 0
    (ap (λ (x : Processor). x.pending)
    (after_first w (stage_at m.unit) (after_finish w) ls m (HasRead os) e (stage_first m (HasRead os) p)))
    (saved_first w m ls (Before (HasRead os)) e p)
    (less_finish m ls os _ _ (work_first w m ls (Before (HasRead os)) e p))
oldest_eases w m ls (Before (Finished v)) e p =
    eases w (after w (StoreResult m.unit)) _ 0
    (ap (λ (x : Processor). x.pending)
    (after_first w (stage_at m.unit) (λ f. after_store w f f.answer) ls m (Finished v) e
    (stage_first m (Finished v) p)))
    (saved_first w m ls (Before (Finished v)) e p)
    (less_store m ls _ _ v _ (work_first w m ls (Before (Finished v)) e p))
oldest_eases w m ls (After (Entered place a access)) e p = entered_eases w m ls place a access _ refl e p
oldest_eases w m ls (After (Accepted n word)) e p =
    eases w (after w (Return n)) ls 0
    (ap (λ (x : Processor). x.pending)
    (after_first w (arrival_at n) (after_return w) ls m (record { channel = n; word = word }) e
    (arrival_first m n word p)))
    (saved_first w m ls (After (Accepted n word)) e p)
    (less_return ls (shape_of m.instr) n word _ (work_first w m ls (After (Accepted n word)) e p))

-- the next event reduces the remaining work
pub next_eases : (w : Processor) (e : Event) → next_of w.pending w.busy ≡ Some e → Eases w (after w e)
unfolding next_of
next_eases w e h = grind (arith, oldest_eases, same_Some)

saved_less : (h : Shape) (p : Phase) (busy : List Bool) → saved_in p busy + 1 ≤ phase_cost h p
unfolding saved_in phase_cost stage_cost outstanding_cost
saved_less h p busy = grind arith

-- if no work remains, nothing is pending
pub all_done : (ms : List Pending) (busy : List Bool) → work_left ms ≤ saved_of ms busy → is_pending ms ≡ false
unfolding work_left saved_of is_pending cost
all_done [] busy h = refl
all_done (m ∷ ms) busy h = absurd (let k = saved_less (shape_of m.instr) m.phase busy in omega (arith, h, k))
