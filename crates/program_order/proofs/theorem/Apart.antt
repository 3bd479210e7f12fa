-- Facts about the earlier instructions that follow from an event's tests and from the instructions being apart.
use Rattle.std.proofs.Common.{arith, ◌≡◌, ℕ, Bool, true, false, List, [], ◌∷◌, ◌++◌, Some, refl, sym, ap, ◌∙◌}
use Rattle.scoreboard.specs.Conflicts as conflict
use Rattle.scoreboard.specs.Reservations as board
use Rattle.in_flight.specs.Pending.{occupancy_of, reservation_of, awaited, entered_in, has_turn, holds_back}
use Rattle.in_flight.specs.Pending.{holds_back_in, is_branch, is_entered, to_be_read, to_come, waits_in, delays_access}
use Rattle.in_flight.proofs.asking.PendingReservations.{comes, reads_it}
use Rattle.in_flight.proofs.asking.Phases.{before_and, may_store, may_store_in, target_of, to_come_in}
use Rattle.scoreboard.specs.Reservations.{is_reserved}
use Rattle.std.specs.Prelude.{◌&&◌}
use Rattle.std.proofs.lemmas.Bool.{or_parts}
use Rattle.std.specs.List.{list_any}
use Rattle.instructions.proofs.Lists.{any_left, any_right, each_of_any, any_of_each, each_map, each_both, pairs_before}
use Rattle.instructions.proofs.Lists.{pairs_with}
use Rattle.program_order.proofs.Opened.{operands_to_read, results_to_come, turns_and_branches}
use Rattle.program_order.proofs.effects.Effects.{later_touches, no_reference}
use Rattle.program_order.proofs.effects.OnePending.{touches_in, touches}
use Rattle.program_order.proofs.effects.Completing.{IsFree, IsNoBranch}
use Rattle.hopper.specs.Hopper.{is_store, keep_order}
use Rattle.instructions.specs.RegisterLists.{is_in, overlap}
use Rattle.instructions.specs.Shape.{Shape, has_reference, has_store, loads_of, sets_of, results, shape_of}
use Rattle.instructions.specs.declared.instr.Reg.{Reg}
use Rattle.instructions.specs.declared.instr.Reg.TheVariants.{X}
use Rattle.instructions.specs.Each.{Each, Pairs}
use Rattle.in_flight.specs.Apart.{IsApart}
use Rattle.in_flight.specs.Lookup.{in_phase}
use Rattle.in_flight.specs.Flight.{outstanding_of, relocated}
use Rattle.program_order.specs.Units.{rest_of}
use Rattle.in_flight.specs.declared.pending.Outstanding.{Outstanding}
use Rattle.in_flight.specs.declared.pending.Outstanding.TheVariants.{Accepted, Entered}
use Rattle.in_flight.specs.declared.pending.Pending.{Pending}
use Rattle.in_flight.specs.declared.pending.Phase.{Phase}
use Rattle.in_flight.specs.declared.pending.Phase.TheVariants.{After, Before}
use Rattle.in_flight.specs.declared.pending.Stage.{Stage}
use Rattle.relocation.specs.declared.area.Access.{Access}
use Rattle.relocation.specs.declared.area.Access.TheVariants.{Load as LoadInto, Store as StoreWord}
use Rattle.sequential.specs.State.{Bounds}
use Rattle.sequential.specs.Work.{reference_for}
use Rattle.unit_ops.specs.declared.UnitValue.{UnitValue}

-- ---- reservations and columns ----

pub each_swap : {P Q : Type 0} (R : P → Q → Type 0) (ps : List P) (qs : List Q) → Each (λ p. Each (R p) qs) ps
    → Each (λ q. Each (λ p. R p q) ps) qs
each_swap R ps [] h = tt
each_swap R ps (q ∷ qs) h = (
  grind (arith, each_map),
  each_swap R ps qs (each_map (λ p. Each (R p) (q ∷ qs)) (λ p. Each (R p) qs) (λ p k. k.1) ps h),
)

-- ---- tests, spread out ----

pub not_awaited : (es : List Pending) (rs : List Reg) → list_any (awaited es) rs ≡ false
    → Each (λ r. Each (λ e. comes r e ≡ false) es) rs
unfolding conflict.awaited comes board.comes results_to_come
not_awaited es rs h =
    each_of_any (awaited es) _ (λ r k. each_of_any (comes r) (λ e. comes r e ≡ false) (λ e i. i) es k) rs h

pub none_reads : (es : List Pending) (rs : List Reg) → list_any (to_be_read es) rs ≡ false
    → Each (λ r. Each (λ e. reads_it r e ≡ false) es) rs
unfolding conflict.to_be_read reads_it board.reads_it operands_to_read
none_reads es rs h =
    each_of_any (to_be_read es) _ (λ r k. each_of_any (reads_it r) (λ e. reads_it r e ≡ false) (λ e i. i) es k) rs h

-- ---- registers ----

disjoint_each : (rs ts : List Reg) → overlap rs ts ≡ false → Each (λ r. is_in ts r ≡ false) rs
unfolding overlap
disjoint_each rs ts h = each_of_any (is_in ts) (λ r. is_in ts r ≡ false) (λ r k. k) rs h

each_disjoint : (rs ts : List Reg) → Each (λ r. is_in ts r ≡ false) rs → overlap rs ts ≡ false
unfolding overlap
each_disjoint rs ts h = any_of_each (is_in ts) (λ r. is_in ts r ≡ false) (λ r k. k) rs h

to_come_is : (m : Pending) (p : Phase) → m.phase ≡ p → to_come m ≡ to_come_in (shape_of m.instr) p
unfolding results_to_come
to_come_is m p e = ap (to_come_in (shape_of m.instr)) e

results_free : (h : Shape) (ts : List Reg) → overlap (results h) ts ≡ false → Each (λ r. is_in ts r ≡ false) (sets_of h)
unfolding overlap results
results_free h ts k = each_of_any (is_in ts) (λ r. is_in ts r ≡ false) (λ r i. i) (sets_of h)
    (any_left (is_in ts) (sets_of h) (loads_of h) k)

pub results_still : (h : Shape) (ts : List Reg) → overlap (results h) ts ≡ false → overlap (loads_of h) ts ≡ false
unfolding overlap results
results_still h ts k = any_right (is_in ts) (sets_of h) (loads_of h) k

-- the earlier instructions leave the registers alone that an instruction writes at its store event
pub free_to_put : (es : List Pending) (m : Pending) (t : Stage) → m.phase ≡ Before t → Each (λ e. IsApart e m) es
    → list_any (to_be_read es) (sets_of (shape_of m.instr)) ≡ false
    → Each (λ r. Each (IsFree r) es) (sets_of (shape_of m.instr))
unfolding results_to_come operands_to_read reads_it board.reads_it
free_to_put es m t e apart h =
    let rs = sets_of (shape_of m.instr) in
    let cols : Each (λ r. Each (λ e. is_in (to_come e) r ≡ false) es) rs =
    each_swap (λ e r. is_in (to_come e) r ≡ false) es rs
    (grind (arith, each_map, results_free, to_come_is)) in
    each_both (λ r. Each (λ e. is_in (to_come e) r ≡ false) es) (λ r. Each (λ e. reads_it r e ≡ false) es)
    (λ r. Each (IsFree r) es)
    (λ r p q. grind (arith, each_both, reads_it))
    rs cols (none_reads es rs h)

-- the earlier instructions leave the register of a load in its channel alone
pub free_to_return : (es : List Pending) (m : Pending) (c w : ℕ) → m.phase ≡ After (Accepted c w)
    → Each (λ e. IsApart e m) es → to_be_read es (X c) ≡ false → Each (IsFree (X c)) es
unfolding results_to_come operands_to_read target_of conflict.to_be_read reads_it board.reads_it
free_to_return es m c w e apart h =
    each_both (λ y. IsApart y m) (λ y. reads_it (X c) y ≡ false) (IsFree (X c))
    (λ y a j. record {
      not_to_come = (disjoint_each (X c ∷ []) (to_come y)
          (ap (λ l. overlap l (to_come y)) (sym (to_come_is m _ e)) ∙ a.disjoint)).0;
      not_read = j;
    })
    es apart (each_of_any (reads_it (X c)) (λ y. reads_it (X c) y ≡ false) (λ y i. i) es h)

-- ---- references ----

touches-from : (f : Bool) (a : ℕ) (p : Phase) → before_and f p ≡ false → waits_in a p ≡ false → touches_in f a p ≡ false
unfolding before_and waits_in touches_in later_touches is_reserved occupancy_of
touches-from f a p h k = grind arith

-- a store keeps its order with every reference to its address, so a reference that doesn't hold it back has another
-- address
touches-unless-held : (f : Bool) (a v : ℕ) (p : Phase) → before_and f p ≡ false
    → holds_back_in a (StoreWord v) p ≡ false → touches_in f a p ≡ false
unfolding before_and holds_back_in keep_order is_store touches_in later_touches is_reserved occupancy_of
touches-unless-held f a v p h k = grind arith

store_from_reference : (h : Shape) → has_reference h ≡ false → has_store h ≡ false
unfolding has_reference has_store
store_from_reference h e = grind arith

may_store-from : (h : Shape) (a : ℕ) (p : Phase) → before_and (has_reference h) p ≡ false → waits_in a p ≡ false
    → may_store_in (has_store h) a p ≡ false
unfolding before_and waits_in may_store_in is_reserved occupancy_of
may_store-from h a p i k = grind (arith, store_from_reference)

-- a load keeps its order with stores to its address; two loads of one address may be made in either order
may_store-unless-held : (h : Shape) (a n : ℕ) (p : Phase) → before_and (has_reference h) p ≡ false
    → holds_back_in a (LoadInto n) p ≡ false → may_store_in (has_store h) a p ≡ false
unfolding before_and holds_back_in keep_order is_store may_store_in is_reserved occupancy_of
may_store-unless-held h a n p i k = grind (arith, store_from_reference)

and_true : (f : Bool) → (true && f) ≡ false → f ≡ false
and_true f h = h

-- if an instruction waits in the hopper, each earlier one has had its store event
pub turns_past : (es : List Pending) (m : Pending) (slot a : ℕ) (access : Access)
    → m.phase ≡ After (Entered slot a access) → Each (λ e. IsApart e m) es → Each (λ e. has_turn e ≡ false) es
unfolding is_entered entered_in
turns_past es m slot a access e apart = grind (arith, each_map, and_true)

pub untouched : (es : List Pending) (a v : ℕ) → Each (λ e. has_turn e ≡ false) es
    → list_any (holds_back a (StoreWord v)) es ≡ false → Each (λ e. touches a e ≡ false) es
unfolding has_turn holds_back touches board.has_turn reservation_of before_and is_reserved occupancy_of
untouched es a v h k =
    each_both (λ y. has_turn y ≡ false) (λ y. holds_back a (StoreWord v) y ≡ false) (λ y. touches a y ≡ false)
    (λ y i j. touches-unless-held _ a v y.phase i j) es h
    (each_of_any (holds_back a (StoreWord v)) (λ y. holds_back a (StoreWord v) y ≡ false) (λ y i. i) es k)

pub unstored : (es : List Pending) (a n : ℕ) → Each (λ e. has_turn e ≡ false) es
    → list_any (holds_back a (LoadInto n)) es ≡ false → Each (λ e. may_store a e ≡ false) es
unfolding has_turn holds_back may_store board.has_turn reservation_of before_and is_reserved occupancy_of
unstored es a n h k =
    each_both (λ y. has_turn y ≡ false) (λ y. holds_back a (LoadInto n) y ≡ false) (λ y. may_store a y ≡ false)
    (λ y i j. may_store-unless-held (shape_of y.instr) a n y.phase i j) es h
    (each_of_any (holds_back a (LoadInto n)) (λ y. holds_back a (LoadInto n) y ≡ false) (λ y i. i) es k)

-- ---- peripheral accesses ----

abbrev DelaysNone : ℕ → Pending → Type 0
DelaysNone a m = delays_access a m ≡ false

delaying_none : (ms : List Pending) (a : ℕ) → list_any (delays_access a) ms ≡ false → Each (DelaysNone a) ms
delaying_none ms a h = each_of_any (delays_access a) (DelaysNone a) (λ m k. k) ms h

-- no pending instruction may read or write a word that a peripheral processor may access
pub untouched_by_access : (ms : List Pending) (a : ℕ) → list_any (delays_access a) ms ≡ false
    → Each (λ m. touches a m ≡ false) ms
unfolding delays_access has_turn touches board.has_turn reservation_of before_and is_reserved occupancy_of
untouched_by_access ms a h =
    each_map (DelaysNone a) (λ m. touches a m ≡ false)
    (λ m k. let p = or_parts _ _ k in touches-from _ a m.phase p.0 p.1) ms (delaying_none ms a h)

pub unstored_by_access : (ms : List Pending) (a : ℕ) → list_any (delays_access a) ms ≡ false
    → Each (λ m. may_store a m ≡ false) ms
unfolding delays_access has_turn may_store board.has_turn reservation_of before_and is_reserved occupancy_of
unstored_by_access ms a h =
    each_map (DelaysNone a) (λ m. may_store a m ≡ false)
    (λ m k. let p = or_parts _ _ k in may_store-from (shape_of m.instr) a m.phase p.0 p.1) ms (delaying_none ms a h)

-- ---- branches ----

pub no_branches : (es : List Pending) (m : Pending) → Each (λ e. IsApart e m) es → Each IsNoBranch es
no_branches es m apart = each_map (λ y. IsApart y m) IsNoBranch (λ y k. k.no_branch) es apart

-- ---- an instruction in another phase ----

-- the new instruction conflicts with no instruction with which the old one didn't
pub record IsLess (m' m : Pending) : Type 0 where
  pub comes_less : (ts : List Reg) → overlap (to_come m) ts ≡ false → overlap (to_come m') ts ≡ false
  pub in_less : (r : Reg) → is_in (to_come m) r ≡ false → is_in (to_come m') r ≡ false
  pub turn_less : has_turn m ≡ false → has_turn m' ≡ false
  pub branch_less : is_branch m ≡ false → is_branch m' ≡ false

and_less : (f x y : Bool) → (y ≡ false → x ≡ false) → (f && y) ≡ false → (f && x) ≡ false
and_less true x y g h = g h
and_less false x y g h = refl

apart_of_less : (m' m l : Pending) → IsLess m' m → IsApart m l → IsApart m' l
apart_of_less m' m l k a = grind (arith, each_disjoint, each_map, disjoint_each, and_less)

apart_to_less : (e m' m : Pending) → IsLess m' m → (is_entered m' && has_turn e) ≡ false → IsApart e m → IsApart e m'
apart_to_less e m' m k t a =
    record { disjoint = k.comes_less (to_come e) a.disjoint; in_turn = t; no_branch = a.no_branch }

-- replacing an instruction by one with fewer conflicts
pub pairs_less : (es : List Pending) (m' m : Pending) (ls : List Pending) → IsLess m' m
    → Each (λ e. (is_entered m' && has_turn e) ≡ false) es → Pairs IsApart (es ++ m ∷ ls)
    → Pairs IsApart (es ++ m' ∷ ls)
pairs_less es m' m ls k t h = search (arith, pairs_with, each_both, apart_to_less, pairs_before, apart_of_less)

pub less_before : (m : Pending) (t u : Stage) → m.phase ≡ Before t → IsLess (in_phase m (Before u)) m
unfolding results_to_come turns_and_branches
less_before m t u e = grind arith

pub less_after : (m : Pending) (t : Stage) (l : Outstanding) → m.phase ≡ Before t
    → target_of l ≡ loads_of (shape_of m.instr) → IsLess (in_phase m (After l)) m
unfolding results_to_come turns_and_branches target_of overlap is_in results
less_after m t l e f = grind (arith, results_still, to_come_in, any_right)

pub less_accepted : (m : Pending) (slot a n w : ℕ) → m.phase ≡ After (Entered slot a (LoadInto n))
    → IsLess (in_phase m (After (Accepted n w))) m
unfolding results_to_come turns_and_branches target_of
less_accepted m slot a n w e = grind arith

-- a reservation with a reference outstanding after its store event has a reference
left_has_reference : (b : Bounds) (slot : ℕ) (h : Shape) (v : UnitValue) (l : Outstanding) (f : Bool)
    → has_reference h ≡ f → rest_of b slot (reference_for h v) ≡ Some l → f ≡ true
unfolding relocated outstanding_of
left_has_reference b slot h v l f e k = grind (arith, no_reference)

-- at a store event in turn, the earlier references have had theirs
pub turns_at_store : (b : Bounds) (slot : ℕ) (h : Shape) (v : UnitValue) (l : Outstanding) (es : List Pending)
    → rest_of b slot (reference_for h v) ≡ Some l → (has_reference h && list_any has_turn es) ≡ false
    → Each (λ e. has_turn e ≡ false) es
turns_at_store b slot h v l es k t = grind (arith, left_has_reference, each_of_any)
