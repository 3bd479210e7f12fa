-- A board's slots, after one is read, emptied or filled.
use Rattle.std.proofs.Common.{◌≡◌, ◌≢◌, ◌<◌, ◌+◌, ℕ, zero, suc, Bool, true, false, cond, List, [], ◌∷◌, ◌++◌, Option}
use Rattle.std.proofs.Common.{Some, None, refl, sym, ap, ◌∙◌, subst, ltb, get_or, set, length, arith}
use Rattle.std.specs.Prelude.{◌&&◌}
use Rattle.std.proofs.lemmas.Bool.{eq-eqb, ne_eqb, and_right}
use Rattle.instructions.specs.declared.instr.Reg.{Reg}
use Rattle.instructions.specs.declared.instr.Unit.{Unit as FunctionalUnit}
use Rattle.instructions.specs.declared.instr.Unit.TheVariants.{Branch, Boolean, Shift, Add, LongAdd, Multiply1}
use Rattle.instructions.specs.declared.instr.Unit.TheVariants.{Multiply2, Divide, Increment1, Increment2}
use Rattle.scoreboard.specs.declared.reservation.Occupancy.{Occupancy}
use Rattle.scoreboard.specs.declared.reservation.Occupancy.TheVariants.{Reserved, Left}
use Rattle.scoreboard.specs.Reservations.{holds, is_reserved}
use Rattle.scoreboard.specs.Units.{unit_number, same_unit}
use Rattle.scoreboard.specs.declared.issued.Issued.{Issued}
use Rattle.scoreboard.specs.declared.writer.Writer.{Writer}
use Rattle.scoreboard.specs.Answers.{held_in, returns_in, returning_by}
use Rattle.instructions.specs.Each.{Each, Pairs}
use Rattle.scoreboard.specs.Issued.{number_of, written_by, or_else, first_some, if_earlier, writer_before}
use Rattle.instructions.specs.Order.{somes}
use Rattle.scoreboard.specs.inner.View.{IsOther, slot_in, slot_of}
use Rattle.scoreboard.specs.Writers.{forget}
use Rattle.instructions.proofs.Lists.{each_left, each_right, each_append, each_map, pairs_before, pairs_right}
use Rattle.instructions.proofs.Lists.{pairs_without, pairs_insert}
use Rattle.instructions.proofs.Sorted.{before_place, after_place, somes-at, somes-set_some, somes-set_none, somes-empty}
use Rattle.instructions.proofs.Slots.{within, HasOwnKeys}
use Rattle.scoreboard.proofs.in_slots.Writing.{IsAlone, first_at, first_none, first_replaced, forget_first}
use Rattle.scoreboard.proofs.in_slots.Writing.{forgotten_rest, earlier_alone, earlier_forget}

-- ---- two lists of slots as one ----

pub get_back : {K : Type 0} (xs ys : List K) (i j : ℕ) (d : K) → j ≡ length xs + i
    → get_or (xs ++ ys) j d ≡ get_or ys i d
get_back [] ys i j d h = let e : j ≡ i = omega (arith, h) in ap (λ k. get_or ys k d) e
get_back (x ∷ xs) ys i zero d h = absurd (omega (arith, h))
get_back (x ∷ xs) ys i (suc j) d h = get_back xs ys i j d (omega (arith, h))

pub set_back : {K : Type 0} (xs ys : List K) (i j : ℕ) (v : K) → j ≡ length xs + i → set (xs ++ ys) j v ≡ xs
    ++ set ys i v
set_back [] ys i j v h = let e : j ≡ i = omega (arith, h) in ap (λ k. set ys k v) e
set_back (x ∷ xs) ys i zero v h = absurd (omega (arith, h))
set_back (x ∷ xs) ys i (suc j) v h = ap (λ l. x ∷ l) (set_back xs ys i j v (omega (arith, h)))

-- ---- which slot is whose ----

pub unit_below : (u : FunctionalUnit) → unit_number u < 10
unit_below Branch = omega arith
unit_below Boolean = omega arith
unit_below Shift = omega arith
unit_below Add = omega arith
unit_below LongAdd = omega arith
unit_below Multiply1 = omega arith
unit_below Multiply2 = omega arith
unit_below Divide = omega arith
unit_below Increment1 = omega arith
unit_below Increment2 = omega arith

holds_in : (u v : FunctionalUnit) (p : Occupancy) → slot_in v p ≡ unit_number u → (same_unit v u && is_reserved p) ≡ true
unfolding slot_in same_unit is_reserved
holds_in u v (Reserved has_read) h = ap (λ b. b && true) (eq-eqb (unit_number v) (unit_number u) h)
holds_in u v (Left None) h = absurd (let b = unit_below u in omega (arith, h, b))
holds_in u v (Left (Some n)) h = absurd (let b = unit_below u in omega (arith, h, b))

pub stands_holds : (u : FunctionalUnit) (x : Issued) → slot_of x ≡ unit_number u → holds u x.reservation ≡ true
unfolding holds slot_of
stands_holds u x h = holds_in u x.reservation.unit x.reservation.occupancy h

holds_not_in : (u v : FunctionalUnit) (p : Occupancy) → (slot_in v p ≡ unit_number u → ⊥)
    → (same_unit v u && is_reserved p) ≡ false
unfolding slot_in same_unit is_reserved
holds_not_in u v (Reserved has_read) h = ap (λ b. b && true) (ne_eqb (unit_number v) (unit_number u) h)
holds_not_in u v (Left o) h = and_right (same_unit v u) false refl

pub stands_not : (u : FunctionalUnit) (x : Issued) → (slot_of x ≡ unit_number u → ⊥) → holds u x.reservation ≡ false
unfolding holds slot_of
stands_not u x h = holds_not_in u x.reservation.unit x.reservation.occupancy h

pub stands_held : (u : FunctionalUnit) (x : Issued) → slot_of x ≡ unit_number u → held_in u x ≡ Some x.reservation.instr
unfolding held_in
stands_held u x h = ap (λ b. cond b (Some x.reservation.instr) None) (stands_holds u x h)

pub stands_not_held : (u : FunctionalUnit) (x : Issued) → (slot_of x ≡ unit_number u → ⊥) → held_in u x ≡ None
unfolding held_in
stands_not_held u x h = ap (λ b. cond b (Some x.reservation.instr) None) (stands_not u x h)

-- a reservation in a unit's slot holds that unit
reserved_in : (u v : FunctionalUnit) (p : Occupancy) → slot_in v p ≡ unit_number u → (b : Bool) × (p ≡ Reserved b)
    × (same_unit v u ≡ true)
unfolding slot_in same_unit
reserved_in u v (Reserved has_read) h = (has_read, refl, eq-eqb (unit_number v) (unit_number u) h)
reserved_in u v (Left None) h = absurd (let b = unit_below u in omega (arith, h, b))
reserved_in u v (Left (Some n)) h = absurd (let b = unit_below u in omega (arith, h, b))

pub stands_reserved : (u : FunctionalUnit) (x : Issued) → slot_of x ≡ unit_number u → (b : Bool)
    × (x.reservation.occupancy ≡ Reserved b) × (same_unit x.reservation.unit u ≡ true)
unfolding slot_of
stands_reserved u x h = reserved_in u x.reservation.unit x.reservation.occupancy h

returns_at : (n : ℕ) (v : FunctionalUnit) (p : Occupancy) → n < 8 → slot_in v p ≡ 10 + n → p ≡ Left (Some n)
unfolding slot_in
returns_at n v (Reserved has_read) b h = absurd (let k = unit_below v in omega (arith, h, k))
returns_at n v (Left None) b h = absurd (omega (arith, h, b))
returns_at n v (Left (Some m)) b h = let e : m ≡ n = omega (arith, h) in ap (λ k. Left (Some k)) e

pub stands_returning : (n : ℕ) (x : Issued) → n < 8 → slot_of x ≡ 10 + n → x.reservation.occupancy ≡ Left (Some n)
unfolding slot_of
stands_returning n x b h = returns_at n x.reservation.unit x.reservation.occupancy b h

pub stands_returns : (n : ℕ) (x : Issued) → n < 8 → slot_of x ≡ 10 + n → returning_by n x ≡ Some x.reservation.instr
unfolding returning_by returns_in
stands_returns n x b h =
    ap (λ t. cond t (Some x.reservation.instr) None) (ap (returns_in n) (stands_returning n x b h) ∙ eq-eqb n n refl)

returns_not_in : (n : ℕ) (v : FunctionalUnit) (p : Occupancy) → (slot_in v p ≡ 10 + n → ⊥) → returns_in n p ≡ false
unfolding slot_in returns_in
returns_not_in n v (Reserved has_read) h = refl
returns_not_in n v (Left None) h = refl
returns_not_in n v (Left (Some m)) h = ne_eqb m n (λ e. h (ap (λ k. 10 + k) e))

pub stands_not_returning : (n : ℕ) (x : Issued) → (slot_of x ≡ 10 + n → ⊥) → returning_by n x ≡ None
unfolding returning_by slot_of
stands_not_returning n x h = ap (λ t. cond t (Some x.reservation.instr) None) (returns_not_in n x.reservation.unit
    x.reservation.occupancy h)

-- ---- pairs in slots ----

pub pairs_map : {X : Type 0} (R S : X → X → Type 0) → ((x y : X) → R x y → S x y) → (xs : List X) → Pairs R xs
    → Pairs S xs
pairs_map R S f [] h = tt
pairs_map R S f (x ∷ xs) h = (each_map (R x) (S x) (f x) xs h.0, pairs_map R S f xs h.1)

pub other_flip : (x y : Issued) → IsOther x y → IsOther y x
other_flip x y h = grind arith

-- the other reservations, after one is removed
pub others_of : (os : List (Option Issued)) (i : ℕ) (x : Issued) → get_or os i None ≡ Some x → Pairs IsOther (somes os)
    → Each (IsOther x) (somes (set os i None))
others_of os i x h p =
    let split = subst (Pairs IsOther) (somes-at os i x h) p in
    subst (Each (IsOther x)) (sym (somes-set_none os i (within os i x h)))
    (each_append (IsOther x) (before_place os i) (after_place os i)
    (each_map (λ y. IsOther y x) (IsOther x) (λ y k. other_flip y x k) (before_place os i)
    (pairs_before IsOther (before_place os i) x (after_place os i) split))
    (pairs_right IsOther (before_place os i) (x ∷ after_place os i) split).0)

pub pairs_taken : (os : List (Option Issued)) (i : ℕ) (x : Issued) → get_or os i None ≡ Some x
    → Pairs IsOther (somes os) → Pairs IsOther (somes (set os i None))
pairs_taken os i x h p =
    subst (Pairs IsOther) (sym (somes-set_none os i (within os i x h)))
    (pairs_without IsOther (before_place os i) x (after_place os i) (subst (Pairs IsOther) (somes-at os i x h) p))

pub pairs_put : (os : List (Option Issued)) (i : ℕ) (y : Issued) → get_or os i None ≡ None → i < length os
    → Each (IsOther y) (somes os) → Pairs IsOther (somes os) → Pairs IsOther (somes (set os i (Some y)))
pairs_put os i y h l d p =
    let e = somes-empty os i h l in
    let dd = subst (Each (IsOther y)) e d in
    subst (Pairs IsOther) (sym (somes-set_some os i y l))
    (pairs_insert IsOther (before_place os i) y (after_place os i) (subst (Pairs IsOther) e p)
    (each_map (IsOther y) (λ z. IsOther z y) (λ z k. other_flip y z k) (before_place os i)
    (each_left (IsOther y) (before_place os i) (after_place os i) dd))
    (each_right (IsOther y) (before_place os i) (after_place os i) dd))

pub each_taken : (P : Issued → Type 0) (os : List (Option Issued)) (i : ℕ) (x : Issued) → get_or os i None ≡ Some x
    → Each P (somes os) → Each P (somes (set os i None))
each_taken P os i x h p =
    let split = subst (Each P) (somes-at os i x h) p in
    subst (Each P) (sym (somes-set_none os i (within os i x h)))
    (each_append P (before_place os i) (after_place os i)
    (each_left P (before_place os i) (x ∷ after_place os i) split)
    (each_right P (before_place os i) (x ∷ after_place os i) split).1)

pub each_here : (P : Issued → Type 0) (os : List (Option Issued)) (i : ℕ) (x : Issued) → get_or os i None ≡ Some x
    → Each P (somes os) → P x
each_here P os i x h p =
    (each_right P (before_place os i) (x ∷ after_place os i) (subst (Each P) (somes-at os i x h) p)).0

pub each_put : (P : Issued → Type 0) (os : List (Option Issued)) (i : ℕ) (y : Issued) → get_or os i None ≡ None
    → i < length os → P y → Each P (somes os) → Each P (somes (set os i (Some y)))
each_put P os i y h l q p =
    let dd = subst (Each P) (somes-empty os i h l) p in
    subst (Each P) (sym (somes-set_some os i y l))
    (each_append P (before_place os i) (y ∷ after_place os i) (each_left P (before_place os i) (after_place os i) dd)
    (q, each_right P (before_place os i) (after_place os i) dd))

pub own_keys : (xs : List Issued) → Pairs IsOther xs → HasOwnKeys number_of xs
own_keys xs h = pairs_map IsOther (λ a b. number_of a ≢ number_of b) (λ x y k. k.number) xs h

-- ---- who writes, when a slot changes ----

first_taken : {W : Type 0} (f : Issued → Option W) (os : List (Option Issued)) (i : ℕ) (x : Issued)
    → get_or os i None ≡ Some x → Each (IsAlone f x) (somes (set os i None))
    → first_some f (somes os) ≡ or_else (f x) (first_some f (somes (set os i None)))
first_taken f os i x h a =
    let e = somes-set_none os i (within os i x h) in
    ap (first_some f) (somes-at os i x h)
    ∙ first_at f (before_place os i) x (after_place os i)
    (each_left (IsAlone f x) (before_place os i) (after_place os i) (subst (Each (IsAlone f x)) e a))
    ∙ ap (λ l. or_else (f x) (first_some f l)) (sym e)

first_put : {W : Type 0} (f : Issued → Option W) (os : List (Option Issued)) (i : ℕ) (y : Issued)
    → get_or os i None ≡ None → i < length os → Each (IsAlone f y) (somes os)
    → first_some f (somes (set os i (Some y))) ≡ or_else (f y) (first_some f (somes os))
first_put f os i y h l a =
    let e = somes-empty os i h l in
    ap (first_some f) (somes-set_some os i y l)
    ∙ first_at f (before_place os i) y (after_place os i)
    (each_left (IsAlone f y) (before_place os i) (after_place os i) (subst (Each (IsAlone f y)) e a))
    ∙ ap (λ l. or_else (f y) (first_some f l)) (sym e)

alone_among : (n : ℕ) (r : Reg) (x : Issued) (ys : List Issued) → Each (IsOther x) ys
    → Each (IsAlone (if_earlier n (written_by r)) x) ys
alone_among n r x ys h =
    each_map (IsOther x) (IsAlone (if_earlier n (written_by r)) x) (λ y k. earlier_alone n r x y (k.results r)) ys h

pub writer_taken : (n : ℕ) (r : Reg) (os : List (Option Issued)) (i : ℕ) (x : Issued) → get_or os i None ≡ Some x
    → Pairs IsOther (somes os) → writer_before n (somes os) r
    ≡ or_else (if_earlier n (written_by r) x) (writer_before n (somes (set os i None)) r)
unfolding writer_before
writer_taken n r os i x h p = grind (arith, first_taken, alone_among, others_of)

pub writer_put : (n : ℕ) (r : Reg) (os : List (Option Issued)) (i : ℕ) (y : Issued) → get_or os i None ≡ None
    → i < length os → Each (IsOther y) (somes os)
    → writer_before n (somes (set os i (Some y))) r
    ≡ or_else (if_earlier n (written_by r) y) (writer_before n (somes os) r)
unfolding writer_before
writer_put n r os i y h l d = first_put (if_earlier n (written_by r)) os i y h l (alone_among n r y (somes os) d)

-- a reservation that has written is removed
pub writer_gone : (w : Writer) (n : ℕ) (r : Reg) (os : List (Option Issued)) (i : ℕ) (x : Issued)
    → get_or os i None ≡ Some x → Pairs IsOther (somes os)
    → ((s : Reg) → Each (λ y. forget w (written_by s y) ≡ written_by s y) (somes (set os i None)))
    → or_else (forget w (if_earlier n (written_by r) x)) (writer_before n (somes (set os i None)) r)
    ≡ forget w (writer_before n (somes os) r)
unfolding writer_before
writer_gone w n r os i x h p k =
    let f : Issued → Option Writer = if_earlier n (written_by r) in
    forgotten_rest w (f x) (first_some f (somes (set os i None)))
    (λ e. first_none f x (somes (set os i None)) (alone_among n r x (somes (set os i None)) (others_of os i x h p)) e)
    (forget_first w f (somes (set os i None))
    (each_map (λ y. forget w (written_by r y) ≡ written_by r y) (λ y. forget w (f y) ≡ f y)
    (λ y q. earlier_forget w n r y q) (somes (set os i None)) (k r)))
    ∙ ap (forget w) (sym (writer_taken n r os i x h p))

-- a reservation is replaced by one with the same writers
pub writer_same : (n : ℕ) (r : Reg) (os : List (Option Issued)) (i : ℕ) (x y : Issued) → get_or os i None ≡ Some x
    → number_of x ≡ number_of y → written_by r x ≡ written_by r y
    → writer_before n (somes (set os i (Some y))) r ≡ writer_before n (somes os) r
unfolding writer_before number_of if_earlier
writer_same n r os i x y h e k =
    ap (first_some (if_earlier n (written_by r))) (somes-set_some os i y (within os i x h))
    ∙ sym (first_replaced (if_earlier n (written_by r)) (before_place os i) x y (after_place os i)
    (ap (λ m. cond (ltb m n) (written_by r x) None) e ∙ ap (λ o. cond (ltb y.number n) o None) k))
    ∙ ap (first_some (if_earlier n (written_by r))) (sym (somes-at os i x h))
