-- The writer of a register: the first answer in a list, and the answer for one reservation.
use Rattle.std.proofs.Common.{◌≡◌, ◌≤◌, ℕ, suc, Bool, true, false, cond, List, [], ◌∷◌, ◌++◌, Option, Some, None, refl}
use Rattle.std.proofs.Common.{sym, ap, ◌∙◌, eqb, ltb, map, arith}
use Rattle.std.specs.Prelude.{is_some, ◌&&◌, ◌||◌}
use Rattle.std.specs.List.{list_any}
use Rattle.std.proofs.lemmas.Bool.{ne_eqb, lt-ltb}
use Rattle.instructions.specs.declared.instr.Reg.{Reg}
use Rattle.instructions.specs.declared.instr.Reg.TheVariants.{X, A, B}
use Rattle.instructions.specs.declared.instr.Unit.{Unit as FunctionalUnit}
use Rattle.instructions.specs.RegisterLists.{is_in}
use Rattle.instructions.specs.Shape.{Shape, Sets, Loads, Stores, Jumps, Links, shape_of, sets_of, loads_of, results}
use Rattle.instructions.specs.Operands.{reg_eq}
use Rattle.scoreboard.specs.declared.reservation.Occupancy.{Occupancy}
use Rattle.scoreboard.specs.declared.reservation.Occupancy.TheVariants.{Reserved, Left}
use Rattle.scoreboard.specs.Reservations.{comes, to_come, to_come_in, returning_to}
use Rattle.scoreboard.specs.Units.{unit_number, same_unit}
use Rattle.scoreboard.specs.declared.issued.Issued.{Issued}
use Rattle.scoreboard.specs.declared.writer.Writer.{Writer}
use Rattle.scoreboard.specs.declared.writer.Writer.TheVariants.{OfUnit, OfChannel}
use Rattle.instructions.specs.Each.{Each}
use Rattle.scoreboard.specs.Issued.{channel_of, written_by_channel, written_in, written_by, or_else, first_some}
use Rattle.scoreboard.specs.Issued.{writer_of, if_earlier, writer_before}
use Rattle.scoreboard.specs.inner.View.{AreProducers, slot_in, slot_of}
use Rattle.scoreboard.specs.Writers.{same_writer, forget}

-- ---- the first answer ----

pub some_any : {M W : Type 0} (f : M → Option W) (xs : List M)
    → is_some (first_some f xs) ≡ list_any (λ x. is_some (f x)) xs
unfolding first_some or_else
some_any f [] = refl
some_any {M} {W} f (x ∷ xs) = grind (arith, some_any f xs)

pub first_same : {M W : Type 0} (f g : M → Option W) (xs : List M) → Each (λ x. f x ≡ g x) xs
    → first_some f xs ≡ first_some g xs
unfolding first_some
first_same f g [] h = refl
first_same f g (x ∷ xs) h = ap (λ o. or_else o (first_some f xs)) h.0 ∙ ap (or_else (g x)) (first_same f g xs h.1)

-- at most one of the two answers
abbrev pub IsAlone : {M W : Type 0} → (M → Option W) → M → M → Type 0
IsAlone f x y = (is_some (f x) && is_some (f y)) ≡ false

swap : {W : Type 0} (o p q : Option W) → (is_some o && is_some p) ≡ false
    → or_else p (or_else o q) ≡ or_else o (or_else p q)
unfolding or_else
swap None p q h = refl
swap (Some v) None q h = refl
swap (Some v) (Some w) q h = cc

-- if the others answer only when this one doesn't, its position doesn't matter
pub first_at : {M W : Type 0} (f : M → Option W) (bs : List M) (x : M) (as_ : List M) → Each (IsAlone f x) bs
    → first_some f (bs ++ x ∷ as_) ≡ or_else (f x) (first_some f (bs ++ as_))
unfolding first_some
first_at f [] x as_ h = refl
first_at f (b ∷ bs) x as_ h =
    ap (or_else (f b)) (first_at f bs x as_ h.1) ∙ swap (f x) (f b) (first_some f (bs ++ as_)) h.0

pub first_replaced : {M W : Type 0} (f : M → Option W) (bs : List M) (x y : M) (as_ : List M) → f x ≡ f y
    → first_some f (bs ++ x ∷ as_) ≡ first_some f (bs ++ y ∷ as_)
unfolding first_some
first_replaced f [] x y as_ h = ap (λ o. or_else o (first_some f as_)) h
first_replaced f (b ∷ bs) x y as_ h = ap (or_else (f b)) (first_replaced f bs x y as_ h)

-- if this one answers, no other does
pub first_none : {M W : Type 0} (f : M → Option W) (x : M) (ys : List M) → Each (IsAlone f x) ys → is_some (f x) ≡ true
    → first_some f ys ≡ None
unfolding first_some or_else
first_none f x [] h e = refl
first_none {M} {W} f x (y ∷ ys) h e = grind (arith, first_none f x ys h.1 e)

pub forget_first : {M : Type 0} (w : Writer) (f : M → Option Writer) (ys : List M)
    → Each (λ y. forget w (f y) ≡ f y) ys → forget w (first_some f ys) ≡ first_some f ys
unfolding first_some or_else forget
forget_first w f [] h = refl
forget_first w f (y ∷ ys) h = grind (arith, forget_first w f ys h.1)

-- the remaining answer, after its writer has written
pub forgotten_rest : (w : Writer) (o rest : Option Writer) → (is_some o ≡ true → rest ≡ None) → forget w rest ≡ rest
    → or_else (forget w o) rest ≡ forget w (or_else o rest)
unfolding or_else forget
forgotten_rest w None rest h k = sym k
forgotten_rest w (Some v) rest h k = grind arith

-- ---- what one reservation answers ----

in_nothing_more : (rs : List Reg) (r : Reg) → is_in (rs ++ []) r ≡ is_in rs r
unfolding is_in
in_nothing_more [] r = refl
in_nothing_more (x ∷ rs) r = ap (λ b. reg_eq r x || b) (in_nothing_more rs r)

some_if : {W : Type 0} (b : Bool) (w : W) → is_some (cond b (Some w) None) ≡ b
some_if true w = refl
some_if false w = refl

-- the writer of a register for one reservation, and the reservation's results still to come
unfoldable writing : Unit {0}
unfolding written_in written_by_channel channel_of to_come_in results sets_of loads_of is_in returning_to
writing = tt

some_in : (r : Reg) (u : FunctionalUnit) (s : Shape) (p : Occupancy)
    → is_some (written_in r u s p) ≡ is_in (to_come_in s p) r
unfolding writing
some_in r u (Sets rs) (Reserved b) = some_if (is_in rs r) (OfUnit u) ∙ sym (in_nothing_more rs r)
some_in r u (Loads n) (Reserved b) = grind arith
some_in r u (Stores n) (Reserved b) = some_if (is_in (A n ∷ []) r) (OfUnit u)
some_in r u Jumps (Reserved b) = refl
some_in r u Links (Reserved b) = refl
some_in r u s (Left None) = refl
some_in r u s (Left (Some n)) = grind arith

-- a register has a writer for the reservation exactly if it is one of its results still to come
pub some_written : (r : Reg) (x : Issued) → is_some (written_by r x) ≡ comes r x.reservation
unfolding written_by comes to_come
some_written r x = some_in r x.reservation.unit (shape_of x.reservation.instr) x.reservation.occupancy

-- a channel is no unit
pub channel_no_unit : (u : FunctionalUnit) (r : Reg) (o : Option ℕ)
    → forget (OfUnit u) (written_by_channel r o) ≡ written_by_channel r o
unfolding forget written_by_channel same_writer
channel_no_unit u r None = refl
channel_no_unit u r (Some n) = grind arith

unit_kept_in : (u : FunctionalUnit) (r : Reg) (v : FunctionalUnit) (s : Shape) (p : Occupancy)
    → (slot_in v p ≡ unit_number u → ⊥) → forget (OfUnit u) (written_in r v s p) ≡ written_in r v s p
unfolding forget written_in same_writer same_unit slot_in
unit_kept_in u r v s (Reserved has_read) h = by_test (is_in (sets_of s) r)
  where
    by_test : (b : Bool) → forget (OfUnit u) (cond b (Some (OfUnit v)) (written_by_channel r (channel_of s)))
        ≡ cond b (Some (OfUnit v)) (written_by_channel r (channel_of s))
    by_test true = ap (λ b. cond b None (Some (OfUnit v))) (ne_eqb (unit_number v) (unit_number u) h)
    by_test false = channel_no_unit u r (channel_of s)
unit_kept_in u r v s (Left o) h = channel_no_unit u r o

-- a unit isn't the writer for a reservation in another slot
pub unit_kept : (u : FunctionalUnit) (r : Reg) (y : Issued) → (slot_of y ≡ unit_number u → ⊥)
    → forget (OfUnit u) (written_by r y) ≡ written_by r y
unfolding written_by slot_of
unit_kept u r y h = unit_kept_in u r y.reservation.unit (shape_of y.reservation.instr) y.reservation.occupancy h

other_channel : (n m : ℕ) (r : Reg) → (eqb n m || false) ≡ false
    → forget (OfChannel n) (written_by_channel r (Some m)) ≡ written_by_channel r (Some m)
unfolding forget written_by_channel same_writer
other_channel n m r h = grind arith

channel_kept_in : (n : ℕ) (r : Reg) (v : FunctionalUnit) (s : Shape) (p : Occupancy)
    → is_in (to_come_in s p) (X n) ≡ false → forget (OfChannel n) (written_in r v s p) ≡ written_in r v s p
unfolding writing forget same_writer
channel_kept_in n r v (Sets rs) (Reserved has_read) h = grind arith
channel_kept_in n r v (Loads m) (Reserved has_read) h = grind arith
channel_kept_in n r v (Stores m) (Reserved has_read) h = grind arith
channel_kept_in n r v Jumps (Reserved has_read) h = refl
channel_kept_in n r v Links (Reserved has_read) h = refl
channel_kept_in n r v s (Left None) h = refl
channel_kept_in n r v s (Left (Some m)) h = other_channel n m r h

-- channel n isn't the writer for a reservation that doesn't load Xn
pub channel_kept : (n : ℕ) (r : Reg) (y : Issued) → comes (X n) y.reservation ≡ false
    → forget (OfChannel n) (written_by r y) ≡ written_by r y
unfolding written_by comes to_come
channel_kept n r y h = channel_kept_in n r y.reservation.unit (shape_of y.reservation.instr) y.reservation.occupancy h

left_in : (u v : FunctionalUnit) (r : Reg) (s : Shape) (has_read : Bool) → same_unit v u ≡ true
    → written_by_channel r (channel_of s) ≡ forget (OfUnit u) (written_in r v s (Reserved has_read))
unfolding forget written_in same_writer written_by_channel channel_of sets_of is_in
left_in u v r (Sets rs) has_read h = grind arith
left_in u v (X m) (Loads n) has_read h = grind arith
left_in u v (A m) (Loads n) has_read h = grind arith
left_in u v (B m) (Loads n) has_read h = refl
left_in u v r (Stores n) has_read h = grind arith
left_in u v r Jumps has_read h = refl
left_in u v r Links has_read h = refl

-- the writer for a reservation that has left its unit
pub left_written : (u : FunctionalUnit) (r : Reg) (x : Issued) (has_read : Bool)
    → x.reservation.occupancy ≡ Reserved has_read
    → same_unit x.reservation.unit u ≡ true
    → written_by_channel r (channel_of (shape_of x.reservation.instr)) ≡ forget (OfUnit u) (written_by r x)
unfolding written_by
left_written u r x has_read e h = left_in u x.reservation.unit r (shape_of x.reservation.instr) has_read h
    ∙ ap (λ p. forget (OfUnit u) (written_in r x.reservation.unit (shape_of x.reservation.instr) p)) (sym e)

-- the writer for a load that has returned
pub returned_written : (n : ℕ) (r : Reg) (x : Issued) → x.reservation.occupancy ≡ Left (Some n)
    → None ≡ forget (OfChannel n) (written_by r x)
unfolding written_by written_in written_by_channel forget same_writer
returned_written n r x e = grind arith

-- ---- by number ----

pub earlier_some : (n : ℕ) (r : Reg) (y : Issued)
    → is_some (if_earlier n (written_by r) y) ≡ (ltb y.number n && comes r y.reservation)
unfolding if_earlier
earlier_some n r y = grind (arith, some_written)

pub earlier_alone : (n : ℕ) (r : Reg) (x y : Issued) → (comes r x.reservation && comes r y.reservation) ≡ false
    → IsAlone (if_earlier n (written_by r)) x y
earlier_alone n r x y h = grind (arith, earlier_some)

pub earlier_forget : (w : Writer) (n : ℕ) (r : Reg) (y : Issued) → forget w (written_by r y) ≡ written_by r y
    → forget w (if_earlier n (written_by r) y) ≡ if_earlier n (written_by r) y
unfolding if_earlier forget
earlier_forget w n r y h = grind arith

pub earlier_at : (last : ℕ) (r : Reg) (y : Issued) → y.number ≤ last
    → if_earlier (suc last) (written_by r) y ≡ written_by r y
unfolding if_earlier
earlier_at last r y h = ap (λ b. cond b (written_by r y) None) (lt-ltb y.number (suc last) (omega arith))

-- all reservations with numbers up to the last are earlier than the next
pub all_earlier : (last : ℕ) (r : Reg) (xs : List Issued) → Each (λ x. x.number ≤ last) xs
    → writer_before (suc last) xs r ≡ writer_of xs r
unfolding writer_before writer_of
all_earlier last r xs h = first_same (if_earlier (suc last) (written_by r)) (written_by r) xs (each xs h)
  where
    each : (ys : List Issued) → Each (λ x. x.number ≤ last) ys
        → Each (λ x. if_earlier (suc last) (written_by r) x ≡ written_by r x) ys
    each [] k = tt
    each (y ∷ ys) k = (earlier_at last r y k.0, each ys k.1)

-- ---- lists of producers ----

pub producers_forget : (w : Writer) (f g : Reg → Option Writer) → ((r : Reg) → g r ≡ forget w (f r))
    → (rs : List Reg) (ps : List (Option Writer)) → AreProducers f rs ps → AreProducers g rs (map (forget w) ps)
producers_forget w f g h [] ps k = tt
producers_forget w f g h (r ∷ rs) [] k = absurd k
producers_forget w f g h (r ∷ rs) (p ∷ ps) k = (ap (forget w) k.0 ∙ sym (h r), producers_forget w f g h rs ps k.1)
