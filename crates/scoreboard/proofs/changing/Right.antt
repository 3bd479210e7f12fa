-- The board's invariant holds after each change.
use Rattle.std.proofs.Common.{◌≡◌, ◌<◌, ◌≤◌, ◌+◌, ℕ, zero, suc, Bool, true, false, cond, List, [], ◌∷◌, ◌++◌}
use Rattle.std.proofs.Common.{Option, Some, None, refl, sym, ap, ◌∙◌, subst, eqb, map, get_or, set, length, arith}
use Rattle.std.specs.Prelude.{◌&&◌, ◌||◌, IfSome}
use Rattle.std.proofs.lemmas.Bool.{eq-eqb, eqb-true, eqb-false, le-ltb}
use Rattle.std.proofs.lemmas.List.{length-set, length-append, set-set, set-append_left, get_or_append_left}
use Rattle.std.proofs.lemmas.List.{get_or-set_same, get_or-set_other}
use Rattle.instructions.specs.declared.instr.Reg.{Reg}
use Rattle.instructions.specs.declared.instr.Reg.TheVariants.{X}
use Rattle.instructions.specs.declared.instr.Unit.{Unit as FunctionalUnit}
use Rattle.instructions.specs.RegisterLists.{is_in}
use Rattle.instructions.specs.Shape.{Shape, Sets, Loads, Stores, Jumps, Links, shape_of, sets_of, loads_of, results}
use Rattle.instructions.specs.Operands.{sources_of, reg_eq}
use Rattle.scoreboard.specs.declared.reservation.Occupancy.TheVariants.{Reserved, Left}
use Rattle.scoreboard.specs.Reservations.{comes, to_come, to_come_in, returning_to}
use Rattle.scoreboard.specs.Units.{unit_number, same_unit}
use Rattle.scoreboard.specs.declared.issued.Issued.{Issued}
use Rattle.scoreboard.specs.declared.writer.Writer.{Writer}
use Rattle.scoreboard.specs.declared.writer.Writer.TheVariants.{OfUnit, OfChannel}
use Rattle.scoreboard.specs.declared.writers.Writers.{Writers}
use Rattle.scoreboard.specs.Answers.{in_occupancy}
use Rattle.instructions.specs.Each.{Each, Pairs}
use Rattle.scoreboard.specs.inner.Fields.{forget_in_taken}
use Rattle.scoreboard.specs.Issued.{number_of, channel_of, written_by_channel, written_in, written_by, or_else}
use Rattle.scoreboard.specs.Issued.{first_some, if_earlier, writer_before}
use Rattle.instructions.specs.Order.{somes, IsInSlots}
use Rattle.scoreboard.specs.inner.View.{in_slots, slot_in, slot_of, IsOther, IsOfKind, AreProducers, IsRight}
use Rattle.scoreboard.specs.Writers.{IsRegister, writer_at, set_writer, set_each, same_writer, forget}
use Rattle.instructions.proofs.Lists.{each_map}
use Rattle.instructions.proofs.Slots.{within, in_slots_others, in_slots_here, in_slots_empty, in_slots_fill}
use Rattle.scoreboard.proofs.in_slots.Registers.{AreSized, set_gives, set_sized, each_sized, each_gives}
use Rattle.scoreboard.proofs.in_slots.Writing.{all_earlier, producers_forget, forget_first, earlier_forget, earlier_at}
use Rattle.scoreboard.proofs.in_slots.Writing.{channel_no_unit, unit_kept, channel_kept, left_written, returned_written}
use Rattle.scoreboard.proofs.in_slots.InSlots.{set_back, stands_reserved, stands_returning, others_of, pairs_taken}
use Rattle.scoreboard.proofs.in_slots.InSlots.{pairs_put, each_taken, each_here, each_put, writer_put, writer_taken}
use Rattle.scoreboard.proofs.in_slots.InSlots.{writer_gone, writer_same}
use Rattle.scoreboard.proofs.in_slots.Standing.{unit_slot, channel_slot}

-- ---- from the slots as one list ----

pub right_again : (units channels l : List (Option Issued)) (producers : List (List (Option Writer))) (ws : Writers)
    (last : ℕ) → l ≡ units ++ channels → length units ≡ 10 → length channels ≡ 8 → length producers ≡ 10
    → (length ws.x ≡ 8) × (length ws.a ≡ 8) × (length ws.b ≡ 8)
    → IsInSlots slot_of 0 l → Pairs IsOther (somes l) → Each (λ x. x.number ≤ last) (somes l) → Each IsOfKind (somes l)
    → ((r : Reg) → IsRegister r → writer_at ws r ≡ writer_before (suc last) (somes l) r)
    → ((j : ℕ) (z : Issued) → get_or units j None ≡ Some z
    → AreProducers (writer_before z.number (somes l)) (sources_of z.reservation.instr)
    (get_or producers j [])) → IsRight units channels producers ws last
unfolding in_slots
right_again units channels l producers ws last e lu lc lp lw s a n k w p = grind (arith, all_earlier)

-- the writer of a register, by the register's number
written_now : (units channels : List (Option Issued)) (producers : List (List (Option Writer))) (ws : Writers)
    (last : ℕ) → IsRight units channels producers ws last → (r : Reg) → IsRegister r
    → writer_at ws r ≡ writer_before (suc last) (somes (units ++ channels)) r
unfolding in_slots
written_now units channels producers ws last right r v =
    right.written r v ∙ sym (all_earlier last r (somes (units ++ channels)) right.counted)

pub producers_same : (f g : Reg → Option Writer) → ((r : Reg) → g r ≡ f r)
    → (rs : List Reg) (ps : List (Option Writer)) → AreProducers f rs ps → AreProducers g rs ps
producers_same f g h [] ps k = tt
producers_same f g h (r ∷ rs) [] k = absurd k
producers_same f g h (r ∷ rs) (p ∷ ps) k = (k.0 ∙ sym (h r), producers_same f g h rs ps k.1)

-- after a change a reservation has no more to write than before
other_less : (x y z : Issued) → number_of y ≡ number_of x → ((r : Reg) → comes r y.reservation ≡ true
    → comes r x.reservation ≡ true)
    → IsOther x z → IsOther y z
other_less x y z e h k = grind arith

-- ---- operands are read ----

pub marked_written : (r : Reg) (x : Issued) (b : Bool) → x.reservation.occupancy ≡ Reserved b
    → written_by r x ≡ written_by r (in_occupancy x (Reserved true))
unfolding written_by written_in in_occupancy
marked_written r x b e = ap (λ p. written_in r x.reservation.unit (shape_of x.reservation.instr) p) e

pub marked_comes : (r : Reg) (x : Issued) (b : Bool) → x.reservation.occupancy ≡ Reserved b
    → comes r (in_occupancy x (Reserved true)).reservation ≡ comes r x.reservation
unfolding comes to_come to_come_in in_occupancy
marked_comes r x b e = sym (ap (λ p. is_in (to_come_in (shape_of x.reservation.instr) p) r) e)

marked_slot : (x : Issued) (b : Bool) → x.reservation.occupancy ≡ Reserved b
    → slot_of (in_occupancy x (Reserved true)) ≡ slot_of x
unfolding slot_of slot_in in_occupancy
marked_slot x b e = sym (ap (slot_in x.reservation.unit) e)

marked_other : (x z : Issued) (b : Bool) → x.reservation.occupancy ≡ Reserved b → IsOther x z
    → IsOther (in_occupancy x (Reserved true)) z
unfolding number_of in_occupancy
marked_other x z b e k = other_less x (in_occupancy x (Reserved true)) z refl (λ r q. sym (marked_comes r x b e) ∙ q) k

pub marked_right : (units channels : List (Option Issued)) (producers : List (List (Option Writer))) (ws : Writers)
    (last : ℕ) (u : FunctionalUnit) (i : ℕ) (x : Issued) → IsRight units channels producers ws last → i ≡ unit_number u
    → get_or units i None ≡ Some x
    → IsRight (set units i (Some (in_occupancy x (Reserved true)))) channels producers ws last
unfolding in_slots number_of in_occupancy
marked_right units channels producers ws last u i x right e h =
    right_again (set units i (Some y)) channels (set os i (Some y)) producers ws last
    (set-append_left units channels i (Some y) (within units i x h))
    (length-set units i (Some y) ∙ right.all_units) right.all_channels right.all_producers right.all_writers
    (in_slots_fill slot_of os 0 i y (marked_slot x reserved.0 reserved.1
    ∙ in_slots_here slot_of os 0 i x here right.stands)
    right.stands)
    (subst (λ m. Pairs IsOther (somes m)) again
    (pairs_put (set os i None) i y empty room others (pairs_taken os i x here right.apart)))
    (subst (λ m. Each (λ z. z.number ≤ last) (somes m)) again
    (each_put (λ z. z.number ≤ last) (set os i None) i y empty room
    (each_here (λ z. z.number ≤ last) os i x here right.counted)
    (each_taken (λ z. z.number ≤ last) os i x here right.counted)))
    (subst (λ m. Each IsOfKind (somes m)) again
    (each_put IsOfKind (set os i None) i y empty room (each_here IsOfKind os i x here right.kinds)
    (each_taken IsOfKind os i x here right.kinds)))
    (λ r v. written_now units channels producers ws last right r v ∙ sym (same (suc last) r))
    (λ j z k. by_place j z k (eqb j i) refl)
  where
    os : List (Option Issued)
    os = units ++ channels

    y : Issued
    y = in_occupancy x (Reserved true)

    here : get_or os i None ≡ Some x
    here = unit_slot units channels u i (Some x) right.all_units e h

    reserved : (b : Bool) × (x.reservation.occupancy ≡ Reserved b) × (same_unit x.reservation.unit u ≡ true)
    reserved = stands_reserved u x (in_slots_here slot_of os 0 i x here right.stands ∙ omega (arith, e))

    again : set (set os i None) i (Some y) ≡ set os i (Some y)
    again = set-set os i None (Some y)

    empty : get_or (set os i None) i None ≡ None
    empty = get_or-set_same os i None None (within os i x here)

    room : i < length (set os i None)
    room = let b = within os i x here in let q = length-set os i None in omega (arith, b, q)

    others : Each (IsOther y) (somes (set os i None))
    others = each_map (IsOther x) (IsOther y) (λ z k. marked_other x z reserved.0 reserved.1 k) (somes (set os i None))
        (others_of os i x here right.apart)

    same : (n : ℕ) (r : Reg) → writer_before n (somes (set os i (Some y))) r ≡ writer_before n (somes os) r
    same n r = writer_same n r os i x y here refl (marked_written r x reserved.0 reserved.1)

    by_place : (j : ℕ) (z : Issued) → get_or (set units i (Some y)) j None ≡ Some z → (b : Bool) → eqb j i ≡ b
        → AreProducers (writer_before z.number (somes (set os i (Some y)))) (sources_of z.reservation.instr)
        (get_or producers j [])
    by_place j z k true b =
        let q : j ≡ i = eqb-true j i b in
        let t : Some y ≡ Some z = sym (get_or-set_same units i (Some y) None (within units i x h))
        ∙ ap (λ m. get_or (set units i (Some y)) m None) (sym q) ∙ k in
        let yz : y ≡ z = cc in
        subst (λ (v : Issued). AreProducers (writer_before v.number (somes (set os i (Some y))))
        (sources_of v.reservation.instr) (get_or producers j [])) yz
        (subst (λ m. AreProducers (writer_before x.number (somes (set os i (Some y)))) (sources_of x.reservation.instr)
        (get_or producers m [])) (sym q)
        (producers_same (writer_before x.number (somes os)) (writer_before x.number (somes (set os i (Some y))))
        (same x.number) (sources_of x.reservation.instr) (get_or producers i []) (right.produced i x h)))
    by_place j z k false b =
        producers_same (writer_before z.number (somes os)) (writer_before z.number (somes (set os i (Some y))))
        (same z.number) (sources_of z.reservation.instr) (get_or producers j [])
        (right.produced j z (sym (get_or-set_other units i j (Some y) None (eqb-false j i b)) ∙ k))

-- ---- somebody has written ----

length_forgotten : (w : Writer) (os : List (Option Issued)) (pss : List (List (Option Writer)))
    → length (forget_in_taken w os pss) ≡ length pss
unfolding forget_in_taken
length_forgotten w [] pss = refl
length_forgotten w (o ∷ os) [] = refl
length_forgotten w (None ∷ os) (ps ∷ pss) = ap suc (length_forgotten w os pss)
length_forgotten w (Some x ∷ os) (ps ∷ pss) = ap suc (length_forgotten w os pss)

-- the producers of a unit that is held
forgotten_at : (w : Writer) (os : List (Option Issued)) (pss : List (List (Option Writer))) (j : ℕ) (z : Issued)
    → get_or os j None ≡ Some z → get_or (forget_in_taken w os pss) j [] ≡ map (forget w) (get_or pss j [])
unfolding forget_in_taken
forgotten_at w [] pss j z h = cc
forgotten_at w (o ∷ os) [] j z h = refl
forgotten_at w (None ∷ os) (ps ∷ pss) zero z h = cc
forgotten_at w (Some x ∷ os) (ps ∷ pss) zero z h = refl
forgotten_at w (None ∷ os) (ps ∷ pss) (suc j) z h = forgotten_at w os pss j z h
forgotten_at w (Some x ∷ os) (ps ∷ pss) (suc j) z h = forgotten_at w os pss j z h

-- a writer that has written is removed from the producers of each unit that is held; the producers of free units don't
-- matter
abbrev pub AreForgotten : Writer → List (Option Issued) → List (Option Issued) → List (List (Option Writer)) → Type 0
AreForgotten w os units pss =
    (length pss ≡ 10) × ((j : ℕ) (z : Issued) → get_or units j None ≡ Some z → (g : Reg → Option Writer)
    → ((r : Reg) → g r ≡ forget w (writer_before z.number (somes os) r))
    → AreProducers g (sources_of z.reservation.instr) (get_or pss j []))

pub all_forgotten : (w : Writer) (units channels units' : List (Option Issued))
    (producers : List (List (Option Writer))) (ws : Writers) (last : ℕ) → IsRight units channels producers ws last
    → ((j : ℕ) (z : Issued) → get_or units' j None ≡ Some z → get_or units j None ≡ Some z)
    → AreForgotten w (units ++ channels) units' (forget_in_taken w units' producers)
unfolding in_slots
all_forgotten w units channels units' producers ws last right t = (
  length_forgotten w units' producers ∙ right.all_producers,
  λ j z h g k. subst (λ ps. AreProducers g (sources_of z.reservation.instr) ps) (sym (forgotten_at w units' producers j
      z h))
      (producers_forget w (writer_before z.number (somes (units ++ channels))) g k (sources_of z.reservation.instr)
      (get_or producers j []) (right.produced j z (t j z h))),
)

pub written : (w : Writer) (units channels units' channels' l : List (Option Issued))
    (producers pss : List (List (Option Writer))) (ws ws' : Writers) (last : ℕ)
    → IsRight units channels producers ws last → l ≡ units' ++ channels' → length units' ≡ 10 → length channels' ≡ 8
    → AreSized ws'
    → IsInSlots slot_of 0 l → Pairs IsOther (somes l) → Each (λ x. x.number ≤ last) (somes l) → Each IsOfKind (somes l)
    → ((n : ℕ) (r : Reg) → writer_before n (somes l) r ≡ forget w (writer_before n (somes (units ++ channels)) r))
    → ((r : Reg) → IsRegister r → writer_at ws' r ≡ forget w (writer_at ws r))
    → AreForgotten w (units ++ channels) units' pss
    → IsRight units' channels' pss ws' last
unfolding in_slots
written w units channels units' channels' l producers pss ws ws' last right e lu lc lw s a n o k f p =
    right_again units' channels' l pss ws' last e lu lc p.0 lw s a n o
    (λ r v. f r v ∙ ap (forget w) (written_now units channels producers ws last right r v) ∙ sym (k (suc last) r))
    (λ j z h. p.1 j z h (writer_before z.number (somes l)) (k z.number))

-- a register's writer is removed if it is the reservation in the slot
cleared : (w : Writer) (b : Bool) (units channels : List (Option Issued)) (producers : List (List (Option Writer)))
    (ws : Writers) (last : ℕ) (i : ℕ) (x : Issued) (r : Reg) → IsRight units channels producers ws last → IsRegister r
    → get_or (units ++ channels) i None ≡ Some x
    → ((s : Reg) → Each (λ y. forget w (written_by s y) ≡ written_by s y) (somes (set (units ++ channels) i None)))
    → ((rest : Option Writer) → forget w rest ≡ rest
    → cond b None (or_else (written_by r x) rest) ≡ forget w (or_else (written_by r x) rest))
    → cond b None (writer_at ws r) ≡ forget w (writer_at ws r)
unfolding writer_before in_slots
cleared w b units channels producers ws last i x r right v h k step =
    ap (λ o. cond b None o) entered ∙ step rest kept ∙ ap (forget w) (sym entered)
  where
    os : List (Option Issued)
    os = units ++ channels

    f : Issued → Option Writer
    f = if_earlier (suc last) (written_by r)

    rest : Option Writer
    rest = first_some f (somes (set os i None))

    kept : forget w rest ≡ rest
    kept = forget_first w f (somes (set os i None))
        (each_map (λ y. forget w (written_by r y) ≡ written_by r y) (λ y. forget w (f y) ≡ f y)
        (λ y q. earlier_forget w (suc last) r y q) (somes (set os i None)) (k r))

    entered : writer_at ws r ≡ or_else (written_by r x) rest
    entered =
        written_now units channels producers ws last right r v
        ∙ writer_taken (suc last) r os i x h right.apart
        ∙ ap (λ o. or_else o rest) (earlier_at last r x (each_here (λ y. y.number ≤ last) os i x h right.counted))

-- a slot other than the emptied one keeps its reservation
not_emptied : (units : List (Option Issued)) (i : ℕ) (j : ℕ) (z : Issued) → i < length units
    → get_or (set units i None) j None ≡ Some z → get_or units j None ≡ Some z
not_emptied units i j z l h = grind (arith, get_or-set_same, eqb-true, get_or-set_other, eqb-false)

earlier_gone : (w : Writer) (n : ℕ) (r : Reg) (x : Issued) → None ≡ forget w (written_by r x)
    → None ≡ forget w (if_earlier n (written_by r) x)
unfolding if_earlier forget
earlier_gone w n r x h = grind arith

earlier_left : (w : Writer) (n : ℕ) (r : Reg) (x y : Issued) → y.number ≡ x.number
    → written_by r y ≡ forget w (written_by r x)
    → if_earlier n (written_by r) y ≡ forget w (if_earlier n (written_by r) x)
unfolding if_earlier forget
earlier_left w n r x y e h = grind arith

-- the writer of each register, after a reservation that has written is removed
gone_written : (w : Writer) (os : List (Option Issued)) (i : ℕ) (x : Issued) → get_or os i None ≡ Some x
    → Pairs IsOther (somes os) → ((s : Reg) → None ≡ forget w (written_by s x))
    → ((s : Reg) → Each (λ y. forget w (written_by s y) ≡ written_by s y) (somes (set os i None))) → (n : ℕ) (r : Reg)
    → writer_before n (somes (set os i None)) r ≡ forget w (writer_before n (somes os) r)
unfolding or_else
gone_written w os i x h p g k n r = cc (earlier_gone w n r x (g r), writer_gone w n r os i x h p k)

-- no reservation with a number up to that of the slot waits for one of its results
nobody_waits : (w : Writer) (os : List (Option Issued)) (i : ℕ) (x : Issued) (n : ℕ) (r : Reg)
    → get_or os i None ≡ Some x → Pairs IsOther (somes os)
    → Each (λ y. forget w (written_by r y) ≡ written_by r y) (somes (set os i None)) → n ≤ x.number
    → forget w (writer_before n (somes os) r) ≡ writer_before n (somes os) r
unfolding writer_before or_else if_earlier
nobody_waits w os i x n r here a others l =
    ap (forget w) without ∙ forget_first w f (somes (set os i None)) kept ∙ sym without
  where
    f : Issued → Option Writer
    f = if_earlier n (written_by r)

    without : writer_before n (somes os) r ≡ writer_before n (somes (set os i None)) r
    without =
        writer_taken n r os i x here a
        ∙ ap (λ b. or_else (cond b (written_by r x) None) (writer_before n (somes (set os i None)) r))
        (le-ltb x.number n l)

    kept : Each (λ y. forget w (f y) ≡ f y) (somes (set os i None))
    kept = each_map (λ y. forget w (written_by r y) ≡ written_by r y) (λ y. forget w (f y) ≡ f y)
        (λ y q. earlier_forget w n r y q) (somes (set os i None)) others

-- no reservation waits for the last one
last_forgotten : (w : Writer) (units channels units' : List (Option Issued)) (producers : List (List (Option Writer)))
    (ws : Writers) (last i : ℕ) (x : Issued) → IsRight units channels producers ws last
    → get_or (units ++ channels) i None ≡ Some x
    → ((r : Reg) → Each (λ y. forget w (written_by r y) ≡ written_by r y) (somes (set (units ++ channels) i None)))
    → x.number ≡ last
    → ((j : ℕ) (z : Issued) → get_or units' j None ≡ Some z → get_or units j None ≡ Some z)
    → AreForgotten w (units ++ channels) units' producers
unfolding in_slots
last_forgotten w units channels units' producers ws last i x right here others k t = (
  right.all_producers,
  λ j z q g f.
      let there = t j z q in
      let up_to : z.number ≤ last =
      each_here (λ y. y.number ≤ last) (units ++ channels) j z
      (get_or_append_left units channels None j (within units j z there) ∙ there) right.counted in
      producers_same (writer_before z.number (somes (units ++ channels))) g
      (λ r. f r ∙ nobody_waits w (units ++ channels) i x z.number r here right.apart (others r)
      (omega (arith, up_to, k)))
      (sources_of z.reservation.instr) (get_or producers j []) (right.produced j z there),
)

-- ---- a load has returned ----

field_returned : (n : ℕ) (r : Reg) (x : Issued) (rest : Option Writer) → x.reservation.occupancy ≡ Left (Some n)
    → forget (OfChannel n) rest ≡ rest
    → cond (reg_eq r (X n)) None (or_else (written_by r x) rest) ≡ forget (OfChannel n) (or_else (written_by r x) rest)
unfolding written_by written_in written_by_channel forget same_writer or_else
field_returned n r x rest e k = grind arith

comes_returning : (n : ℕ) (x : Issued) → x.reservation.occupancy ≡ Left (Some n) → comes (X n) x.reservation ≡ true
unfolding comes to_come to_come_in returning_to is_in
comes_returning n x e =
    ap (λ p. is_in (to_come_in (shape_of x.reservation.instr) p) (X n)) e ∙ ap (λ b. b || false) (eq-eqb n n refl)

others_not_loading : (n : ℕ) (x : Issued) (ys : List Issued) → comes (X n) x.reservation ≡ true → Each (IsOther x) ys
    → (r : Reg) → Each (λ y. forget (OfChannel n) (written_by r y) ≡ written_by r y) ys
others_not_loading n x ys h k r = grind (arith, each_map, channel_kept)

pub returned_right : (units channels : List (Option Issued)) (producers : List (List (Option Writer))) (ws : Writers)
    (last n : ℕ) (x : Issued) → IsRight units channels producers ws last → n < 8 → get_or channels n None ≡ Some x
    → (pss : List (List (Option Writer))) → AreForgotten (OfChannel n) (units ++ channels) units pss
    → IsRight units (set channels n None) pss (set_writer ws (X n) None) last
unfolding in_slots
returned_right units channels producers ws last n x right below_8 h pss forgotten =
    written (OfChannel n) units channels units (set channels n None) (set os (10 + n) None) producers pss ws
    (set_writer ws (X n) None) last right
    (set_back units channels n (10 + n) None (omega (arith, right.all_units))) right.all_units
    (length-set channels n None ∙ right.all_channels) (set_sized ws (X n) None right.all_writers)
    (in_slots_empty slot_of os 0 (10 + n) right.stands) (pairs_taken os (10 + n) x here right.apart)
    (each_taken (λ z. z.number ≤ last) os (10 + n) x here right.counted)
    (each_taken IsOfKind os (10 + n) x here right.kinds)
    (gone_written (OfChannel n) os (10 + n) x here right.apart (λ r. returned_written n r x returning) others)
    (λ r v. set_gives ws (X n) r None right.all_writers below_8
    ∙ cleared (OfChannel n) (reg_eq r (X n)) units channels producers ws last (10 + n) x r right v here others
    (λ rest k. field_returned n r x rest returning k))
    forgotten
  where
    os : List (Option Issued)
    os = units ++ channels

    here : get_or os (10 + n) None ≡ Some x
    here = channel_slot units channels n (Some x) right.all_units h

    returning : x.reservation.occupancy ≡ Left (Some n)
    returning = stands_returning n x below_8 (in_slots_here slot_of os 0 (10 + n) x here right.stands ∙ omega arith)

    others : (r : Reg) → Each (λ y. forget (OfChannel n) (written_by r y) ≡ written_by r y)
        (somes (set os (10 + n) None))
    others = others_not_loading n x (somes (set os (10 + n) None)) (comes_returning n x returning)
        (others_of os (10 + n) x here right.apart)

-- no reservation waits for the register that the last load writes
pub returned_last : (units channels : List (Option Issued)) (producers : List (List (Option Writer))) (ws : Writers)
    (last n : ℕ) (x : Issued) → IsRight units channels producers ws last → n < 8 → get_or channels n None ≡ Some x
    → x.number ≡ last
    → AreForgotten (OfChannel n) (units ++ channels) units producers
unfolding in_slots
returned_last units channels producers ws last n x right below_8 h k =
    last_forgotten (OfChannel n) units channels units producers ws last (10 + n) x right here
    (others_not_loading n x (somes (set (units ++ channels) (10 + n) None)) (comes_returning n x returning)
    (others_of (units ++ channels) (10 + n) x here right.apart)) k (λ j z q. q)
  where
    here : get_or (units ++ channels) (10 + n) None ≡ Some x
    here = channel_slot units channels n (Some x) right.all_units h

    returning : x.reservation.occupancy ≡ Left (Some n)
    returning =
        stands_returning n x below_8 (in_slots_here slot_of (units ++ channels) 0 (10 + n) x here right.stands
        ∙ omega arith)

-- after a return, the other reservations no longer wait for its register
pub returned_others : (units channels : List (Option Issued)) (producers : List (List (Option Writer))) (ws : Writers)
    (last n : ℕ) → IsRight units channels producers ws last
    → AreForgotten (OfChannel n) (units ++ channels) units (forget_in_taken (OfChannel n) units producers)
returned_others units channels producers ws last n right =
    all_forgotten (OfChannel n) units channels units producers ws last right (λ j z k. k)

-- ---- a unit is released ----

-- the channels after a store event, with a load moved into its channel
unfoldable pub channels_with : List (Option Issued) → Issued → Option ℕ → List (Option Issued)
channels_with channels x None = channels
channels_with channels x (Some n) = set channels n (Some (in_occupancy x (Left (Some n))))

field_left_in : (u v : FunctionalUnit) (r : Reg) (s : Shape) (has_read : Bool) (rest : Option Writer)
    → same_unit v u ≡ true → forget (OfUnit u) rest ≡ rest
    → cond (is_in (sets_of s) r) None (or_else (written_in r v s (Reserved has_read)) rest)
    ≡ forget (OfUnit u) (or_else (written_in r v s (Reserved has_read)) rest)
unfolding written_in forget same_writer or_else
field_left_in u v r s has_read rest h k = grind (arith, channel_no_unit)

field_left : (u : FunctionalUnit) (r : Reg) (x : Issued) (has_read : Bool) (rest : Option Writer)
    → x.reservation.occupancy ≡ Reserved has_read → same_unit x.reservation.unit u ≡ true → forget (OfUnit u) rest ≡ rest
    → cond (is_in (sets_of (shape_of x.reservation.instr)) r) None (or_else (written_by r x) rest)
    ≡ forget (OfUnit u) (or_else (written_by r x) rest)
unfolding written_by
field_left u r x has_read rest e h k = grind (arith, field_left_in)

others_elsewhere : (u : FunctionalUnit) (os : List (Option Issued)) (i : ℕ) → i ≡ unit_number u → IsInSlots slot_of 0 os
    → (r : Reg) → Each (λ y. forget (OfUnit u) (written_by r y) ≡ written_by r y) (somes (set os i None))
others_elsewhere u os i e s r = grind (arith, each_map, unit_kept, in_slots_others)

comes_loading_in : (n : ℕ) (s : Shape) (b : Bool) → channel_of s ≡ Some n
    → is_in (to_come_in s (Reserved b)) (X n) ≡ true
unfolding channel_of to_come_in results sets_of loads_of is_in
comes_loading_in n (Sets rs) b h = cc
comes_loading_in n (Loads m) b h = let e : m ≡ n = cc in ap (λ t. t || false) (eq-eqb n m (sym e))
comes_loading_in n (Stores m) b h = cc
comes_loading_in n Jumps b h = cc
comes_loading_in n Links b h = cc

-- a load in its unit has its X register still to come
pub comes_loading : (n : ℕ) (x : Issued) (b : Bool) → x.reservation.occupancy ≡ Reserved b
    → channel_of (shape_of x.reservation.instr) ≡ Some n → comes (X n) x.reservation ≡ true
unfolding comes to_come
comes_loading n x b e h = grind (arith, comes_loading_in)

-- a load that has left its unit has no other result to come
left_comes : (n : ℕ) (x : Issued) (b : Bool) → x.reservation.occupancy ≡ Reserved b
    → channel_of (shape_of x.reservation.instr) ≡ Some n
    → (r : Reg) → comes r (in_occupancy x (Left (Some n))).reservation ≡ true → comes r x.reservation ≡ true
unfolding comes to_come to_come_in returning_to is_in in_occupancy
left_comes n x b e h r k = grind (arith, comes_loading n x b e h)

left_other : (n : ℕ) (x z : Issued) (b : Bool) → x.reservation.occupancy ≡ Reserved b
    → channel_of (shape_of x.reservation.instr) ≡ Some n → IsOther x z → IsOther (in_occupancy x (Left (Some n))) z
unfolding number_of in_occupancy
left_other n x z b e h k = other_less x (in_occupancy x (Left (Some n))) z refl (left_comes n x b e h) k

left_writes : (u : FunctionalUnit) (n : ℕ) (r : Reg) (x : Issued) (b : Bool) → x.reservation.occupancy ≡ Reserved b
    → same_unit x.reservation.unit u ≡ true → channel_of (shape_of x.reservation.instr) ≡ Some n
    → written_by r (in_occupancy x (Left (Some n))) ≡ forget (OfUnit u) (written_by r x)
unfolding written_by written_in in_occupancy
left_writes u n r x b e h k = ap (written_by_channel r) (sym k) ∙ left_written u r x b e h

left_nothing : (u : FunctionalUnit) (r : Reg) (x : Issued) (b : Bool) → x.reservation.occupancy ≡ Reserved b
    → same_unit x.reservation.unit u ≡ true → channel_of (shape_of x.reservation.instr) ≡ None
    → None ≡ forget (OfUnit u) (written_by r x)
unfolding written_by_channel
left_nothing u r x b e h k = ap (written_by_channel r) (sym k) ∙ left_written u r x b e h

left_slot : (n : ℕ) (x : Issued) → slot_of (in_occupancy x (Left (Some n))) ≡ 10 + n
unfolding slot_of slot_in in_occupancy
left_slot n x = refl

-- while a load is in its unit, its channel is empty
pub channel_empty : (os : List (Option Issued)) (i n : ℕ) (x : Issued) (b : Bool) → n < 8 → get_or os i None ≡ Some x
    → IsInSlots slot_of 0 os → Pairs IsOther (somes os) → x.reservation.occupancy ≡ Reserved b
    → channel_of (shape_of x.reservation.instr) ≡ Some n → get_or (set os i None) (10 + n) None ≡ None
channel_empty os i n x b l h s p e k = by_slot (get_or (set os i None) (10 + n) None) refl
  where
    by_slot : (o : Option Issued) → get_or (set os i None) (10 + n) None ≡ o → o ≡ None
    by_slot None q = refl
    by_slot (Some z) q =
        let t : z.reservation.occupancy ≡ Left (Some n) =
        stands_returning n z l (in_slots_here slot_of (set os i None) 0 (10 + n) z q (in_slots_empty slot_of os 0 i s)
        ∙ omega arith) in
        let o : IsOther x z = each_here (IsOther x) (set os i None) (10 + n) z q (others_of os i x h p) in
        let f : (comes (X n) x.reservation && comes (X n) z.reservation) ≡ false = o.results (X n) in
        let g : (comes (X n) x.reservation && comes (X n) z.reservation) ≡ true =
        ap (λ v. v && comes (X n) z.reservation) (comes_loading n x b e k) ∙ comes_returning n z t in
        absurd (both (comes (X n) x.reservation && comes (X n) z.reservation) f g)
      where
        both : (v : Bool) → v ≡ false → v ≡ true → ⊥
        both true f g = cc
        both false f g = cc

-- ---- an instruction has come to its store event ----

-- no reservation waits for the results of the last one
pub released_last : (units channels : List (Option Issued)) (producers : List (List (Option Writer))) (ws : Writers)
    (last : ℕ) (u : FunctionalUnit) (i : ℕ) (x : Issued) → IsRight units channels producers ws last → i ≡ unit_number u
    → get_or units i None ≡ Some x → x.number ≡ last
    → AreForgotten (OfUnit u) (units ++ channels) (set units i None) producers
released_last units channels producers ws last u i x right e h k =
    last_forgotten (OfUnit u) units channels (set units i None) producers ws last i x right
    (unit_slot units channels u i (Some x) right.all_units e h)
    (others_elsewhere u (units ++ channels) i e right.stands) k
    (λ j z q. not_emptied units i j z (within units i x h) q)

-- after a store event, the other reservations no longer wait for its results
pub released_others : (units channels : List (Option Issued)) (producers : List (List (Option Writer))) (ws : Writers)
    (last : ℕ) (u : FunctionalUnit) (i : ℕ) (x : Issued) → IsRight units channels producers ws last
    → get_or units i None ≡ Some x
    → AreForgotten (OfUnit u) (units ++ channels) (set units i None)
    (forget_in_taken (OfUnit u) (set units i None) producers)
released_others units channels producers ws last u i x right h = search (arith, all_forgotten, not_emptied, within)

pub released_right : (units channels : List (Option Issued)) (producers : List (List (Option Writer))) (ws : Writers)
    (last : ℕ) (u : FunctionalUnit) (i : ℕ) (x : Issued) → IsRight units channels producers ws last → i ≡ unit_number u
    → get_or units i None ≡ Some x → Each IsRegister (sets_of (shape_of x.reservation.instr))
    → IfSome (channel_of (shape_of x.reservation.instr)) (λ n. n < 8)
    → (pss : List (List (Option Writer))) → AreForgotten (OfUnit u) (units ++ channels) (set units i None) pss
    → IsRight (set units i None) (channels_with channels x (channel_of (shape_of x.reservation.instr))) pss
    (set_each ws (sets_of (shape_of x.reservation.instr)) None) last
unfolding in_slots channels_with number_of in_occupancy
released_right units channels producers ws last u i x right e h valid below_8 pss forgotten =
    by_channel (channel_of (shape_of x.reservation.instr)) refl below_8
  where
    os : List (Option Issued)
    os = units ++ channels

    here : get_or os i None ≡ Some x
    here = unit_slot units channels u i (Some x) right.all_units e h

    reserved : (b : Bool) × (x.reservation.occupancy ≡ Reserved b) × (same_unit x.reservation.unit u ≡ true)
    reserved = stands_reserved u x (in_slots_here slot_of os 0 i x here right.stands ∙ omega (arith, e))

    front : set os i None ≡ set units i None ++ channels
    front = set-append_left units channels i None (within units i x h)

    fewer : length (set units i None) ≡ 10
    fewer = length-set units i None ∙ right.all_units

    emptied : Writers
    emptied = set_each ws (sets_of (shape_of x.reservation.instr)) None

    sized : AreSized emptied
    sized = each_sized (sets_of (shape_of x.reservation.instr)) ws None right.all_writers

    elsewhere : (r : Reg) → Each (λ y. forget (OfUnit u) (written_by r y) ≡ written_by r y) (somes (set os i None))
    elsewhere = others_elsewhere u os i e right.stands

    fields : (r : Reg) → IsRegister r → writer_at emptied r ≡ forget (OfUnit u) (writer_at ws r)
    fields r v =
        each_gives (sets_of (shape_of x.reservation.instr)) ws r None right.all_writers valid
        ∙ cleared (OfUnit u) (is_in (sets_of (shape_of x.reservation.instr)) r) units channels producers ws last i x r
        right v
        here elsewhere (λ rest k. field_left u r x reserved.0 rest reserved.1 reserved.2 k)

    by_channel : (o : Option ℕ) → channel_of (shape_of x.reservation.instr) ≡ o → IfSome o (λ n. n < 8)
        → IsRight (set units i None) (channels_with channels x o) pss
        (set_each ws (sets_of (shape_of x.reservation.instr)) None) last
    by_channel None k l =
        written (OfUnit u) units channels (set units i None) channels (set os i None) producers pss ws emptied last
        right front fewer right.all_channels sized
        (in_slots_empty slot_of os 0 i right.stands) (pairs_taken os i x here right.apart)
        (each_taken (λ z. z.number ≤ last) os i x here right.counted) (each_taken IsOfKind os i x here right.kinds)
        (gone_written (OfUnit u) os i x here right.apart (λ r. left_nothing u r x reserved.0 reserved.1 reserved.2 k)
        elsewhere)
        fields
        forgotten
    by_channel (Some n) k l =
        written (OfUnit u) units channels (set units i None) (set channels n (Some y))
        (set (set os i None) (10 + n) (Some y)) producers pss ws emptied last right
        (ap (λ m. set m (10 + n) (Some y)) front
        ∙ set_back (set units i None) channels n (10 + n) (Some y) (omega (arith, fewer))) fewer (length-set
        channels n (Some y) ∙ right.all_channels) sized
        (in_slots_fill slot_of (set os i None) 0 (10 + n) y (left_slot n x ∙ omega arith)
        (in_slots_empty slot_of os 0 i right.stands))
        (pairs_put (set os i None) (10 + n) y empty room others (pairs_taken os i x here right.apart))
        (each_put (λ z. z.number ≤ last) (set os i None) (10 + n) y empty room
        (each_here (λ z. z.number ≤ last) os i x here right.counted)
        (each_taken (λ z. z.number ≤ last) os i x here right.counted))
        (each_put IsOfKind (set os i None) (10 + n) y empty room (each_here IsOfKind os i x here right.kinds)
        (each_taken IsOfKind os i x here right.kinds))
        (λ m r. writer_put m r (set os i None) (10 + n) y empty room others
        ∙ ap (λ o. or_else o (writer_before m (somes (set os i None)) r))
        (earlier_left (OfUnit u) m r x y refl (left_writes u n r x reserved.0 reserved.1 reserved.2 k))
        ∙ writer_gone (OfUnit u) m r os i x here right.apart elsewhere)
        fields
        forgotten
      where
        y : Issued
        y = in_occupancy x (Left (Some n))

        empty : get_or (set os i None) (10 + n) None ≡ None
        empty = channel_empty os i n x reserved.0 l here right.stands right.apart reserved.1 k

        room : 10 + n < length (set os i None)
        room = let q = ap length front
            ∙ length-append (set units i None) channels in omega (arith, q, fewer, right.all_channels, l)

        others : Each (IsOther y) (somes (set os i None))
        others = each_map (IsOther x) (IsOther y) (λ z q. left_other n x z reserved.0 reserved.1 k q)
            (somes (set os i None)) (others_of os i x here right.apart)
