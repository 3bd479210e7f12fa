-- The list that the slots represent, after an instruction is found in its slot, changed there, moved or removed.
use Rattle.std.proofs.Common.{◌≡◌, ◌≢◌, ◌<◌, ◌≤◌, ◌+◌, ℕ, Bool, true, false, cond, List, [], ◌∷◌, ◌++◌}
use Rattle.std.proofs.Common.{Option, Some, None, refl, sym, ap, ◌∙◌, subst, ltb, get_or, set, length, arith}
use Rattle.std.specs.Prelude.{◌&&◌, is_none}
use Rattle.std.specs.List.{list_all}
use Rattle.std.proofs.lemmas.Bool.{eq-eqb, ltb-true, ltb-false}
use Rattle.std.proofs.lemmas.List.{length-set, set-set, set-append_left, get_or_append_left, get_or-set_same}
use Rattle.instructions.specs.declared.instr.Unit.{Unit as FunctionalUnit}
use Rattle.scoreboard.specs.Units.{unit_number, same_unit}
use Rattle.instructions.specs.Each.{Each, Pairs}
use Rattle.instructions.specs.Order.{insert_by, sort_by, somes, IsInSlots}
use Rattle.instructions.proofs.Lists.{each_map}
use Rattle.instructions.proofs.Slots.{in_slots_here, in_slots_empty, in_slots_fill, slot_any, slot_empty, slots_below}
use Rattle.instructions.proofs.Slots.{before_slot, after_slot, found_nobody, within, others_differ, own_taken, own_put}
use Rattle.instructions.proofs.Slots.{taken_without, moved_with, sort_new, each_taken}
use Rattle.scoreboard.proofs.in_slots.InSlots.{get_back, set_back, unit_below}
use Rattle.in_flight.specs.declared.pending.Arrival.{Arrival}
use Rattle.hopper.specs.declared.reference.Reference.{Reference}
use Rattle.in_flight.specs.declared.pending.Outstanding.{Outstanding}
use Rattle.in_flight.specs.declared.pending.Outstanding.TheVariants.{Entered, Accepted}
use Rattle.in_flight.specs.declared.pending.Pending.{Pending}
use Rattle.in_flight.specs.declared.pending.Phase.{Phase}
use Rattle.in_flight.specs.declared.pending.Phase.TheVariants.{Before, After}
use Rattle.in_flight.specs.declared.pending.Stage.{Stage}
use Rattle.instructions.specs.Finding.{seek, replaced}
use Rattle.in_flight.specs.Lookup.{stage_in, stage_at, entry_in, entry_at, arrival_in, arrival_at, in_phase, kept}
use Rattle.in_flight.specs.Lookup.{located}
use Rattle.in_flight.specs.inner.Slots.{number_of, slot_in, slot_of, slots, in_order, IsRight, AreElsewhere, HasRoom}
use Rattle.in_flight.specs.inner.Slots.{has_none, places_with, channels_with}
use Rattle.instructions.proofs.Sorted.{each_sorted}
use Rattle.in_flight.proofs.asking.Finding.{stage_found}
use Rattle.in_flight.proofs.in_slots.Asked.{IsOfSlot, AreSlots, asked_found, asked_nobody, asked_view}

-- ---- in order ----

abbrev Own : List (Option Pending) → Type 0
Own os = Pairs (λ x y. number_of x ≢ number_of y) (somes os)

-- the content of the slot that a question is about; the three tables of slots represent the list `ms`
pub record IsRead {W : Type 0} (ask : Pending → Option W) (units places channels : List (Option Pending))
    (ms : List Pending) (i : ℕ) (o : Option Pending) : Type 0 where
  pub asked : IsOfSlot slot_of ask i
  pub right : IsRight units places channels
  pub there : get_or (slots units places channels) i None ≡ o
  pub view : in_order (slots units places channels) ≡ ms

as_slots : {units places channels : List (Option Pending)} → IsRight units places channels
    → AreSlots slot_of number_of (slots units places channels)
as_slots right = record { stands = right.stands; own = right.own }

-- the answer of the instruction in the slot
read_answers : {W : Type 0} {ask : Pending → Option W} {units places channels : List (Option Pending)}
    {ms : List Pending} {i : ℕ} {m : Pending} → IsRead ask units places channels ms i (Some m) → (x : W)
    × (ask m ≡ Some x)
read_answers r = let f = asked_found slot_of number_of _ _ _ _ r.asked (as_slots r.right) r.there in (f.0, f.1)

-- the search finds the instruction in the slot
pub read_found : {W : Type 0} {ask : Pending → Option W} {units places channels : List (Option Pending)}
    {ms : List Pending} {i : ℕ} {m : Pending} {x : W} → IsRead ask units places channels ms i (Some m)
    → ask m ≡ Some x → Some (record { pending = m; answer = x }) ≡ located (seek ask ms)
unfolding located
read_found {ask = ask} {m = m} {x = x} r k =
    let f = asked_found slot_of number_of _ _ _ _ r.asked (as_slots r.right) r.there in
    cc

-- the instruction in the slot has an answer
pub read_must : {W : Type 0} {ask : Pending → Option W} {units places channels : List (Option Pending)}
    {ms : List Pending} {i : ℕ} {m : Pending} → IsRead ask units places channels ms i (Some m) → ask m ≡ None → ⊥
read_must r k = let f = read_answers r in cc

-- the search finds nothing if the slot is empty
pub read_nobody : {W : Type 0} {ask : Pending → Option W} {units places channels : List (Option Pending)}
    {ms : List Pending} {i : ℕ} → IsRead ask units places channels ms i None → seek ask ms ≡ None
read_nobody {ask = ask} r = grind (arith, asked_nobody, as_slots)

-- nothing is replaced if the slot is empty
pub read_unchanged : {W : Type 0} {ask : Pending → Option W} {units places channels : List (Option Pending)}
    {ms : List Pending} {i : ℕ} (g : Pending → List Pending) → IsRead ask units places channels ms i None
    → ms ≡ replaced (seek ask ms) ms g
unfolding replaced
read_unchanged {ms = ms} g r = ap (λ o. replaced o ms g) (sym (read_nobody r))

-- replacing the instruction at its position is replacing it in the list
read_replaced : {W : Type 0} {ask : Pending → Option W} {units places channels : List (Option Pending)}
    {ms : List Pending} {i : ℕ} {m : Pending} (g : Pending → List Pending) (ns : List Pending)
    → IsRead ask units places channels ms i (Some m)
    → ns ≡ before_slot number_of (slots units places channels) i m
    ++ (g m ++ after_slot number_of (slots units places channels) i m)
    → ns ≡ replaced (seek ask ms) ms g
read_replaced {ask = ask} {ms = ms} g ns r e = grind (arith, asked_view, as_slots)

-- ---- the instruction that holds a unit ----

stage_here : (u v : FunctionalUnit) (p : Phase) → slot_in v p ≡ unit_number u → (t : Stage)
    × (cond (same_unit v u) (stage_in p) None ≡ Some t)
unfolding slot_in same_unit stage_in
stage_here u v (Before t) h = (t, ap (λ b. cond b (Some t) None) (eq-eqb (unit_number v) (unit_number u) h))
stage_here u v (After (Entered p a x)) h = absurd (let b = unit_below u in grind (arith, b))
stage_here u v (After (Accepted n w)) h = absurd (let b = unit_below u in grind (arith, b))

stage_others : (u v : FunctionalUnit) (p : Phase) → slot_in v p ≢ unit_number u
    → cond (same_unit v u) (stage_in p) None ≡ None
unfolding slot_in same_unit stage_in
stage_others u v p h = grind arith

stage_asked : (u : FunctionalUnit) (i : ℕ) → i ≡ unit_number u → IsOfSlot slot_of (stage_at u) i
unfolding stage_at slot_of
stage_asked u i e = record {
  here = λ m h. stage_here u m.unit m.phase (h ∙ e);
  others = λ m h. stage_others u m.unit m.phase (λ q. h (q ∙ sym e));
}

unit_slot : (units places channels : List (Option Pending)) (i : ℕ) (o : Option Pending) → i < length units
    → get_or units i None ≡ o → get_or (slots units places channels) i None ≡ o
unfolding slots
unit_slot units places channels i o l h = get_or_append_left units (places ++ channels) None i l ∙ h

-- the slot of a unit, read with any default
pub unit_read : {units places channels : List (Option Pending)} {ms : List Pending} {i : ℕ} {o : Option Pending}
    (u : FunctionalUnit) (d : Option Pending) → IsRight units places channels
    → in_order (slots units places channels) ≡ ms → i ≡ unit_number u → get_or units i d ≡ o
    → IsRead (stage_at u) units places channels ms i o
unit_read {units} {places} {channels} {i =
    i} {o = o} u d right view e h = grind (arith, unit_below, stage_asked, unit_slot, slot_any)

-- the stage of the instruction that holds the unit
pub stage_read : {units places channels : List (Option Pending)} {ms : List Pending} {i : ℕ} {m : Pending} {t : Stage}
    (u : FunctionalUnit) → IsRead (stage_at u) units places channels ms i (Some m) → m.phase ≡ Before t
    → Some (record { pending = m; answer = t }) ≡ located (seek (stage_at u) ms)
stage_read {m = m} {t} u r k =
    let a = read_answers r in
    let q : Before t ≡ Before a.0 = sym k ∙ stage_found u m a.0 a.1 in
    let same : a.0 ≡ t = cc in
    read_found r (a.1 ∙ ap Some same)

pub stage_must : {units places channels : List (Option Pending)} {ms : List Pending} {i : ℕ} {m : Pending}
    {l : Outstanding} (u : FunctionalUnit) → IsRead (stage_at u) units places channels ms i (Some m)
    → m.phase ≡ After l → ⊥
stage_must {m = m} {l} u r k =
    let a = read_answers r in let q : After l ≡ Before a.0 = sym k ∙ stage_found u m a.0 a.1 in cc

-- ---- changed in its slot ----

staged_slot : (m : Pending) (t s : Stage) → m.phase ≡ Before t → slot_of (in_phase m (Before s)) ≡ slot_of m
unfolding slot_of slot_in in_phase
staged_slot m t s h = sym (ap (slot_in m.unit) h)

phase_number : (m : Pending) (p : Phase) → number_of (in_phase m p) ≡ number_of m
unfolding number_of in_phase
phase_number m p = refl

empty_there : (os : List (Option Pending)) (i : ℕ) (m : Pending) → get_or os i None ≡ Some m
    → get_or (set os i None) i None ≡ None
empty_there os i m h = get_or-set_same os i None None (within os i m h)

room_there : (os : List (Option Pending)) (i j : ℕ) → j < length os → j < length (set os i None)
room_there os i j l = let q = length-set os i None in omega (arith, q, l)

others_number : (os : List (Option Pending)) (i : ℕ) (m : Pending) (p : Phase) → get_or os i None ≡ Some m → Own os
    → Each (λ x. number_of x ≢ number_of (in_phase m p)) (somes (set os i None))
others_number os i m p h own =
    each_map (λ x. number_of x ≢ number_of m) (λ x. number_of x ≢ number_of (in_phase m p))
    (λ x k e. k (e ∙ phase_number m p)) (somes (set os i None)) (others_differ number_of os i m h own)

own_moved : (os : List (Option Pending)) (i j : ℕ) (m : Pending) (p : Phase) → get_or os i None ≡ Some m → Own os
    → get_or (set os i None) j None ≡ None → j < length os → Own (set (set os i None) j (Some (in_phase m p)))
own_moved os i j m p h own e l =
    own_put number_of (set os i None) j (in_phase m p) e (room_there os i j l) (others_number os i m p h own)
    (own_taken number_of os i m h own)

pub staged_right : {units places channels : List (Option Pending)} {ms : List Pending} {i : ℕ} {m : Pending}
    (u : FunctionalUnit) (s : Stage) → IsRead (stage_at u) units places channels ms i (Some m) → i ≡ unit_number u
    → IsRight (set units i (Some (in_phase m (Before s)))) places channels
unfolding slots
staged_right {units} {places} {channels} {i = i} {m = m} u s r e =
    let os : List (Option Pending) = units ++ (places ++ channels) in
    let b = unit_below u in
    let inside : i < length units = omega (arith, b, e, r.right.all_units) in
    let a = read_answers r in
    let front = set-append_left units (places ++ channels) i (Some (in_phase m (Before s))) inside in
    record {
      all_units = length-set units i (Some (in_phase m (Before s))) ∙ r.right.all_units;
      all_places = r.right.all_places;
      all_channels = r.right.all_channels;
      stands = subst (IsInSlots slot_of 0) front
          (in_slots_fill slot_of os 0 i (in_phase m (Before s))
          (staged_slot m a.0 s (stage_found u m a.0 a.1) ∙ in_slots_here slot_of os 0 i m r.there r.right.stands)
          r.right.stands);
      own = grind (arith, own_moved, empty_there, within, set-set);
    }

staged_order : (units places channels : List (Option Pending)) (i : ℕ) (m : Pending) (s : Stage) → i < length units
    → get_or (slots units places channels) i None ≡ Some m → Own (slots units places channels)
    → in_order (slots (set units i (Some (in_phase m (Before s)))) places channels)
    ≡ before_slot number_of (slots units places channels) i m
    ++ ((in_phase m (Before s) ∷ []) ++ after_slot number_of (slots units places channels) i m)
unfolding slots
staged_order units places channels i m s inside here own =
    let os : List (Option Pending) = units ++ (places ++ channels) in
    ap (λ l. sort_by number_of (somes l))
    (grind (arith, set-set, set-append_left))
    ∙ moved_with number_of os i i m (in_phase m (Before s)) here (phase_number m (Before s)) (empty_there os i m here)
    (room_there os i i (within os i m here)) own

pub staged_view : {units places channels : List (Option Pending)} {ms : List Pending} {i : ℕ} {m : Pending}
    (u : FunctionalUnit) (s : Stage) → IsRead (stage_at u) units places channels ms i (Some m) → i ≡ unit_number u
    → in_order (slots (set units i (Some (in_phase m (Before s)))) places channels)
    ≡ replaced (seek (stage_at u) ms) ms (λ x. in_phase x (Before s) ∷ [])
staged_view {units} {places} {channels} {i = i} {m = m} u s r e =
    let b = unit_below u in
    read_replaced (λ x. in_phase x (Before s) ∷ []) _ r
    (staged_order units places channels i m s (omega (arith, b, e, r.right.all_units)) r.there r.right.own)

-- ---- moved to its place or its channel ----

-- an instruction has moved to its place or channel, and the others are unchanged
abbrev pub HasRest : (places channels : List (Option Pending)) → Pending → Option Outstanding
    → (ps cs : List (Option Pending)) → Type 0
HasRest places channels m l ps cs = (ps ≡ places_with places m l) × (cs ≡ channels_with channels m l)

abbrev later_slot : Outstanding → ℕ
later_slot (Entered place a access) = 10 + place
later_slot (Accepted n word) = 14 + n

-- the moved instruction, in its slot
left_slots : (units places channels : List (Option Pending)) (m : Pending) (l : Outstanding) (ms : List Pending)
    → length units ≡ 10 → length places ≡ 4 → HasRoom (Some l) ms
    → set (slots units places channels) (later_slot l) (Some (in_phase m (After l)))
    ≡ slots units (places_with places m (Some l)) (channels_with channels m (Some l))
unfolding slots places_with channels_with
left_slots units places channels m (Entered place a access) ms lu lp room =
    let y : Pending = in_phase m (After (Entered place a access)) in
    let e = set_back units (places ++ channels) place (10 + place) (Some y) (omega (arith, lu)) in
    grind (arith, set-append_left)
left_slots units places channels m (Accepted n word) ms lu lp room =
    let y : Pending = in_phase m (After (Accepted n word)) in
    cc (
      set_back units (places ++ channels) (4 + n) (14 + n) (Some y) (omega (arith, lu)),
      set_back places channels n (4 + n) (Some y) (omega (arith, lp)),
    )

left_stands : (m : Pending) (l : Outstanding) (ms : List Pending) → HasRoom (Some l) ms
    → slot_of (in_phase m (After l)) ≡ later_slot l
unfolding slot_of slot_in in_phase
left_stands m l ms room = grind arith

left_elsewhere : (l : Outstanding) (ms : List Pending) → HasRoom (Some l) ms → AreElsewhere (later_slot l) ms
left_elsewhere l ms room = grind arith

left_below : (l : Outstanding) (ms : List Pending) → HasRoom (Some l) ms → later_slot l < 22
left_below l ms room = grind arith

length_joined : {K : Type 0} (xs ys : List K) → length (xs ++ ys) ≡ length xs + length ys
length_joined [] ys = omega arith
length_joined (x ∷ xs) ys = let e = length_joined xs ys in omega (arith, e)

all_slots : (units places channels : List (Option Pending)) → IsRight units places channels
    → length (slots units places channels) ≡ 22
unfolding slots
all_slots units places channels right = grind (arith, length_joined)

left_empty : (os : List (Option Pending)) (i : ℕ) (l : Outstanding) → IsInSlots slot_of 0 os
    → HasRoom (Some l) (in_order os) → get_or (set os i None) (later_slot l) None ≡ None
left_empty os i l s room =
    slot_empty slot_of (set os i None) 0 (later_slot l) (later_slot l) (omega arith) (in_slots_empty slot_of os 0 i s)
    (search (each_taken, each_sorted, left_elsewhere))

with_lengths : (places channels : List (Option Pending)) (m : Pending) (l : Option Outstanding)
    → (length (places_with places m l) ≡ length places) × (length (channels_with channels m l) ≡ length channels)
unfolding places_with channels_with
with_lengths places channels m l = grind (arith, length-set)

rest_there : (units places channels ps cs : List (Option Pending)) (m : Pending) (l : Option Outstanding)
    → HasRest places channels m l ps cs
    → slots units (places_with places m l) (channels_with channels m l) ≡ slots units ps cs
rest_there units places channels ps cs m l rest = cc

none_there : (units places channels ps cs : List (Option Pending)) (m : Pending) → HasRest places channels m None ps cs
    → slots units places channels ≡ slots units ps cs
unfolding places_with channels_with
none_there units places channels ps cs m rest = cc

-- the three lists hold the slots of `os`, with one slot emptied
pub record IsOut (os units places channels : List (Option Pending)) (i : ℕ) : Type 0 where
  rest : set os i None ≡ slots units places channels
  all_units : length units ≡ 10
  all_places : length places ≡ 4
  all_channels : length channels ≡ 8

-- the removed instruction moves into one of the three lists
pub moved_right : {W : Type 0} {ask : Pending → Option W} {us qs ns units places channels ps cs : List (Option Pending)}
    {ms : List Pending} {i : ℕ} {m : Pending} (l : Option Outstanding) → IsRead ask us qs ns ms i (Some m)
    → IsOut (slots us qs ns) units places channels i → HasRoom l ms → HasRest places channels m l ps cs
    → IsRight units ps cs
moved_right {us = us} {qs} {ns} {units} {places} {channels} {ps} {cs} {i = i} {m = m} None r o room rest =
    let os : List (Option Pending) = slots us qs ns in
    record {
      all_units = o.all_units;
      all_places = ap length rest.0 ∙ (with_lengths places channels m None).0 ∙ o.all_places;
      all_channels = ap length rest.1 ∙ (with_lengths places channels m None).1 ∙ o.all_channels;
      stands = grind (arith, none_there, in_slots_empty);
      own = subst Own (o.rest ∙ none_there units places channels ps cs m rest)
          (own_taken number_of os i m r.there r.right.own);
    }
moved_right {us = us} {qs} {ns} {units} {places} {channels} {ps} {cs} {ms} {i} {m} (Some l) r o room rest =
    let os : List (Option Pending) = slots us qs ns in
    let free : HasRoom (Some l) (in_order os) = subst (HasRoom (Some l)) (sym r.view) room in
    let all = all_slots us qs ns r.right in
    let there = ap (λ k. set k (later_slot l) (Some (in_phase m (After l)))) o.rest
    ∙ left_slots units places channels m l (in_order os) o.all_units o.all_places free
    ∙ rest_there units places channels ps cs m (Some l) rest in
    record {
      all_units = o.all_units;
      all_places = ap length rest.0 ∙ (with_lengths places channels m (Some l)).0 ∙ o.all_places;
      all_channels = ap length rest.1 ∙ (with_lengths places channels m (Some l)).1 ∙ o.all_channels;
      stands = grind (arith, in_slots_fill, left_stands, in_slots_empty);
      own = grind (arith, own_moved, left_empty);
    }

moved_order : (os units places channels ps cs : List (Option Pending)) (i : ℕ) (m : Pending) (l : Option Outstanding)
    → get_or os i None ≡ Some m → AreSlots slot_of number_of os → length os ≡ 22
    → IsOut os units places channels i → HasRoom l (in_order os) → HasRest places channels m l ps cs
    → in_order (slots units ps cs) ≡ before_slot number_of os i m ++ (kept m l ++ after_slot number_of os i m)
unfolding kept
moved_order os units places channels ps cs i m None there s all o room rest = grind (arith, none_there, taken_without)
moved_order os units places channels ps cs i m (Some l) there s all o room rest =
    let low = left_below l (in_order os) room in
    ap (λ k. sort_by number_of (somes k))
    (grind (arith, left_slots, rest_there))
    ∙ moved_with number_of os i (later_slot l) m (in_phase m (After l)) there (phase_number m (After l))
    (left_empty os i l s.stands room) (room_there os i (later_slot l) (omega (arith, all, low))) s.own

pub moved_view : {W : Type 0} {ask : Pending → Option W} {us qs ns units places channels ps cs : List (Option Pending)}
    {ms : List Pending} {i : ℕ} {m : Pending} (l : Option Outstanding) → IsRead ask us qs ns ms i (Some m)
    → IsOut (slots us qs ns) units places channels i → HasRoom l ms → HasRest places channels m l ps cs
    → in_order (slots units ps cs) ≡ replaced (seek ask ms) ms (λ x. kept x l)
moved_view {us = us} {qs} {ns} l r o room rest =
    read_replaced (λ x. kept x l) _ r (grind (arith, moved_order, as_slots, all_slots))

-- ---- out of a unit ----

pub unit_out : {units places channels : List (Option Pending)} {i : ℕ} (u : FunctionalUnit)
    → IsRight units places channels → i ≡ unit_number u
    → IsOut (slots units places channels) (set units i None) places channels i
unfolding slots
unit_out {units} {places} {channels} {i} u right e = grind (arith, unit_below, set-append_left, length-set)

-- ---- out of a place ----

entry_here : (p : ℕ) (v : FunctionalUnit) (q : Phase) → p < 4 → slot_in v q ≡ 10 + p → (e : Reference)
    × (entry_in p q ≡ Some e)
unfolding entry_in slot_in
entry_here p v (Before t) b h = absurd (let k = unit_below v in omega (arith, h, k))
entry_here p v (After (Accepted n w)) b h = absurd (grind arith)
entry_here p v (After (Entered s a x)) b h = (record { address = a; access = x }, grind arith)

entry_others : (p : ℕ) (v : FunctionalUnit) (q : Phase) → p < 4 → slot_in v q ≢ 10 + p → entry_in p q ≡ None
unfolding entry_in slot_in
entry_others p v q b h = grind arith

entry_asked : (p i : ℕ) → p < 4 → i ≡ p → IsOfSlot slot_of (entry_at p) (10 + i)
unfolding entry_at slot_of
entry_asked p i b e = record {
  here = λ m h. entry_here p m.unit m.phase b (h ∙ ap (λ k. 10 + k) e);
  others = λ m h. entry_others p m.unit m.phase b (λ q. h (q ∙ ap (λ k. 10 + k) (sym e)));
}

pub entry_is : (p : ℕ) (m : Pending) → p < 4 → slot_of m ≡ 10 + p → (e : Reference) × (entry_at p m ≡ Some e)
entry_is p m b h = (entry_asked p p b refl).here m h

-- the slot of a place of the hopper, read with any default
pub place_read : {units places channels : List (Option Pending)} {ms : List Pending} {i p : ℕ} {o : Option Pending}
    (d : Option Pending) → IsRight units places channels → in_order (slots units places channels) ≡ ms → p < 4
    → i ≡ p → get_or places i d ≡ o → IsRead (entry_at p) units places channels ms (10 + i) o
unfolding slots
place_read {units} {places} {channels} {i =
    i} {p} d right view b e h = grind (arith, entry_asked, get_back, slot_any, get_or_append_left)

pub place_out : {units places channels : List (Option Pending)} {i : ℕ} → IsRight units places channels → i < 4
    → IsOut (slots units places channels) units (set places i None) channels (10 + i)
unfolding slots
place_out {units} {places} {channels} {i} right b =
    let e = set_back units (places ++ channels) i (10 + i) None (omega (arith, right.all_units)) in
    grind (arith, set-append_left, length-set)

-- ---- out of a channel ----

arrival_here : (n : ℕ) (v : FunctionalUnit) (q : Phase) → n < 8 → slot_in v q ≡ 14 + n → (e : Arrival)
    × (arrival_in n q ≡ Some e)
unfolding arrival_in slot_in
arrival_here n v (Before t) b h = absurd (let k = unit_below v in omega (arith, h, k))
arrival_here n v (After (Entered s a x)) b h = absurd (grind arith)
arrival_here n v (After (Accepted m w)) b h = (record { channel = m; word = w }, grind arith)

arrival_others : (n : ℕ) (v : FunctionalUnit) (q : Phase) → n < 8 → slot_in v q ≢ 14 + n → arrival_in n q ≡ None
unfolding arrival_in slot_in
arrival_others n v q b h = grind arith

arrival_asked : (n i : ℕ) → n < 8 → i ≡ n → IsOfSlot slot_of (arrival_at n) (14 + i)
unfolding arrival_at slot_of
arrival_asked n i b e = record {
  here = λ m h. arrival_here n m.unit m.phase b (h ∙ ap (λ k. 14 + k) e);
  others = λ m h. arrival_others n m.unit m.phase b (λ q. h (q ∙ ap (λ k. 14 + k) (sym e)));
}

pub arrival_is : (n : ℕ) (m : Pending) → n < 8 → slot_of m ≡ 14 + n → (e : Arrival) × (arrival_at n m ≡ Some e)
arrival_is n m b h = (arrival_asked n n b refl).here m h

-- the slot of a channel, read with any default
pub channel_read : {units places channels : List (Option Pending)} {ms : List Pending} {i n : ℕ} {o : Option Pending}
    (d : Option Pending) → IsRight units places channels → in_order (slots units places channels) ≡ ms → n < 8
    → i ≡ n → get_or channels i d ≡ o → IsRead (arrival_at n) units places channels ms (14 + i) o
unfolding slots
channel_read {units} {places} {channels} {i = i} {n} d right view b e h =
    let f = get_back units (places ++ channels) (4 + i) (14 + i) None (omega (arith, right.all_units)) in
    let g = get_back places channels i (4 + i) None (omega (arith, right.all_places)) in
    grind (arith, arrival_asked, slot_any)

pub channel_out : {units places channels : List (Option Pending)} (i : ℕ) → IsRight units places channels
    → IsOut (slots units places channels) units places (set channels i None) (14 + i)
unfolding slots
channel_out {units} {places} {channels} i right =
    let e = set_back units (places ++ channels) (4 + i) (14 + i) None (omega (arith, right.all_units)) in
    let q = set_back places channels i (4 + i) None (omega (arith, right.all_places)) in grind (arith, length-set)

-- the removed instruction has nothing left to do
pub no_rest : (places channels : List (Option Pending)) (m : Pending) → HasRest places channels m None places channels
unfolding places_with channels_with
no_rest places channels m = (refl, refl)

arrival_far_in : (n : ℕ) (v : FunctionalUnit) (q : Phase) → 8 ≤ n → slot_in v q < 22 → arrival_in n q ≡ None
unfolding arrival_in slot_in
arrival_far_in n v q b h = grind arith

arrival_far : (n : ℕ) (y : Pending) → 8 ≤ n → slot_of y < 22 → arrival_at n y ≡ None
unfolding arrival_at slot_of
arrival_far n y b h = arrival_far_in n y.unit y.phase b h

-- no load waits in a channel with a number above 7
pub arrival_beyond : (units places channels : List (Option Pending)) (n : ℕ) → IsRight units places channels → 8 ≤ n
    → seek (arrival_at n) (in_order (slots units places channels)) ≡ None
arrival_beyond units places channels n right b =
    let os : List (Option Pending) = slots units places channels in
    let all = all_slots units places channels right in
    found_nobody number_of (arrival_at n) os
    (each_map (λ y. slot_of y < 22) (λ y. arrival_at n y ≡ None) (λ y k. arrival_far n y b k) (somes os)
    (slots_below slot_of os 0 22 (omega (arith, all)) right.stands))

pub arrival_none : {units places channels : List (Option Pending)} {ms : List Pending} (n : ℕ)
    → IsRight units places channels → in_order (slots units places channels) ≡ ms → get_or channels n None ≡ None
    → seek (arrival_at n) ms ≡ None
arrival_none {units} {places} {channels} {ms} n right view h = by_test (ltb n 8) refl
  where
    by_test : (b : Bool) → ltb n 8 ≡ b → seek (arrival_at n) ms ≡ None
    by_test true e = read_nobody (channel_read None right view (ltb-true n 8 e) refl h)
    by_test false e = grind (arith, arrival_beyond, ltb-false)

pub channel_below : {units places channels : List (Option Pending)} (n : ℕ) (m : Pending)
    → IsRight units places channels → get_or channels n None ≡ Some m → n < 8
channel_below {channels = channels} n m right h = grind (arith, within)

-- ---- a new one ----

pub slot_free : {units places channels : List (Option Pending)} {ms : List Pending} {i : ℕ} (u : FunctionalUnit)
    → IsRight units places channels → in_order (slots units places channels) ≡ ms → i ≡ unit_number u
    → seek (stage_at u) ms ≡ None → get_or units i None ≡ None
slot_free {units} {i = i} u right view e h = by_slot (get_or units i None) refl
  where
    by_slot : (o : Option Pending) → get_or units i None ≡ o → o ≡ None
    by_slot None k = refl
    by_slot (Some m) k =
        let r = unit_read u None right view e k in
        let f = asked_found slot_of number_of _ _ _ _ r.asked (as_slots r.right) r.there in grind arith

new_stands : (m : Pending) (t : Stage) → m.phase ≡ Before t → slot_of m ≡ unit_number m.unit
unfolding slot_of slot_in
new_stands m t h = ap (slot_in m.unit) h

pub new_right : (units places channels : List (Option Pending)) (i : ℕ) (m : Pending) (t : Stage)
    → IsRight units places channels → i ≡ unit_number m.unit → m.phase ≡ Before t → get_or units i None ≡ None
    → Each (λ x. x.number < m.number) (in_order (slots units places channels))
    → IsRight (set units i (Some m)) places channels
unfolding slots number_of
new_right units places channels i m t right e w h last =
    let os : List (Option Pending) = units ++ (places ++ channels) in
    let b = unit_below m.unit in
    let inside : i < length units = omega (arith, b, e, right.all_units) in
    let here = get_or_append_left units (places ++ channels) None i inside ∙ h in
    let all = length_joined units (places ++ channels) in
    let front = set-append_left units (places ++ channels) i (Some m) inside in
    record {
      all_units = length-set units i (Some m) ∙ right.all_units;
      all_places = right.all_places;
      all_channels = right.all_channels;
      stands = grind (arith, in_slots_fill, new_stands);
      own = subst Own front (own_put number_of os i m here (omega (arith, all, inside))
          (grind (arith, each_map, each_sorted)) right.own);
    }
  where
    less_differs : (x y : Pending) → x.number < y.number → number_of x ≢ number_of y
    less_differs x y k = λ q. omega (arith, k, q)

pub new_view : (units places channels : List (Option Pending)) (i : ℕ) (m : Pending) → IsRight units places channels
    → i ≡ unit_number m.unit → get_or units i None ≡ None
    → Each (λ x. x.number < m.number) (in_order (slots units places channels))
    → in_order (slots (set units i (Some m)) places channels) ≡ in_order (slots units places channels) ++ m ∷ []
unfolding slots number_of
new_view units places channels i m right e h last =
    let os : List (Option Pending) = units ++ (places ++ channels) in
    let b = unit_below m.unit in
    let inside : i < length units = omega (arith, b, e, right.all_units) in
    let all = length_joined units (places ++ channels) in
    ap (λ l. sort_by number_of (somes l)) (sym (set-append_left units (places ++ channels) i (Some m) inside))
    ∙ sort_new number_of os i m (get_or_append_left units (places ++ channels) None i inside ∙ h)
    (omega (arith, all, inside)) (each_sorted number_of (λ x. x.number < m.number) (somes os) last)

-- ---- nobody at all ----

insert_some : (x : Pending) (ys : List Pending) → has_none (insert_by number_of x ys) ≡ false
unfolding insert_by has_none
insert_some x [] = refl
insert_some x (y ∷ ys) = grind arith

none_sorted : (os : List (Option Pending)) → list_all is_none os ≡ has_none (sort_by number_of (somes os))
unfolding sort_by somes has_none
none_sorted [] = refl
none_sorted (None ∷ os) = none_sorted os
none_sorted (Some x ∷ os) = sym (insert_some x (sort_by number_of (somes os)))

all-append : (xs ys : List (Option Pending))
    → list_all is_none (xs ++ ys) ≡ (list_all is_none xs && list_all is_none ys)
all-append [] ys = refl
all-append (None ∷ xs) ys = all-append xs ys
all-append (Some x ∷ xs) ys = refl

pub none_pending : (units places channels : List (Option Pending))
    → (list_all is_none units && (list_all is_none places && list_all is_none channels))
    ≡ has_none (in_order (slots units places channels))
unfolding slots
none_pending units places channels =
    cc (all-append places channels, all-append units (places ++ channels), none_sorted (units ++ (places ++ channels)))
