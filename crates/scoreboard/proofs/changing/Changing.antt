-- The list that a board represents after each change.
use Rattle.std.proofs.Common.{◌≡◌, ◌<◌, ◌+◌, ℕ, Bool, true, List, ◌++◌, Option, Some, None, refl, sym, ap, ◌∙◌, get_or}
use Rattle.std.proofs.Common.{set, length, arith}
use Rattle.std.specs.Prelude.{IfSome}
use Rattle.std.proofs.lemmas.List.{length-set, length-append, set-set, set-append_left, get_or-set_same}
use Rattle.instructions.specs.declared.instr.Unit.{Unit as FunctionalUnit}
use Rattle.instructions.specs.Finding.{seek, replaced}
use Rattle.instructions.specs.Shape.{shape_of}
use Rattle.scoreboard.specs.declared.reservation.Occupancy.TheVariants.{Reserved, Left}
use Rattle.scoreboard.specs.Units.{unit_number, same_unit}
use Rattle.scoreboard.specs.declared.issued.Issued.{Issued}
use Rattle.scoreboard.specs.declared.writer.Writer.{Writer}
use Rattle.scoreboard.specs.declared.writers.Writers.{Writers}
use Rattle.scoreboard.specs.Answers.{Standing, held_in, returning_by, in_occupancy, read, left, left_with, gone}
use Rattle.scoreboard.specs.Answers.{with_issued}
use Rattle.scoreboard.specs.Issued.{number_of, channel_of}
use Rattle.instructions.specs.Order.{sort_by, somes}
use Rattle.scoreboard.specs.inner.View.{standing_of, in_slots, slot_of, IsRight}
use Rattle.instructions.proofs.Slots.{within, moved_with, taken_without, in_slots_here, before_slot, after_slot}
use Rattle.scoreboard.proofs.in_slots.InSlots.{set_back, own_keys, stands_reserved}
use Rattle.scoreboard.proofs.in_slots.Standing.{changed, nobody_changed, nobody_held, nobody_returns, unit_slot}
use Rattle.scoreboard.proofs.in_slots.Standing.{channel_slot, others_free, here_held, others_not_returning}
use Rattle.scoreboard.proofs.in_slots.Standing.{here_returns}
use Rattle.scoreboard.proofs.changing.Right.{channel_empty, channels_with}

with_same : (s : Standing) (xs : List Issued) → xs ≡ s.issued → with_issued s xs ≡ s
unfolding with_issued
with_same s xs e = ap (λ l. record s { issued = l }) e

pub nobody_marked : (f : Issued → List Issued) (units channels : List (Option Issued))
    (producers : List (List (Option Writer))) (ws : Writers) (last : ℕ) (u : FunctionalUnit) (i : ℕ)
    → IsRight units channels producers ws last → i ≡ unit_number u → get_or units i None ≡ None
    → standing_of units channels last
    ≡ with_issued (standing_of units channels last)
    (replaced (seek (held_in u) (standing_of units channels last).issued) (standing_of units channels last).issued f)
unfolding in_slots
nobody_marked f units channels producers ws last u i right e h =
    sym (with_same (standing_of units channels last) _
    (nobody_changed (held_in u) f (units ++ channels)
    (nobody_held u (units ++ channels) i e (unit_slot units channels u i None right.all_units e h) right.stands)))

pub nobody_returned : (f : Issued → List Issued) (units channels : List (Option Issued))
    (producers : List (List (Option Writer))) (ws : Writers) (last n : ℕ) → IsRight units channels producers ws last
    → get_or channels n None ≡ None
    → standing_of units channels last
    ≡ with_issued (standing_of units channels last)
    (replaced (seek (returning_by n) (standing_of units channels last).issued) (standing_of units channels last).issued
    f)
unfolding in_slots
nobody_returned f units channels producers ws last n right h =
    sym (with_same (standing_of units channels last) _
    (nobody_changed (returning_by n) f (units ++ channels)
    (nobody_returns n (units ++ channels) (channel_slot units channels n None right.all_units h) right.stands)))

pub marked_view : (units channels : List (Option Issued)) (producers : List (List (Option Writer))) (ws : Writers)
    (last : ℕ) (u : FunctionalUnit) (i : ℕ) (x : Issued) → IsRight units channels producers ws last → i ≡ unit_number u
    → get_or units i None ≡ Some x
    → standing_of (set units i (Some (in_occupancy x (Reserved true)))) channels last
    ≡ with_issued (standing_of units channels last)
    (replaced (seek (held_in u) (standing_of units channels last).issued) (standing_of units channels last).issued
    read)
unfolding in_slots with_issued read number_of in_occupancy
marked_view units channels producers ws last u i x right e h =
    ap (λ l. record { issued = l; last = last })
    (ap (λ l. sort_by number_of (somes l))
    (sym (set-set os i None (Some y) ∙ set-append_left units channels i (Some y) (within units i x h)))
    ∙ moved_with number_of os i i x y here refl empty room (own_keys (somes os) right.apart)
    ∙ sym (changed (held_in u) read os i x here right.apart (here_held u os i x e here right.stands)
    (others_free u os i e right.stands)))
  where
    os : List (Option Issued)
    os = units ++ channels

    y : Issued
    y = in_occupancy x (Reserved true)

    here : get_or os i None ≡ Some x
    here = unit_slot units channels u i (Some x) right.all_units e h

    empty : get_or (set os i None) i None ≡ None
    empty = get_or-set_same os i None None (within os i x here)

    room : i < length (set os i None)
    room = let b = within os i x here in let q = length-set os i None in omega (arith, b, q)

pub released_view : (units channels : List (Option Issued)) (producers : List (List (Option Writer))) (ws : Writers)
    (last : ℕ) (u : FunctionalUnit) (i : ℕ) (x : Issued) → IsRight units channels producers ws last → i ≡ unit_number u
    → get_or units i None ≡ Some x → IfSome (channel_of (shape_of x.reservation.instr)) (λ n. n < 8)
    → standing_of (set units i None) (channels_with channels x (channel_of (shape_of x.reservation.instr))) last
    ≡ with_issued (standing_of units channels last)
    (replaced (seek (held_in u) (standing_of units channels last).issued) (standing_of units channels last).issued
    left)
unfolding in_slots with_issued left left_with number_of in_occupancy channels_with
released_view units channels producers ws last u i x right e h below_8 =
    ap (λ l. record { issued = l; last = last })
    (by_channel (channel_of (shape_of x.reservation.instr)) refl below_8
    ∙ sym (changed (held_in u) left os i x here right.apart (here_held u os i x e here right.stands)
    (others_free u os i e right.stands)))
  where
    os : List (Option Issued)
    os = units ++ channels

    here : get_or os i None ≡ Some x
    here = unit_slot units channels u i (Some x) right.all_units e h

    reserved : (b : Bool) × (x.reservation.occupancy ≡ Reserved b) × (same_unit x.reservation.unit u ≡ true)
    reserved = stands_reserved u x (in_slots_here slot_of os 0 i x here right.stands ∙ omega (arith, e))

    front : set os i None ≡ set units i None ++ channels
    front = set-append_left units channels i None (within units i x h)

    fewer : length (set units i None) ≡ 10
    fewer = length-set units i None ∙ right.all_units

    by_channel : (o : Option ℕ) → channel_of (shape_of x.reservation.instr) ≡ o → IfSome o (λ n. n < 8)
        → sort_by number_of (somes (set units i None ++ channels_with channels x o)) ≡ before_slot number_of os i x
        ++ (left_with x o ++ after_slot number_of os i x)
    by_channel None k l = ap (λ m. sort_by number_of (somes m)) (sym front) ∙ taken_without number_of (number_of x) os i
    by_channel (Some n) k l =
        ap (λ m. sort_by number_of (somes m))
        (sym (ap (λ m. set m (10 + n) (Some y)) front
        ∙ set_back (set units i None) channels n (10 + n) (Some y) (omega (arith, fewer))))
        ∙ moved_with number_of os i (10 + n) x y here refl
        (channel_empty os i n x reserved.0 l here right.stands right.apart reserved.1 k) room
        (own_keys (somes os) right.apart)
      where
        y : Issued
        y = in_occupancy x (Left (Some n))

        room : 10 + n < length (set os i None)
        room = let q = ap length front
            ∙ length-append (set units i None) channels in omega (arith, q, fewer, right.all_channels, l)

pub returned_view : (units channels : List (Option Issued)) (producers : List (List (Option Writer))) (ws : Writers)
    (last n : ℕ) (x : Issued) → IsRight units channels producers ws last → n < 8 → get_or channels n None ≡ Some x
    → standing_of units (set channels n None) last
    ≡ with_issued (standing_of units channels last)
    (replaced (seek (returning_by n) (standing_of units channels last).issued)
    (standing_of units channels last).issued gone)
unfolding in_slots with_issued gone
returned_view units channels producers ws last n x right below_8 h =
    ap (λ l. record { issued = l; last = last })
    (ap (λ m. sort_by number_of (somes m))
    (sym (set_back units channels n (10 + n) None (omega (arith, right.all_units))))
    ∙ taken_without number_of (number_of x) os (10 + n)
    ∙ sym (changed (returning_by n) gone os (10 + n) x here right.apart (here_returns n os x below_8 here right.stands)
    (others_not_returning n os right.stands)))
  where
    os : List (Option Issued)
    os = units ++ channels

    here : get_or os (10 + n) None ≡ Some x
    here = channel_slot units channels n (Some x) right.all_units h
