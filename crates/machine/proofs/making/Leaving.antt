-- The reference that an instruction leaves after its store event: its form, by the instruction's shape, and the room
-- for it.
use Rattle.std.proofs.Common.{◌≡◌, ℕ, Bool, true, false, ◌&&◌, Option, Some, None, length, refl, sym, ap, ◌∙◌, subst}
use Rattle.std.specs.Prelude.{IfSome, is_none}
use Rattle.instructions.specs.declared.instr.Unit.{Unit as FunctionalUnit}
use Rattle.instructions.specs.Each.{Each}
use Rattle.instructions.specs.Shape.{Shape, Sets, Loads, Stores, Jumps, Links, shape_of, has_reference}
use Rattle.relocation.specs.declared.area.Access.TheVariants.{Load as LoadInto, Store as StoreWord}
use Rattle.scoreboard.specs.Issued.{channel_of}
use Rattle.sequential.specs.State.{Bounds, bounds_of, absolute}
use Rattle.sequential.specs.Work.{address_in, word_in, reference_for, work_of}
use Rattle.unit_ops.specs.declared.UnitValue.{UnitValue}
use Rattle.program_order.specs.declared.event.Event.TheVariants.{Store as StoreResult}
use Rattle.in_flight.specs.declared.referring.Relocated.{Relocated}
use Rattle.in_flight.specs.declared.pending.Pending.{Pending}
use Rattle.in_flight.specs.declared.pending.Stage.{Stage}
use Rattle.in_flight.specs.declared.pending.Stage.TheVariants.{Finished}
use Rattle.in_flight.specs.Pending.{left_to_return, returning}
use Rattle.in_flight.specs.Flight.{entering, outstanding_of, relocated, IsRestOf}
use Rattle.in_flight.specs.Lookup.{located, enters, place_for, stage_at}
use Rattle.instructions.specs.Finding.{Found, seek}
use Rattle.program_order.specs.Processor.{Processor}
use Rattle.program_order.specs.Events.{allowed, tests_of}
use Rattle.program_order.specs.Units.{rest_of, store_tests}
use Rattle.in_flight.specs.Tests.{refusal_of, tests_found}
use Rattle.in_flight.proofs.asking.Finding.{no_sought, refusal_none, sought_pending, sought_what}
use Rattle.machine.proofs.making.Making.{bounds_at}

load_returns : (o : Option ℕ) (n : ℕ) → left_to_return (entering 0 o (LoadInto n)) ≡ Some n
unfolding entering left_to_return returning
load_returns None n = refl
load_returns (Some a) n = refl

store_returns : (o : Option ℕ) (word : ℕ) → left_to_return (entering 0 o (StoreWord word)) ≡ None
unfolding entering left_to_return returning
store_returns None word = refl
store_returns (Some a) word = refl

-- the rest of a load returns to the channel of its shape
rest_returns : (b : Bounds) (h : Shape) (v : UnitValue)
    → left_to_return (rest_of b 0 (reference_for h v)) ≡ channel_of h
unfolding reference_for relocated outstanding_of left_to_return channel_of
rest_returns b (Sets rs) v = refl
rest_returns b (Loads n) v = load_returns (absolute b (address_in v)) n
rest_returns b (Stores n) v = store_returns (absolute b (address_in v)) (word_in v)
rest_returns b Jumps v = refl
rest_returns b Links v = store_returns (absolute b (address_in v)) (word_in v)

-- only an instruction with a reference leaves one
rest_refers : (b : Bounds) (h : Shape) (v : UnitValue) → enters (rest_of b 0 (reference_for h v)) ≡ true
    → has_reference h ≡ true
unfolding reference_for relocated outstanding_of enters has_reference
rest_refers b (Sets rs) v e = cc
rest_refers b (Loads n) v e = refl
rest_refers b (Stores n) v e = refl
rest_refers b Jumps v e = cc
rest_refers b Links v e = refl

is_rest : (b : Bounds) (h : Shape) (v : UnitValue) (rest : Option Relocated)
    → outstanding_of 0 rest ≡ rest_of b 0 (reference_for h v) → IsRestOf h rest
is_rest b h v rest e = record {
  returns = ap left_to_return e ∙ rest_returns b h v;
  refers = λ k. rest_refers b h v (sym (ap enters e) ∙ k);
}

-- the rest is one that an instruction of that shape may leave
pub store_rest : (w : Processor) (u : FunctionalUnit) (m : Pending) (v : UnitValue) (b : Bounds)
    (rest : Option Relocated) → located (seek (stage_at u) w.pending)
    ≡ Some (record { pending = m; answer = Finished v })
    → rest ≡ relocated b (reference_for (shape_of m.instr) v)
    → IfSome (located (seek (stage_at u) w.pending)) (λ s. IsRestOf (shape_of s.pending.instr) rest)
store_rest w u m v b rest h er =
    subst (λ o. IfSome o (λ s. IsRestOf (shape_of s.pending.instr) rest)) (sym h)
    (is_rest b (shape_of m.instr) v rest
    (ap (outstanding_of 0) er))

-- if the rest enters the hopper, there is a free place
pub store_room : (w : Processor) (u : FunctionalUnit) (size : ℕ) (m : Pending) (v : UnitValue)
    (rest : Option Relocated) → allowed w (StoreResult u) ≡ None
    → located (seek (stage_at u) w.pending) ≡ Some (record { pending = m; answer = Finished v })
    → size ≡ length w.state.memory
    → rest ≡ relocated (record { area = w.state.area; size = size }) (reference_for (shape_of m.instr) v)
    → enters (outstanding_of 0 rest) ≡ true → is_none (place_for w.pending) ≡ false
unfolding allowed tests_of tests_found store_tests work_of
store_room w u size m v rest a h ez er e = found (seek (stage_at u) w.pending) a h
  where
    is_left : enters (rest_of (bounds_of w.state) 0 (reference_for (shape_of m.instr) v)) ≡ true
    is_left = let q = reference_for (shape_of m.instr) v in
        ap (λ b. enters (rest_of b 0 q)) (sym (bounds_at w size ez))
        ∙ ap enters (sym (ap (outstanding_of 0) er)) ∙ e

    other : (x y : Bool) → (x && y) ≡ false → x ≡ true → y ≡ false
    other true y k i = k
    other false y k i = cc

    stored : (f : Found Pending Stage) (t : Stage) → t ≡ Finished v → f.item ≡ m
        → refusal_of (store_tests (bounds_of w.state) w.pending t f.earlier f.item.instr) ≡ None
        → is_none (place_for w.pending) ≡ false
    stored f t et em k =
        let r = refusal_none (store_tests (bounds_of w.state) w.pending (Finished v) f.earlier m.instr)
        (ap (λ (x : Pending). refusal_of
        (store_tests (bounds_of w.state) w.pending (Finished v) f.earlier x.instr)) (sym em) ∙ ap (λ x. refusal_of
        (store_tests (bounds_of w.state) w.pending x f.earlier f.item.instr)) (sym et) ∙ k) in
        full_test f r
      where
        full_test : (f : Found Pending Stage)
            → Each (λ t. t.fails ≡ false) (store_tests (bounds_of w.state) w.pending (Finished v) f.earlier m.instr)
            → is_none (place_for w.pending) ≡ false
        full_test f r = other (enters (rest_of (bounds_of w.state) 0 (work_of (shape_of m.instr) v).reference))
            (is_none (place_for w.pending)) r.1.0 is_left

    found : (o : Option (Found Pending Stage))
        → refusal_of (tests_found o (λ f. store_tests (bounds_of w.state) w.pending f.answer f.earlier f.item.instr))
        ≡ None → located o ≡ Some (record { pending = m; answer = Finished v }) → is_none (place_for w.pending) ≡ false
    found None k i = absurd (no_sought (record { pending = m; answer = Finished v }) i)
    found (Some f) k i = stored f f.answer (sought_what f (record { pending = m; answer = Finished v }) i)
        (sought_pending f (record { pending = m; answer = Finished v }) i) k
