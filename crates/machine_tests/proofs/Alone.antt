-- One instruction in flight, reserved just after boot.
use Rattle.std.proofs.Common.{◌≡◌, ℕ, false, [], Option, Some, None, refl, sym, ap, ◌∙◌, subst}
use Rattle.std.specs.Prelude.{is_none, replicate, IfSome}
use Rattle.instructions.specs.declared.instr.Instr.{Instr}
use Rattle.instructions.specs.declared.instr.Addends.{Addends}
use Rattle.instructions.specs.declared.instr.Instr.TheVariants.{Increment}
use Rattle.instructions.specs.declared.instr.Target.TheVariants.{A as TargetA, X as TargetX}
use Rattle.instructions.specs.declared.instr.Unit.{Unit as FunctionalUnit}
use Rattle.instructions.specs.Finding.{seek, found_here, found_further}
use Rattle.instructions.specs.Shape.{shape_of, has_reference}
use Rattle.hopper.specs.Hopper.{free_place, first_place}
use Rattle.hopper.specs.Queue.{stands_at, is_taken as taken_in, place_for as free_in}
use Rattle.relocation.specs.declared.area.Access.TheVariants.{Store}
use Rattle.scoreboard.specs.Issued.{channel_of}
use Rattle.in_flight.specs.declared.referring.Relocated.{Relocated}
use Rattle.in_flight.specs.Pending.{left_to_return, returning}
use Rattle.in_flight.specs.declared.pending.Pending.{Pending}
use Rattle.in_flight.specs.declared.pending.Stage.{Stage}
use Rattle.in_flight.specs.Flight.{Flight, IsRestOf, reserved_in, entering, outstanding_of}
use Rattle.in_flight.specs.Lookup.{located, stage_at, enters, place_for, waiting, waiting_in}

abbrev pub boot : Flight
boot = record { pending = []; busy = replicate 32 false; last = 0 }

reserved : (f g : Flight) (i : Instr) (at : ℕ) → f ≡ boot → g ≡ reserved_in f i at → g ≡ reserved_in boot i at
reserved f g i at p q = q ∙ ap (λ (x : Flight). reserved_in x i at) p

pub alone_room : (f g : Flight) (i : Instr) (at : ℕ) → f ≡ boot → g ≡ reserved_in f i at
    → is_none (place_for g.pending) ≡ false
unfolding place_for free_in taken_in stands_at free_place first_place waiting waiting_in
alone_room f g i at p q =
    subst (λ (x : Flight). is_none (place_for x.pending) ≡ false) (sym (reserved f g i at p q)) refl

one_rest : (o : Option Stage) (m : Pending) (rest : Option Relocated) → IsRestOf (shape_of m.instr) rest
    → IfSome (located (found_here o m [] None)) (λ s. IsRestOf (shape_of s.pending.instr) rest)
unfolding located found_here found_further
one_rest None m rest h = tt
one_rest (Some t) m rest h = h

pub alone_rest : (f g : Flight) (i : Instr) (at : ℕ) (u : FunctionalUnit) (rest : Option Relocated) → f ≡ boot
    → g ≡ reserved_in f i at → IsRestOf (shape_of i) rest
    → IfSome (located (seek (stage_at u) g.pending)) (λ s. IsRestOf (shape_of s.pending.instr) rest)
unfolding seek
alone_rest f g i at u rest p q h =
    subst (λ (x : Flight). IfSome (located (seek (stage_at u) x.pending))
    (λ s. IsRestOf (shape_of s.pending.instr) rest)) (sym (reserved f g i at p q)) (one_rest
    (stage_at u (record { instr = i; at = at; number = 1; unit = _; phase = _ })) _ rest h)

pub sum_rest : (n : ℕ) (addends : Addends) → IsRestOf (shape_of (Increment TargetX n addends)) None
unfolding shape_of has_reference channel_of left_to_return outstanding_of entering enters
sum_rest n addends = record { returns = refl; refers = λ e. e }

pub store_rest : (n : ℕ) (addends : Addends) (address word : ℕ) → n ≡ 6
    → IsRestOf (shape_of (Increment TargetA n addends))
    (Some (record { address = Some address; access = Store word }))
unfolding shape_of has_reference channel_of left_to_return outstanding_of entering returning enters
store_rest n addends address word h =
    subst (λ x. IsRestOf (shape_of (Increment TargetA x addends))
    (Some (record { address = Some address; access = Store word }))) (sym
    h) (record { returns = refl; refers = λ e. e })
