-- Facts about a found instruction that follow from the slots.
use Rattle.std.proofs.Common.{◌≡◌, ◌<◌, ℕ, true, Option, Some, None, List, length, refl, subst, arith}
use Rattle.std.specs.Prelude.{IsSome, IfSome}
use Rattle.instructions.specs.Operands.{uses}
use Rattle.instructions.specs.declared.instr.Unit.{Unit as FunctionalUnit}
use Rattle.instructions.specs.declared.instr.UnitKind.{UnitKind}
use Rattle.hopper.specs.declared.reference.Reference.{Reference}
use Rattle.program_order.specs.declared.event.Event.TheVariants.{Accept}
use Rattle.in_flight.specs.declared.pending.Pending.{Pending}
use Rattle.in_flight.specs.Lookup.{located, entry_at}
use Rattle.scoreboard.specs.Units.{may_take}
use Rattle.in_flight.specs.inner.OwnSlots.{HasOwnSlots, IsProper}
use Rattle.instructions.specs.Finding.{Found, seek}
use Rattle.program_order.specs.Processor.{Processor}
use Rattle.program_order.specs.Events.{allowed, tests_of}
use Rattle.in_flight.specs.Tests.{accept_tests, refusal_of, tests_found}
use Rattle.instructions.proofs.Finding.{seek_splits}
use Rattle.in_flight.proofs.asking.Finding.{entry_found, no_sought, not_nothing, sought_pending}
use Rattle.in_flight.proofs.asking.Slotting.{proper_there}

found_proper : {K : Type 0} (size : ℕ) (ms : List Pending) (g : Pending → Option K) (f : Found Pending K)
    → seek g ms ≡ Some f → HasOwnSlots size ms → IsProper size f.item
found_proper size ms g f p h =
    let q = seek_splits g ms f p in
    proper_there size f.earlier f.item f.later (subst (HasOwnSlots size) q.0 h)

has_some : (o : Option UnitKind) (u : FunctionalUnit) → may_take o u ≡ true → IsSome o
unfolding may_take
has_some None u h = cc
has_some (Some kind) u h = refl

-- the found instruction has a unit
pub unit_there : {K : Type 0} (size : ℕ) (ms : List Pending) (g : Pending → Option K) (m : Pending) (k : K)
    → located (seek g ms) ≡ Some (record { pending = m; answer = k }) → HasOwnSlots size ms → IsSome (uses m.instr).unit
unit_there {K} size ms g m k h s = found (seek g ms) refl h
  where
    found : (q : Option (Found Pending K)) → seek g ms ≡ q → located q ≡ Some (record { pending = m; answer = k })
        → IsSome (uses m.instr).unit
    found None e i = absurd (no_sought (record { pending = m; answer = k }) i)
    found (Some f) e i = subst (λ (x : Pending). IsSome (uses x.instr).unit)
        (sought_pending f (record { pending = m; answer = k }) i)
        (has_some (uses f.item.instr).unit f.item.unit (found_proper size ms g f e s).of_kind)

-- the address of the reference is within memory
pub entry_within : (w : Processor) (place : ℕ) (r : Reference) → allowed w (Accept place) ≡ None
    → IfSome (seek (entry_at place) w.pending) (λ f. f.answer ≡ record { address = r.address; access = r.access })
    → HasOwnSlots (length w.state.memory) w.pending → r.address < length w.state.memory
unfolding allowed tests_of tests_found
entry_within w place r a h s = found (seek (entry_at place) w.pending) refl a h
  where
    found : (q : Option (Found Pending Reference)) → seek (entry_at place) w.pending ≡ q
        → refusal_of (tests_found q (λ f. accept_tests w.busy f.earlier f.answer)) ≡ None
        → IfSome q (λ f. f.answer ≡ record { address = r.address; access = r.access })
        → r.address < length w.state.memory
    found None e k i = absurd (not_nothing k)
    found (Some f) e k i =
        grind (
          arith,
          entry_found place f.item f.answer (seek_splits (entry_at place) w.pending f e).1,
          seek_splits (entry_at place) w.pending f e,
          found_proper (length w.state.memory) w.pending (entry_at place) f e s,
        )
