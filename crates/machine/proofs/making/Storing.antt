-- Why a store event is refused, from the instruction found in the unit.
use Rattle.std.proofs.Common.{◌≡◌, ℕ, List, Option, None, Some, length, ap, sym, ◌∙◌, refl}
use Rattle.instructions.specs.declared.refusal.Refusal.{Refusal}
use Rattle.instructions.specs.declared.refusal.Refusal.TheVariants.{Nothing}
use Rattle.instructions.specs.declared.instr.Unit.{Unit as FunctionalUnit}
use Rattle.instructions.specs.Finding.{Found, seek}
use Rattle.instructions.specs.Shape.{shape_of}
use Rattle.unit_ops.specs.declared.UnitValue.{UnitValue}
use Rattle.sequential.specs.State.{Bounds}
use Rattle.sequential.specs.declared.work.Work.{Work as DoneWork}
use Rattle.sequential.specs.Work.{IsWorkOf, reference_for, work_of}
use Rattle.in_flight.specs.declared.pending.Pending.{Pending}
use Rattle.in_flight.specs.declared.pending.Stage.{Stage}
use Rattle.in_flight.specs.declared.pending.Stage.TheVariants.{Unread, Read as HasRead, Finished}
use Rattle.in_flight.specs.declared.referring.Relocated.{Relocated}
use Rattle.in_flight.specs.declared.slots.Located.{Located}
use Rattle.in_flight.specs.Flight.{outstanding_of, relocated}
use Rattle.in_flight.specs.Lookup.{located, stage_at, enters}
use Rattle.in_flight.specs.Tests.{nothing, refusal_of, store_conflicts, tests_found}
use Rattle.in_flight.proofs.asking.Finding.{no_sought, sought_pending, sought_what}
use Rattle.program_order.specs.declared.event.Event.TheVariants.{Store as StoreResult}
use Rattle.program_order.specs.Events.{allowed}
use Rattle.program_order.specs.Processor.{Processor}
use Rattle.program_order.specs.Units.{store_tests}
use Rattle.machine.proofs.making.Making.{store_judged}

-- the first refusal of a store in the unit in which an instruction is searched for
abbrev pub refused_at : Bounds → List Pending → Option (Found Pending Stage) → Option Refusal
refused_at b ms o = refusal_of (tests_found o (λ f. store_tests b ms f.answer f.earlier f.item.instr))

-- an instruction without a value has nothing to store
pub unfinished : (b : Bounds) (ms : List Pending) (o : Option (Found Pending Stage)) (s : Located Stage)
    → located o ≡ Some s → ((v : UnitValue) → s.answer ≡ Finished v → ⊥) → refused_at b ms o ≡ Some Nothing
unfolding refusal_of tests_found store_tests nothing
unfinished b ms None s h n = absurd (no_sought s h)
unfinished b ms (Some f) s h n = by_stage f.answer refl
  where
    by_stage : (t : Stage) → f.answer ≡ t → refused_at b ms (Some f) ≡ Some Nothing
    by_stage Unread e = ap (λ t. refusal_of (store_tests b ms t f.earlier f.item.instr)) e
    by_stage (HasRead os) e = ap (λ t. refusal_of (store_tests b ms t f.earlier f.item.instr)) e
    by_stage (Finished v) e = absurd (n v (sym (sought_what f s h) ∙ e))

-- the other instructions in flight decide whether a value may be stored
pub judged : (b : Bounds) (ms : List Pending) (o : Option (Found Pending Stage)) (m : Pending) (v : UnitValue)
    (rest : Option Relocated) (r : Option Refusal) → located o ≡ Some (record { pending = m; answer = Finished v })
    → rest ≡ relocated b (reference_for (shape_of m.instr) v)
    → ((f : Found Pending Stage) → o ≡ Some f
    → refusal_of (store_conflicts ms f.earlier f.item.instr (enters (outstanding_of 0 rest))) ≡ r)
    → refused_at b ms o ≡ r
unfolding refusal_of tests_found store_tests work_of
judged b ms None m v rest r h e k = absurd (no_sought (record { pending = m; answer = Finished v }) h)
judged b ms (Some f) m v rest r h e k =
    ap (λ t. refusal_of (store_tests b ms t f.earlier f.item.instr)) is_finished
    ∙ ap (λ x. refusal_of (store_conflicts ms f.earlier f.item.instr (enters (outstanding_of 0 x)))) (sym made)
    ∙ k f refl
  where
    is_finished : f.answer ≡ Finished v
    is_finished = sought_what f (record { pending = m; answer = Finished v }) h

    made : rest ≡ relocated b (work_of (shape_of f.item.instr) v).reference
    made = e ∙ ap (λ (x : Pending). relocated b (reference_for (shape_of x.instr) v))
        (sym (sought_pending f (record { pending = m; answer = Finished v }) h))

-- the instruction found in the unit has its value
pub found_finished : (o : Option (Found Pending Stage)) (r : Option (Located Stage)) (s : Located Stage) (v : UnitValue)
    → r ≡ located o → r ≡ Some s → s.answer ≡ Finished v
    → located o ≡ Some (record { pending = s.pending; answer = Finished v })
found_finished o r s v h i e =
    sym h ∙ i ∙ ap (λ (t : Stage). Some (record { pending = s.pending; answer = t })) e

-- the reference of the work is the reference of the instruction and its value
pub reference_made : (b : Bounds) (rest : Option Relocated) (work : DoneWork) (m : Pending) (v : UnitValue)
    → rest ≡ relocated b work.reference → IsWorkOf (shape_of m.instr) v work
    → rest ≡ relocated b (reference_for (shape_of m.instr) v)
reference_made b rest work m v h k = h ∙ ap (relocated b) k.reference

-- a value may be stored unless another instruction in flight prevents it
pub store_asked : (w : Processor) (u : FunctionalUnit) (size : ℕ) (m : Pending) (v : UnitValue)
    (rest : Option Relocated) (r o : Option Refusal)
    → located (seek (stage_at u) w.pending) ≡ Some (record { pending = m; answer = Finished v })
    → size ≡ length w.state.memory
    → rest ≡ relocated (record { area = w.state.area; size = size }) (reference_for (shape_of m.instr) v)
    → ((f : Found Pending Stage) → seek (stage_at u) w.pending ≡ Some f
    → refusal_of (store_conflicts w.pending f.earlier f.item.instr (enters (outstanding_of 0 rest))) ≡ r)
    → r ≡ o → allowed w (StoreResult u) ≡ o
store_asked w u size m v rest r o h z e k i =
    store_judged w u size r o z
    (judged (record { area = w.state.area; size = size }) w.pending (seek (stage_at u) w.pending) m v rest r h e k) i
