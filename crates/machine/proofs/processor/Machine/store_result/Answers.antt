use Rattle.std.proofs.Common.{◌≡◌, ◌≤◌, ◌∙◌, ℕ, List, ap, refl, sym, subst}
use Rattle.program_order.specs.declared.event.Event.TheVariants.{Store as StoreResult}
use Rattle.instructions.specs.Shape.{shape_of}
use Rattle.sequential.specs.Work.{reference_for}
use Rattle.sequential.specs.Log.{issued}
use Rattle.in_flight.specs.Flight.{Flight, relocated}
use Rattle.machine.specs.contracts.processor.Machine.{the_view}
use Rattle.machine.specs.inner.Storing.{IsStoreOf}
use Rattle.program_order.specs.Events.{allowed, after}
use Rattle.machine.proofs.making.Leaving.{store_rest, store_room}
use Rattle.machine.proofs.making.Making.{bounds_at, still_kept, with_flight, store_parts}
use Rattle.relocation.specs.Saved.{original}
use Rattle.sequential.specs.declared.state.State.{State}
use Rattle.machine.proofs.processor.Machine.store_result.Goals as goal
use Rattle.machine.proofs.processor.Machine.store_result.Goals.{After-leave}

-- the memory is unchanged, and so are its saved words
boot_same : (c : After-leave)
    → with_flight (record (the_view c.self.inside) {
      state = c.write_and_jump.new.self;
      boot_memory = original c.self.inside.saved c.write_and_jump.new.self.memory;
    }) c.leave.new.self
    ≡ with_flight (record (the_view c.self.inside) { state = c.write_and_jump.new.self }) c.leave.new.self
boot_same c = ap (λ (m : List ℕ). with_flight
    (record (the_view c.self.inside) {
      state = c.write_and_jump.new.self;
      boot_memory = original c.self.inside.saved m;
    }) c.leave.new.self) (ap (λ (s : State). s.memory) c.write_and_jump.ensures)

store : (c : After-leave) → IsStoreOf (the_view c.self.inside) c.args.unit c.in-Ok.store.0 c.in-Ok.store.1
store c = subst (λ w. IsStoreOf w c.args.unit c.in-Ok.store.0 c.in-Ok.store.1) (sym c.self.view_is)
    c.in-Ok.ensures.work

made : (c : After-leave)
    → with_flight (record (the_view c.self.inside) {
      state = c.write_and_jump.new.self;
      boot_memory = original c.self.inside.saved c.write_and_jump.new.self.memory;
    }) c.leave.new.self ≡ after (the_view c.self.inside) (StoreResult c.args.unit)
made c =
    let s = store c in
    boot_same c
    ∙ store_parts (the_view c.self.inside) c.args.unit _ s.pending s.value c.in-Ok.store.0 c.write_and_jump.new.self
    c.in-Ok.store.1 c.leave.new.self s.found refl s.works
    (s.refers ∙ ap (λ b. relocated b (reference_for (shape_of s.pending.instr) s.value))
    (sym (bounds_at (the_view c.self.inside) _ refl)))
    c.write_and_jump.ensures c.leave.ensures

pub leave-requires-clause-rest : goal.leave-requires-clause-rest
leave-requires-clause-rest c =
    let s = subst (λ w. IsStoreOf w c.args.unit c.in-Ok.store.0 c.in-Ok.store.1) (sym c.self.view_is)
    c.in-Ok.ensures.work in
    store_rest (the_view c.self.inside) c.args.unit s.pending s.value _ c.in-Ok.store.1 s.found s.refers

pub leave-requires-clause-room : goal.leave-requires-clause-room
leave-requires-clause-room c =
    let s = subst (λ w. IsStoreOf w c.args.unit c.in-Ok.store.0 c.in-Ok.store.1) (sym c.self.view_is)
    c.in-Ok.ensures.work in
    store_room (the_view c.self.inside) c.args.unit _ s.pending s.value c.in-Ok.store.1
    (ap (λ x. allowed x (StoreResult c.args.unit)) c.self.view_is ∙ c.in-Ok.ensures.answer)
    s.found refl
    (s.refers ∙ ap (λ b. relocated b (reference_for (shape_of s.pending.instr) s.value))
    (sym (bounds_at (the_view c.self.inside) _ refl)))

pub invariant_of-self : goal.invariant_of-self
invariant_of-self c =
    still_kept (the_view c.self.inside) _ (StoreResult c.args.unit) c.self.inside.log
    c.self.inside.log
    (ap (λ x. allowed x (StoreResult c.args.unit)) c.self.view_is ∙ c.in-Ok.ensures.answer)
    (made c) c.self.invariant c.self.invariant.room
    (subst (λ n. n ≤ issued c.self.inside.log.steps) (sym (ap (λ (f : Flight). f.last) c.leave.ensures))
    c.self.invariant.numbered) c.self.invariant.limit

pub returns-clause-after : goal.returns-clause-after
returns-clause-after c = made c ∙ ap (λ x. after x (StoreResult c.args.unit)) c.self.view_is
