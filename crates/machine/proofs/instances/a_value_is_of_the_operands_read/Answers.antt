use Rattle.std.proofs.Common.{◌≡◌, List, [], ◌∷◌, refl, sym, subst}
use Rattle.instructions.specs.declared.instr.Unit.TheVariants.{Boolean}
use Rattle.instructions.specs.Finding.{seek}
use Rattle.unit_ops.specs.declared.UnitValue.TheVariants.{Word}
use Rattle.in_flight.specs.declared.pending.Pending.{Pending}
use Rattle.in_flight.specs.declared.pending.Stage.TheVariants.{Finished as HasFinished}
use Rattle.in_flight.specs.Lookup.{stage_at}
use Rattle.program_order.specs.Events.{after_found}
use Rattle.program_order.specs.Units.{after_finish}
use Rattle.machine.specs.Instances.{copy_at}
use Rattle.machine.proofs.Opened.{on_one_machine}
use Rattle.machine.proofs.instances.a_value_is_of_the_operands_read.Goals as goal

pub returns : goal.returns
unfolding on_one_machine
returns c w is = subst
    (λ (ms : List Pending). (after_found w (seek (stage_at Boolean) ms) (after_finish w)).pending
    ≡ copy_at (HasFinished (Word 5)) ∷ [])
    (sym is) refl
