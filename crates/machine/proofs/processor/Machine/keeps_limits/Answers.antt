use Rattle.std.proofs.Common.{◌≡◌, Some, subst}
use Rattle.instructions.specs.declared.refusal.Refusal.TheVariants.{Nothing}
use Rattle.program_order.specs.declared.event.Event.TheVariants.{Accept, BankFree, Return}
use Rattle.program_order.specs.Events.{allowed}
use Rattle.program_order.specs.Processor.{Processor}
use Rattle.program_order.specs.Invariant.{IsAtBeginning}
use Rattle.program_order.proofs.keeping.Limits.{no_bank, no_channel_above, no_channel_zero, no_place}
use Rattle.machine.specs.contracts.processor.Machine.{the_view}
use Rattle.machine.proofs.processor.Machine.keeps_limits.Goals as goal

pub returns-clause-places : goal.returns-clause-places
returns-clause-places c = λ place above.
    subst (λ w. allowed w (Accept place) ≡ Some Nothing) c.self.view_is
    (no_place (the_view c.self.inside) _ place c.self.invariant.slotted above)

pub returns-clause-no_channel : goal.returns-clause-no_channel
returns-clause-no_channel c =
    subst (λ w. allowed w (Return 0) ≡ Some Nothing) c.self.view_is
    (no_channel_zero (the_view c.self.inside) _ c.self.invariant.slotted)

pub returns-clause-channels : goal.returns-clause-channels
returns-clause-channels c = λ channel above.
    subst (λ w. allowed w (Return channel) ≡ Some Nothing) c.self.view_is
    (no_channel_above (the_view c.self.inside) _ channel c.self.invariant.slotted above)

pub returns-clause-banks : goal.returns-clause-banks
returns-clause-banks c = λ bank above.
    subst (λ w. allowed w (BankFree bank) ≡ Some Nothing) c.self.view_is
    (no_bank (the_view c.self.inside) bank c.self.invariant.banks above)

pub returns-clause-parcel : goal.returns-clause-parcel
returns-clause-parcel c =
    subst (λ (w : Processor). IsAtBeginning w.state.position) c.self.view_is c.self.invariant.starts
