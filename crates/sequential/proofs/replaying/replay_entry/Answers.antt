use Rattle.std.proofs.Common.{ap, [], ◌∷◌, length, refl, ltb}
use Rattle.instructions.specs.declared.refusal.Refusal.TheVariants.{PackageRange, PeripheralRange}
use Rattle.relocation.specs.Relocation.{package_fits}
use Rattle.sequential.specs.Log.{steps_of}
use Rattle.sequential.specs.Replay.{Exchanged, ReadAt, Wrote, do_log_step, step_refusal}
use Rattle.sequential.specs.State.{store_word}
use Rattle.sequential.specs.Swap.{swap}
use Rattle.sequential.proofs.Runs.{issues_done, single_answered, single_refused, either_way}
use Rattle.sequential.proofs.replaying.replay_entry.Goals as goal

pub returns-in-Issued-clause-done : goal.returns-in-Issued-clause-done
returns-in-Issued-clause-done c = issues_done c.args.state.now _ c.in-Issued.count _ c.in-Issued.is c.issue_many.ensures

pub returns-in-Exchange-clause-done : goal.returns-in-Exchange-clause-done
unfolding steps_of do_log_step
returns-in-Exchange-clause-done c =
    single_answered c.exchange.result c.args.state.now _ (swap c.in-Exchange.at c.args.state.now)
    (Exchanged c.in-Exchange.at) _ (package_fits c.in-Exchange.at (length c.args.state.now.memory)) PackageRange
    (ap (λ e. steps_of (e ∷ [])) c.in-Exchange.is) refl c.exchange.ensures.answer c.exchange.ensures.after

pub returns-in-Exchange-clause-refused : goal.returns-in-Exchange-clause-refused
unfolding steps_of step_refusal
returns-in-Exchange-clause-refused c =
    single_refused c.exchange.result c.args.state.now _ (swap c.in-Exchange.at c.args.state.now)
    (Exchanged c.in-Exchange.at) _ (package_fits c.in-Exchange.at (length c.args.state.now.memory)) PackageRange
    (ap (λ e. steps_of (e ∷ [])) c.in-Exchange.is) refl c.exchange.ensures.answer c.exchange.ensures.after

pub returns-in-PpRead-clause-done : goal.returns-in-PpRead-clause-done
unfolding steps_of do_log_step
returns-in-PpRead-clause-done c =
    single_answered c.peripheral_range.result c.args.state.now c.args.state.now c.args.state.now
    (ReadAt c.in-PpRead.at) _ (ltb c.in-PpRead.at (length c.args.state.now.memory)) PeripheralRange
    (ap (λ e. steps_of (e ∷ [])) c.in-PpRead.is) refl c.peripheral_range.ensures
    (either_way c.peripheral_range.result c.args.state.now)

pub returns-in-PpRead-clause-refused : goal.returns-in-PpRead-clause-refused
unfolding steps_of step_refusal
returns-in-PpRead-clause-refused c =
    single_refused c.peripheral_range.result c.args.state.now c.args.state.now c.args.state.now
    (ReadAt c.in-PpRead.at) _ (ltb c.in-PpRead.at (length c.args.state.now.memory)) PeripheralRange
    (ap (λ e. steps_of (e ∷ [])) c.in-PpRead.is) refl c.peripheral_range.ensures
    (either_way c.peripheral_range.result c.args.state.now)

pub returns-in-PpWrite-clause-done : goal.returns-in-PpWrite-clause-done
unfolding steps_of do_log_step
returns-in-PpWrite-clause-done c =
    single_answered c.peripheral_write.result c.args.state.now _
    (store_word c.args.state.now c.in-PpWrite.at c.in-PpWrite.word) (Wrote c.in-PpWrite.at c.in-PpWrite.word) _
    (ltb c.in-PpWrite.at (length c.args.state.now.memory)) PeripheralRange
    (ap (λ e. steps_of (e ∷ [])) c.in-PpWrite.is) refl c.peripheral_write.ensures.answer
    c.peripheral_write.ensures.after

pub returns-in-PpWrite-clause-refused : goal.returns-in-PpWrite-clause-refused
unfolding steps_of step_refusal
returns-in-PpWrite-clause-refused c =
    single_refused c.peripheral_write.result c.args.state.now _
    (store_word c.args.state.now c.in-PpWrite.at c.in-PpWrite.word) (Wrote c.in-PpWrite.at c.in-PpWrite.word) _
    (ltb c.in-PpWrite.at (length c.args.state.now.memory)) PeripheralRange
    (ap (λ e. steps_of (e ∷ [])) c.in-PpWrite.is) refl c.peripheral_write.ensures.answer
    c.peripheral_write.ensures.after
