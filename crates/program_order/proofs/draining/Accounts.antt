-- Events that serve pending instructions leave the accounts unchanged: log, request, counts, and the values given at
-- boot.
use Rattle.std.proofs.Common.{◌≡◌, ℕ, Bool, true, List, [], ◌∷◌, Option, Some, None, sym, subst, arith}
use Rattle.instructions.specs.Finding.{Found}
use Rattle.relocation.specs.declared.area.Access.{Access}
use Rattle.relocation.specs.declared.area.Access.TheVariants.{Load as LoadInto, Store as StoreWord}
use Rattle.sequential.specs.declared.state.State.{State}
use Rattle.hopper.specs.declared.reference.Reference.{Reference}
use Rattle.in_flight.specs.declared.pending.Pending.{Pending}
use Rattle.in_flight.specs.declared.pending.Stage.{Stage}
use Rattle.program_order.specs.declared.event.Event.{Event}
use Rattle.program_order.specs.declared.event.Event.TheVariants.{Issue, Read, Finish, Store as StoreResult, Accept}
use Rattle.program_order.specs.declared.event.Event.TheVariants.{Return, BankFree, Ask, Exchange, PpRead, PpWrite}
use Rattle.program_order.specs.Events.{after, after_found}
use Rattle.program_order.specs.Memory.{after_accept, after_return}
use Rattle.program_order.specs.Processor.{Processor}
use Rattle.program_order.specs.Units.{after_finish, after_read, after_store, after_work}
use Rattle.program_order.specs.Drain.{Accepts, KeepsAccounts, Works, leads_to}
use Rattle.program_order.proofs.draining.OnPending.{is_work, on_pending}

-- state, pending instructions and busy banks are no part of the accounts
kept_accounts : (w : Processor) (state : State) (pending : List Pending) (busy : List Bool)
    → KeepsAccounts w (record w { state = state; pending = pending; busy = busy })
kept_accounts w state pending busy = grind arith

same_accounts : (w : Processor) → KeepsAccounts w w
same_accounts w = kept_accounts w w.state w.pending w.busy

then_accounts : (w x v : Processor) → KeepsAccounts w x → KeepsAccounts x v → KeepsAccounts w v
then_accounts w x v h k = grind arith

found_accounts : {K : Type 0} (w : Processor) (o : Option (Found Pending K)) (f : Found Pending K → Processor)
    → ((x : Found Pending K) → KeepsAccounts w (f x)) → KeepsAccounts w (after_found w o f)
unfolding after_found
found_accounts w None f h = same_accounts w
found_accounts w (Some x) f h = h x

store_accounts : (w : Processor) (f : Found Pending Stage) (t : Stage) → KeepsAccounts w (after_store w f t)
unfolding after_store after_work
store_accounts w f t = grind arith

accept_accounts : (w : Processor) (f : Found Pending Reference) (a : ℕ) (access : Access)
    → KeepsAccounts w (after_accept w f a access)
unfolding after_accept
accept_accounts w f a (LoadInto n) = kept_accounts w w.state _ _
accept_accounts w f a (StoreWord v) = kept_accounts w _ _ _

work_accounts : (w : Processor) (e : Event) → is_work e ≡ true → KeepsAccounts w (after w e)
unfolding is_work after after_read after_finish after_return
work_accounts w Issue h = cc
work_accounts w (Read u) h = found_accounts w _ _ (λ f. kept_accounts w w.state _ w.busy)
work_accounts w (Finish u) h = found_accounts w _ _ (λ f. kept_accounts w w.state _ w.busy)
work_accounts w (StoreResult u) h = found_accounts w _ _ (λ f. store_accounts w f f.answer)
work_accounts w (Accept p) h = found_accounts w _ _ (λ f. accept_accounts w f f.answer.address f.answer.access)
work_accounts w (Return c) h = found_accounts w _ _ (λ f. kept_accounts w _ _ w.busy)
work_accounts w (BankFree k) h = kept_accounts w w.state w.pending _
work_accounts w (Ask n) h = cc
work_accounts w Exchange h = cc
work_accounts w (PpRead a) h = cc
work_accounts w (PpWrite a v) h = cc

all_accounts : (w : Processor) (events : List Event) → Accepts w events → KeepsAccounts w (leads_to w events)
unfolding leads_to
all_accounts w [] h = same_accounts w
all_accounts w (e ∷ events) h =
    grind (arith, all_accounts (after w e) events h.2, then_accounts, work_accounts, on_pending)

-- the events of a drain leave the accounts unchanged
pub works_accounts : (w v : Processor) (n : ℕ) → Works w v n → KeepsAccounts w v
works_accounts w v n k = subst (KeepsAccounts w) (sym k.leads) (all_accounts w k.events k.accepted)
