-- No more instructions are issued than the budget allows: only an issue adds one to the log, and it is refused at the
-- budget.
use Rattle.std.proofs.Common.{◌≡◌, ◌≤◌, ◌+◌, ℕ, false, List, Option, Some, None, refl, arith, leb}
use Rattle.std.proofs.lemmas.Bool.{leb-false}
use Rattle.sequential.specs.Log.{issued}
use Rattle.sequential.specs.Replay.{LogStep}
use Rattle.sequential.proofs.Entries.{issued-append}
use Rattle.in_flight.proofs.asking.Finding.{refusal_none}
use Rattle.program_order.specs.declared.event.Event.{Event}
use Rattle.program_order.specs.declared.event.Event.TheVariants.{Issue, Read, Finish, Store as StoreResult, Accept}
use Rattle.program_order.specs.declared.event.Event.TheVariants.{Return, BankFree, Ask, Exchange, PpRead, PpWrite}
use Rattle.program_order.specs.Events.{after, allowed, tests_of}
use Rattle.program_order.specs.Headline.{exchange_step, made_steps}
use Rattle.program_order.specs.Issue.{issue_tests}
use Rattle.program_order.specs.Processor.{Processor, boot_processor}
use Rattle.program_order.specs.Invariant.{IsWithinBudget}
use Rattle.program_order.proofs.theorem.Headline.{Books, books_after}

-- an allowed issue finds the budget not yet used up
below : (w : Processor) → allowed w Issue ≡ None → leb w.budget (issued w.log) ≡ false
unfolding allowed tests_of issue_tests
below w h = (refusal_none _ h).1.1.0

within_by : (w v : Processor) (r : Option ℕ) (xs : List LogStep) → Books w v r xs
    → issued w.log + issued xs ≤ w.budget → IsWithinBudget v
within_by w v r xs b h = grind (arith, issued-append)

-- steps that no issue added contain no instruction
within_still : (w v : Processor) (r : Option ℕ) (xs : List LogStep) → Books w v r xs → issued xs ≡ 0
    → IsWithinBudget w → IsWithinBudget v
within_still w v r xs b n h = within_by w v r xs b (omega (arith, n, h))

exchange_none : (o : Option ℕ) → issued (exchange_step o) ≡ 0
unfolding exchange_step issued
exchange_none None = refl
exchange_none (Some n) = refl

pub event_within : (w : Processor) (e : Event) → allowed w e ≡ None → IsWithinBudget w → IsWithinBudget (after w e)
unfolding made_steps issued
event_within w Issue a h =
    let l = leb-false w.budget (issued w.log) (below w a) in
    within_by w _ _ _ (books_after w Issue) (omega (arith, l))
event_within w (Read u) a h = within_still w _ _ _ (books_after w (Read u)) refl h
event_within w (Finish u) a h = within_still w _ _ _ (books_after w (Finish u)) refl h
event_within w (StoreResult u) a h = within_still w _ _ _ (books_after w (StoreResult u)) refl h
event_within w (Accept p) a h = within_still w _ _ _ (books_after w (Accept p)) refl h
event_within w (Return c) a h = within_still w _ _ _ (books_after w (Return c)) refl h
event_within w (BankFree k) a h = within_still w _ _ _ (books_after w (BankFree k)) refl h
event_within w (Ask n) a h = within_still w _ _ _ (books_after w (Ask n)) refl h
event_within w Exchange a h = within_still w _ _ _ (books_after w Exchange) (exchange_none w.request) h
event_within w (PpRead k) a h = within_still w _ _ _ (books_after w (PpRead k)) refl h
event_within w (PpWrite k v) a h = within_still w _ _ _ (books_after w (PpWrite k v)) refl h

pub boot_within : (memory : List ℕ) (budget : ℕ) → IsWithinBudget (boot_processor memory budget)
unfolding boot_processor issued
boot_within memory budget = omega arith
