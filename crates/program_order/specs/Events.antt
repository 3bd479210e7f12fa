-- All events: which of them the machine allows, and their effects. Source: ours, over Thornton's events in the other
-- files.
use Rattle.std.specs.Prelude.{suc, false, List, Option, Some, None, length, slice_set}
use Rattle.instructions.specs.declared.refusal.Refusal.{Refusal}
use Rattle.instructions.specs.Finding.{Found, seek}
use Rattle.sequential.specs.State.{bounds_of}
use Rattle.sequential.specs.Step.{fetch}
use Rattle.sequential.specs.Log.{issued}
use Rattle.in_flight.specs.declared.pending.Pending.{Pending}
use Rattle.program_order.specs.declared.event.Event.{Event}
use Rattle.program_order.specs.declared.event.Event.TheVariants.{Issue, Read, Finish, Store, Accept, Return, BankFree}
use Rattle.program_order.specs.declared.event.Event.TheVariants.{Ask, Exchange, PpRead, PpWrite}
use Rattle.in_flight.specs.Tests.{free_tests, return_tests, Test, refusal_of, tests_found, read_tests, accept_tests}
use Rattle.in_flight.specs.Lookup.{stage_at, entry_at, arrival_at}
use Rattle.program_order.specs.Processor.{Processor}
use Rattle.program_order.specs.Issue.{issue_tests, after_issue}
use Rattle.program_order.specs.Units.{finish_tests, store_tests, after_read, after_finish, after_store}
use Rattle.program_order.specs.Memory.{after_accept, after_return}
use Rattle.program_order.specs.Exchange.{ask_tests, exchange_tests, after_exchange}
use Rattle.program_order.specs.Peripheral.{access_tests, after_pp_read, after_pp_write}

-- ---- Allowed ----

-- the tests of an event, in order: its possible refusals, and whether they apply
unfoldable pub tests_of : Processor → Event → List Test
tests_of w Issue = issue_tests w.state w.pending w.request w.budget (issued w.log)
tests_of w (Read u) = tests_found (seek (stage_at u) w.pending) (λ f. read_tests f.answer f.earlier f.item.instr)
tests_of w (Finish u) = tests_found (seek (stage_at u) w.pending) (λ f. finish_tests f.answer)
tests_of w (Store u) = tests_found (seek (stage_at u) w.pending)
    (λ f. store_tests (bounds_of w.state) w.pending f.answer f.earlier f.item.instr)
tests_of w (Accept p) = tests_found (seek (entry_at p) w.pending) (λ f. accept_tests w.busy f.earlier f.answer)
tests_of w (Return c) = tests_found (seek (arrival_at c) w.pending) (λ f. return_tests f.earlier f.answer)
tests_of w (BankFree k) = free_tests w.busy k
tests_of w (Ask n) = ask_tests w.asked w.request (length w.state.memory) n
tests_of w Exchange = exchange_tests w.request w.pending w.state
tests_of w (PpRead a) = access_tests w.accessed w.pending (length w.state.memory) a
tests_of w (PpWrite a v) = access_tests w.accessed w.pending (length w.state.memory) a

-- the first refusal that applies to an event, if there is one
unfoldable pub allowed : Processor → Event → Option Refusal
allowed w e = refusal_of (tests_of w e)

-- ---- the effect of a made event ----

-- the effect on the instruction that was found; nothing changes if none was found
unfoldable pub after_found : {K : Type 0} → Processor → Option (Found Pending K) → (Found Pending K → Processor)
    → Processor
after_found w None f = w
after_found w (Some x) f = f x

-- the machine after a made event
unfoldable pub after : Processor → Event → Processor
after w Issue = after_issue w (fetch (bounds_of w.state) w.state.memory w.state.position)
after w (Read u) = after_found w (seek (stage_at u) w.pending) (after_read w)
after w (Finish u) = after_found w (seek (stage_at u) w.pending) (after_finish w)
after w (Store u) = after_found w (seek (stage_at u) w.pending) (λ f. after_store w f f.answer)
after w (Accept p) = after_found w (seek (entry_at p) w.pending)
    (λ f. after_accept w f f.answer.address f.answer.access)
after w (Return c) = after_found w (seek (arrival_at c) w.pending) (after_return w)
after w (BankFree k) = record w { busy = slice_set w.busy k false }
after w (Ask n) = record w { request = Some n; asked = suc w.asked }
after w Exchange = after_exchange w w.request
after w (PpRead a) = after_pp_read w a
after w (PpWrite a v) = after_pp_write w a v
