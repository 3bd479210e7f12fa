-- The hopper has four places: no reference waits in a place with another number.
use Rattle.std.proofs.Common.{◌≡◌, ℕ, Bool, true, false, cond, Option, Some, None, refl}
use Rattle.std.specs.Prelude.{slice_index_or}
use Rattle.std.specs.List.{list_any}
use Rattle.instructions.specs.declared.refusal.Refusal.TheVariants.{BankBusy, OlderAtAddress, Nothing}
use Rattle.instructions.specs.Finding.{Found, seek}
use Rattle.hopper.specs.Hopper.{bank_of}
use Rattle.hopper.specs.declared.reference.Reference.{Reference}
use Rattle.in_flight.specs.declared.pending.Pending.{Pending}
use Rattle.in_flight.specs.declared.slots.Located.{Located}
use Rattle.in_flight.specs.Lookup.{entry_at, located}
use Rattle.in_flight.specs.Pending.{holds_back}
use Rattle.in_flight.specs.Tests.{accept_tests, refusal_of, tests_found}
use Rattle.program_order.specs.declared.event.Event.TheVariants.{Accept}
use Rattle.program_order.specs.Events.{allowed, tests_of}
use Rattle.program_order.specs.Processor.{Processor}

-- if accepting in a place is refused with `Nothing`, no reference waits there
pub no_reference : (w : Processor) (place : ℕ) → allowed w (Accept place) ≡ Some Nothing
    → None ≡ located (seek (entry_at place) w.pending)
unfolding allowed tests_of tests_found refusal_of accept_tests located
no_reference w place h = by_found (seek (entry_at place) w.pending) h
  where
    by_tests : (busy older : Bool) (bank : ℕ) (o : Option (Located Reference))
        → cond busy (Some (BankBusy bank)) (cond older (Some OlderAtAddress) None) ≡ Some Nothing → None ≡ o
    by_tests true older bank o e = cc
    by_tests false true bank o e = cc
    by_tests false false bank o e = cc

    by_found : (o : Option (Found Pending Reference))
        → refusal_of (tests_found o (λ f. accept_tests w.busy f.earlier f.answer)) ≡ Some Nothing → None ≡ located o
    by_found None e = refl
    by_found (Some f) e =
        by_tests (slice_index_or w.busy (bank_of f.answer.address) false)
        (list_any (holds_back f.answer.address f.answer.access) f.earlier) (bank_of f.answer.address)
        (located (Some f)) e
