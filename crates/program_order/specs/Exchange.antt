-- The exchange: the refusals of a request and of an exchange, and the effect of an exchange. Source: 60100000, exchange
-- jump. The requests, the refusals and their order are ours.
use Rattle.std.specs.Prelude.{ℕ, not, ◌&&◌, nat_le, List, [], ◌∷◌, ◌++◌, Option, Some, None, is_some, is_none}
use Rattle.instructions.specs.declared.refusal.Refusal.TheVariants.{Budget, Nothing, ExchangeBusy, NotDrained}
use Rattle.instructions.specs.declared.refusal.Refusal.TheVariants.{PackageRange, MidWord}
use Rattle.relocation.specs.Relocation.{package_fits}
use Rattle.sequential.specs.declared.state.State.{State}
use Rattle.sequential.specs.Swap.{swap}
use Rattle.sequential.specs.Replay.{Exchanged}
use Rattle.in_flight.specs.declared.pending.Pending.{Pending}
use Rattle.in_flight.specs.Tests.{Test}
use Rattle.in_flight.specs.Lookup.{is_pending}
use Rattle.program_order.specs.Processor.{Processor}

-- ---- the refusals ----

-- E3, budget: 1,000,000 requests were accepted; E17, exchange busy: a request waits; E19, package range: the package
-- does not lie in memory
unfoldable pub ask_tests : ℕ → Option ℕ → ℕ → ℕ → List Test
ask_tests asked request size n =
    record { fails = nat_le 1000000 asked; refusal = Budget }
    ∷ record { fails = is_some request; refusal = ExchangeBusy }
    ∷ record { fails = not (package_fits n size); refusal = PackageRange }
    ∷ []

-- E15, nothing: no exchange was asked for; E18, not drained: an instruction is pending; E25, mid word: the machine runs
-- without fault in the middle of a word
unfoldable pub exchange_tests : Option ℕ → List Pending → State → List Test
exchange_tests request pending state =
    record { fails = is_none request; refusal = Nothing }
    ∷ record { fails = is_pending pending; refusal = NotDrained }
    ∷ record { fails = is_none state.halt && (not state.fault && is_some state.position.held); refusal = MidWord }
    ∷ []

-- ---- the effect ----

-- the state and the package are exchanged, the log gains the exchange, and no request waits
unfoldable pub after_exchange : Processor → Option ℕ → Processor
after_exchange w None = w
after_exchange w (Some n) = record w { state = swap n w.state; log = w.log ++ Exchanged n ∷ []; request = None }
