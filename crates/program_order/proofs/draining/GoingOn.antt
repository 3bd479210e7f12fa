-- A drained machine goes on: only its own state can refuse the next issue or exchange.
use Rattle.std.proofs.Common.{◌≡◌, ◌<◌, ℕ, true, false, cond, List, [], ◌∷◌, Option, Some, None, refl, ap, ◌∙◌, arith}
use Rattle.std.proofs.lemmas.Bool.{and_right}
use Rattle.std.specs.Prelude.{◌&&◌, ◌||◌, IsSome, is_none, is_some, nat_le, not}
use Rattle.std.specs.List.{list_any}
use Rattle.instructions.specs.declared.instr.Reg.{Reg}
use Rattle.instructions.specs.declared.instr.UnitKind.{UnitKind}
use Rattle.instructions.specs.declared.instr.Instr.{Instr}
use Rattle.instructions.specs.Each.{Each}
use Rattle.instructions.specs.Shape.{shape_of, results}
use Rattle.instructions.specs.Operands.{uses}
use Rattle.instruction_table.specs.declared.decoding.Decoded.{Decoded}
use Rattle.scoreboard.specs.Conflicts as conflict
use Rattle.scoreboard.specs.Units.{units_of}
use Rattle.sequential.specs.declared.fetching.Fetched.{Fetched}
use Rattle.sequential.specs.declared.fetching.Fetched.TheVariants.{Halting, Passing, Taking}
use Rattle.sequential.specs.declared.position.ProgramPosition.{ProgramPosition}
use Rattle.sequential.specs.Log.{issued}
use Rattle.sequential.specs.State.{Bounds}
use Rattle.sequential.specs.Step.{fetch, fetched_by, fetched_from, classify, word_seen}
use Rattle.instruction_table.specs.Decoding.{reading_at}
use Rattle.program_order.specs.declared.event.Event.TheVariants.{Issue, Exchange as MakeExchange}
use Rattle.in_flight.specs.Pending.{awaited}
use Rattle.in_flight.specs.Tests.{Test, refusal_of, reservation_tests, unit_for}
use Rattle.program_order.specs.Processor.{Processor}
use Rattle.program_order.specs.Events.{allowed, tests_of}
use Rattle.program_order.specs.Exchange.{exchange_tests}
use Rattle.program_order.specs.Issue.{fetch_waits, issue_tests, waits_at}
use Rattle.in_flight.specs.Lookup.{is_pending}
use Rattle.program_order.proofs.theorem.Theorem.{not_pending}

none_fails : (ts : List Test) → Each (λ t. t.fails ≡ false) ts → refusal_of ts ≡ None
unfolding refusal_of
none_fails [] h = refl
none_fails (t ∷ ts) h = ap (λ b. cond b (Some t.refusal) (refusal_of ts)) h.0 ∙ none_fails ts h.1

-- ---- what is fetched for a unit has one ----

abbrev HasUnit : Fetched → Type 0
HasUnit (Halting halt place) = Unit {0}
HasUnit (Passing place) = Unit {0}
HasUnit (Taking i place) = IsSome (uses i).unit

met_unit : (position after : ProgramPosition) (i : Instr) → HasUnit (classify position after i)
unfolding classify
met_unit position after i = grind arith

read_unit : (p parcel word : ℕ) (d : Decoded) → HasUnit (fetched_by p parcel word d)
unfolding fetched_by
read_unit p parcel word d = grind (arith, met_unit)

from_unit : (p parcel : ℕ) (o : Option ℕ) → HasUnit (fetched_from p parcel o)
unfolding fetched_from
from_unit p parcel None = tt
from_unit p parcel (Some word) = read_unit p parcel word (reading_at word parcel)

fetched_unit : (b : Bounds) (memory : List ℕ) (position : ProgramPosition) → HasUnit (fetch b memory position)
unfolding fetch
fetched_unit b memory position = from_unit position.p position.parcel (word_seen b memory position.p position.held)

-- ---- nothing is pending ----

kind_free : (kind : UnitKind) → is_none (unit_for [] (Some kind)) ≡ false
unfolding conflict.unit_for conflict.free_unit conflict.first_free conflict.is_held units_of
kind_free kind = grind arith

unit_free : (o : Option UnitKind) → IsSome o → is_none (unit_for [] o) ≡ false
unit_free None h = cc
unit_free (Some kind) h = kind_free kind

none_awaited : (rs : List Reg) → list_any (awaited []) rs ≡ false
unfolding conflict.awaited
none_awaited [] = refl
none_awaited (r ∷ rs) = none_awaited rs

reservation_passes : (g : Fetched) → HasUnit g → Each (λ t. t.fails ≡ false) (reservation_tests [] g)
unfolding reservation_tests
reservation_passes (Halting halt place) h = tt
reservation_passes (Passing place) h = tt
reservation_passes (Taking i place) h = (unit_free (uses i).unit h, (none_awaited (results (shape_of i)), tt))

nothing_delays : (o : Option ℕ) → waits_at o [] ≡ false
unfolding waits_at
nothing_delays None = refl
nothing_delays (Some a) = refl

fetch_goes : (b : Bounds) (position : ProgramPosition) → fetch_waits b position [] ≡ false
unfolding fetch_waits
fetch_goes b position = simp (nothing_delays, and_right)

held_or_unasked : (r h : Option ℕ) → (is_none r || is_some h) ≡ true → (is_some r && is_none h) ≡ false
held_or_unasked r h e = grind arith

some_of : {K : Type 0} (o : Option K) → o ≡ None → is_some o ≡ false
some_of o e = ap is_some e

budget_left : (budget count : ℕ) → count < budget → nat_le budget count ≡ false
budget_left budget count h = grind arith

pub issue_accepted : (w : Processor) → is_pending w.pending ≡ false → w.state.halt ≡ None → w.state.fault ≡ false
    → issued w.log < w.budget → (is_none w.request || is_some w.state.position.held) ≡ true → allowed w Issue ≡ None
unfolding allowed tests_of issue_tests
issue_accepted w p h f b r =
    grind (
      arith,
      not_pending,
      none_fails,
      some_of,
      budget_left,
      held_or_unasked,
      fetch_goes,
      reservation_passes,
      fetched_unit,
    )

pub exchange_accepted : (w : Processor) (at : ℕ) → is_pending w.pending ≡ false → w.request ≡ Some at
    → (is_none w.state.halt && (not w.state.fault && is_some w.state.position.held)) ≡ false
    → allowed w MakeExchange ≡ None
unfolding allowed tests_of exchange_tests
exchange_accepted w at p r m = none_fails (exchange_tests w.request w.pending w.state) (ap is_none r, (p, (m, tt)))
