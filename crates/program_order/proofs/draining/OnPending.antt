-- `drain` makes only events that serve a pending instruction; issues and exchanges aren't among them.
use Rattle.std.proofs.Common.{◌≡◌, ℕ, Bool, true, false, List, ◌∷◌, Option, Some, None, refl, sym, ap, ◌∙◌, arith}
use Rattle.std.specs.Prelude.{◌||◌, IfSome, is_some}
use Rattle.std.specs.List.{list_any}
use Rattle.std.proofs.lemmas.Bool.{eq-eqb}
use Rattle.std.proofs.lemmas.Option.{same_Some}
use Rattle.relocation.specs.declared.area.Access.{Access}
use Rattle.hopper.specs.Hopper.{bank_of}
use Rattle.in_flight.specs.declared.pending.Outstanding.TheVariants.{Entered, Accepted}
use Rattle.in_flight.specs.declared.pending.Pending.{Pending}
use Rattle.in_flight.specs.declared.pending.Phase.{Phase}
use Rattle.in_flight.specs.declared.pending.Phase.TheVariants.{Before, After}
use Rattle.in_flight.specs.declared.pending.Stage.{Stage}
use Rattle.in_flight.specs.Lookup.{in_place, is_pending}
use Rattle.program_order.specs.declared.event.Event.{Event}
use Rattle.program_order.specs.declared.event.Event.TheVariants.{Issue, Ask, Exchange, PpRead, PpWrite}
use Rattle.program_order.specs.Drain.{holds_unit, in_channel, next_in, next_of, waits_for, waits_for_in, works_on}
use Rattle.program_order.proofs.draining.Draining.{arrival_first, entry_first, stage_first}

-- whether an event is no issue, no part of an exchange and no peripheral access
unfoldable pub is_work : Event → Bool
is_work Issue = false
is_work (Ask n) = false
is_work Exchange = false
is_work (PpRead a) = false
is_work (PpWrite a v) = false
is_work _ = true

pub on_pending : (ms : List Pending) (e : Event) → works_on ms e ≡ true → is_work e ≡ true
unfolding works_on is_work
on_pending ms e h = grind arith

-- if the first instruction meets the test, some instruction does
first_any : (f : Pending → Bool) (m : Pending) (ms : List Pending) → f m ≡ true → list_any f (m ∷ ms) ≡ true
first_any f m ms h = ap (λ b. b || list_any f ms) h

unit_first : (m : Pending) (ms : List Pending) (t : Stage) → m.phase ≡ Before t
    → list_any (holds_unit m.unit) (m ∷ ms) ≡ true
unfolding holds_unit
unit_first m ms t p = first_any (holds_unit m.unit) m ms (ap is_some (stage_first m t p))

place_first : (m : Pending) (place a : ℕ) (access : Access) → m.phase ≡ After (Entered place a access)
    → in_place place m ≡ true
unfolding in_place
place_first m place a access p = ap is_some (entry_first m place a access p)

bank_first : (m : Pending) (place a : ℕ) (access : Access) → m.phase ≡ After (Entered place a access)
    → waits_for (bank_of a) m ≡ true
unfolding waits_for waits_for_in
bank_first m place a access p = ap (waits_for_in (bank_of a)) p ∙ eq-eqb (bank_of a) (bank_of a) refl

channel_first : (m : Pending) (n word : ℕ) → m.phase ≡ After (Accepted n word) → in_channel n m ≡ true
unfolding in_channel
channel_first m n word p = ap is_some (arrival_first m n word p)

oldest_works : (m : Pending) (ms : List Pending) (p : Phase) (busy : List Bool) → m.phase ≡ p
    → works_on (m ∷ ms) (next_in m.unit p busy) ≡ true
unfolding works_on next_in
oldest_works m ms p busy e = grind (arith, unit_first, first_any, bank_first, place_first, channel_first)

-- the next event serves a pending instruction
pub next_works_on : (ms : List Pending) (busy : List Bool) (e : Event) → next_of ms busy ≡ Some e
    → works_on ms e ≡ true
unfolding next_of
next_works_on ms busy e h = grind (arith, oldest_works, same_Some)

pub next_on_pending : (ms : List Pending) (busy : List Bool) (o : Option Event) → o ≡ next_of ms busy
    → IfSome o (λ e. works_on ms e ≡ true)
next_on_pending ms busy None h = tt
next_on_pending ms busy (Some e) h = next_works_on ms busy e (sym h)

-- there is a next event exactly if something is pending
pub next_if_pending : (ms : List Pending) (busy : List Bool) (o : Option Event) → o ≡ next_of ms busy
    → is_some o ≡ is_pending ms
unfolding next_of is_pending
next_if_pending ms busy o h = grind arith
