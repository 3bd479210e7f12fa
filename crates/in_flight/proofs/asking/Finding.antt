-- The pending instruction that an event names, and the tests that it passed.
use Rattle.std.proofs.Common.{◌≡◌, ℕ, Bool, true, false, cond, List, [], ◌∷◌, Some, None, ap, eqb, arith}
use Rattle.std.proofs.lemmas.Option.{same_Some}
use Rattle.instructions.specs.Each.{Each}
use Rattle.instructions.specs.Finding.{Found}
use Rattle.in_flight.specs.Tests.{Test, nothing, refusal_of}
use Rattle.in_flight.specs.Lookup.{arrival_at, arrival_in, entry_at, entry_in, stage_at, stage_in, located}
use Rattle.instructions.specs.declared.instr.Unit.{Unit as FunctionalUnit}
use Rattle.in_flight.specs.declared.pending.Arrival.{Arrival}
use Rattle.hopper.specs.declared.reference.Reference.{Reference}
use Rattle.in_flight.specs.declared.pending.Outstanding.TheVariants.{Accepted, Entered}
use Rattle.in_flight.specs.declared.pending.Pending.{Pending}
use Rattle.in_flight.specs.declared.pending.Phase.{Phase}
use Rattle.in_flight.specs.declared.pending.Phase.TheVariants.{After, Before}
use Rattle.in_flight.specs.declared.pending.Stage.{Stage}
use Rattle.in_flight.specs.declared.slots.Located.{Located}

-- if nothing is refused, no test failed
pub refusal_none : (ts : List Test) → refusal_of ts ≡ None → Each (λ t. t.fails ≡ false) ts
unfolding refusal_of
refusal_none [] h = tt
refusal_none (t ∷ ts) h = grind (arith, refusal_none ts)

pub not_nothing : refusal_of nothing ≡ None → ⊥
unfolding refusal_of nothing
not_nothing h = cc

-- the located instruction is the found one
pub sought_pending : {K : Type 0} (f : Found Pending K) (s : Located K) → located (Some f) ≡ Some s → f.item ≡ s.pending
unfolding located
sought_pending {K} f s h = ap (λ (x : Located K). x.pending) (same_Some _ s h)

pub sought_what : {K : Type 0} (f : Found Pending K) (s : Located K) → located (Some f) ≡ Some s → f.answer ≡ s.answer
unfolding located
sought_what {K} f s h = ap (λ (x : Located K). x.answer) (same_Some _ s h)

pub no_sought : {K : Type 0} (s : Located K) → located None ≡ Some s → ⊥
unfolding located
no_sought s h = cc

stage_in_found : (p : Phase) (t : Stage) → stage_in p ≡ Some t → p ≡ Before t
unfolding stage_in
stage_in_found p t h = grind arith

pub stage_found : (u : FunctionalUnit) (m : Pending) (t : Stage) → stage_at u m ≡ Some t → m.phase ≡ Before t
unfolding stage_at
stage_found u m t h = grind (arith, stage_in_found)

pub entry_in_found : (p : ℕ) (q : Phase) (e : Reference) → entry_in p q ≡ Some e → (slot : ℕ)
    × (q ≡ After (Entered slot e.address e.access))
unfolding entry_in
entry_in_found p (Before t) e h = cc
entry_in_found p (After (Accepted n w)) e h = cc
entry_in_found p (After (Entered slot a access)) e h = by_test (eqb slot p) h
  where
    by_test : (f : Bool) → cond f (Some (record { address = a; access = access })) None ≡ Some e → (k : ℕ)
        × (After (Entered slot a access) ≡ After (Entered k e.address e.access))
    by_test true k = (slot, ap (λ (y : Reference). After (Entered slot y.address y.access)) (same_Some _ e k))
    by_test false k = cc

pub entry_found : (p : ℕ) (m : Pending) (e : Reference) → entry_at p m ≡ Some e → (slot : ℕ)
    × (m.phase ≡ After (Entered slot e.address e.access))
unfolding entry_at
entry_found p m e h = entry_in_found p m.phase e h

pub arrival_in_found : (c : ℕ) (q : Phase) (x : Arrival) → arrival_in c q ≡ Some x
    → q ≡ After (Accepted x.channel x.word)
unfolding arrival_in
arrival_in_found c q x h = grind arith

pub arrival_found : (c : ℕ) (m : Pending) (x : Arrival) → arrival_at c m ≡ Some x
    → m.phase ≡ After (Accepted x.channel x.word)
unfolding arrival_at
arrival_found c m x h = arrival_in_found c m.phase x h
