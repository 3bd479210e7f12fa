-- A run begins with the exchange for its first package.
use Rattle.std.proofs.Common.{◌≡◌, ℕ, zero, suc, Bool, true, false, cond, List, [], ◌∷◌, ◌++◌, Some, None, length}
use Rattle.std.proofs.Common.{refl, sym, ap, append_assoc, arith}
use Rattle.std.proofs.lemmas.List.{append-nil}
use Rattle.relocation.specs.Relocation.{package_fits}
use Rattle.sequential.specs.declared.state.State.{State}
use Rattle.sequential.specs.Log.{issued}
use Rattle.sequential.specs.Replay.{LogStep, Issued, Exchanged, boot}
use Rattle.sequential.specs.Swap.{swap}
use Rattle.sequential_run.specs.Turns.{Moment, Turn, Exchanges, Asks, AsksFree, Issues, Ends, begun, next_turn}
use Rattle.sequential_run.specs.Turns.{take_turn, turns, turn_by, first_due, is_in_mid_word, is_going}
use Rattle.sequential_run.specs.Run.{IsSequentialRun}
use Rattle.sequential_run.proofs.Ordered.{start_first}

-- ---- a log only grows ----

exchange_grows : (m : Moment) (n : ℕ) (b : Bool) → (rest : List LogStep)
    × ((cond b (record m { state = swap n m.state; log = m.log ++ Exchanged n ∷ []; waiting = None }) m).log
    ≡ m.log ++ rest)
exchange_grows m n true = (Exchanged n ∷ [], refl)
exchange_grows m n false = ([], sym (append-nil m.log))

turn_grows : (m : Moment) (t : Turn) → (rest : List LogStep) × ((take_turn m t).log ≡ m.log ++ rest)
unfolding take_turn
turn_grows m (Exchanges n) = exchange_grows m n (package_fits n (length m.state.memory))
turn_grows m (Asks n) = ([], sym (append-nil m.log))
turn_grows m (AsksFree n) = ([], sym (append-nil m.log))
turn_grows m Issues = (Issued ∷ [], refl)
turn_grows m Ends = ([], sym (append-nil m.log))

turns_grow : (budget n : ℕ) (m : Moment) → (rest : List LogStep) × ((turns budget n m).log ≡ m.log ++ rest)
unfolding turns
turns_grow budget zero m = ([], sym (append-nil m.log))
turns_grow budget (suc n) m =
    let a = turn_grows m (next_turn budget m) in
    let b = turns_grow budget n (take_turn m (next_turn budget m)) in grind (arith, append_assoc)

-- ---- the first two turns ----

-- the moment after the first turn: the request for the first package waits
abbrev asked : List ℕ → ℕ → List (ℕ × ℕ) → List ℕ → Moment
asked memory start rest free =
    record { state = boot memory; log = []; asks = rest; free = free; waiting = Some start }

first_turn : (budget : ℕ) (memory : List ℕ) (start : ℕ) (rest : List (ℕ × ℕ)) (free : List ℕ)
    → next_turn budget (begun memory ((start, 0) ∷ rest) free) ≡ Asks start
unfolding next_turn turn_by first_due begun issued
first_turn budget memory start rest free = refl

second_turn : (budget : ℕ) (memory : List ℕ) (start : ℕ) (rest : List (ℕ × ℕ)) (free : List ℕ)
    → next_turn budget (asked memory start rest free) ≡ Exchanges start
unfolding next_turn turn_by is_in_mid_word is_going boot
second_turn budget memory start rest free = refl

after_first : (budget n : ℕ) (memory : List ℕ) (start : ℕ) (rest : List (ℕ × ℕ)) (free : List ℕ)
    → turns budget (suc n) (begun memory ((start, 0) ∷ rest) free) ≡ turns budget n (asked memory start rest free)
unfolding turns take_turn begun
after_first budget n memory start rest free = simp first_turn

-- the moment after the second turn, with the package within memory or not
abbrev entered : Bool → List ℕ → ℕ → List (ℕ × ℕ) → List ℕ → Moment
entered b memory start rest free =
    let m = asked memory start rest free in
    cond b (record m { state = swap start m.state; log = m.log ++ Exchanged start ∷ []; waiting = None }) m

after_second : (budget n : ℕ) (memory : List ℕ) (start : ℕ) (rest : List (ℕ × ℕ)) (free : List ℕ)
    → turns budget (suc n) (asked memory start rest free)
    ≡ turns budget n (entered (package_fits start (length (boot memory).memory)) memory start rest free)
unfolding turns take_turn
after_second budget n memory start rest free =
    ap (λ t. turns budget n (take_turn (asked memory start rest free) t)) (second_turn budget memory start rest free)

-- an exchange whose package isn't within memory is tried again and again
comes_again : (budget n : ℕ) (memory : List ℕ) (start : ℕ) (rest : List (ℕ × ℕ)) (free : List ℕ)
    → package_fits start (length (boot memory).memory) ≡ false
    → turns budget n (asked memory start rest free) ≡ asked memory start rest free
unfolding turns
comes_again budget zero memory start rest free f = refl
comes_again budget (suc n) memory start rest free f =
    grind (arith, comes_again budget n memory start rest free f, after_second)

-- ---- to the end ----

from_entered : (budget n : ℕ) (memory : List ℕ) (start : ℕ) (rest : List (ℕ × ℕ)) (free : List ℕ) (last : Moment)
    (b : Bool) → package_fits start (length (boot memory).memory) ≡ b
    → turns budget n (entered b memory start rest free) ≡ last → next_turn budget last ≡ Ends
    → (more : List LogStep) × (last.log ≡ Exchanged start ∷ more)
from_entered budget n memory start rest free last true f r e =
    grind (arith, turns_grow budget n (entered true memory start rest free))
from_entered budget n memory start rest free last false f r e = grind (arith, second_turn, comes_again)

from_asked : (budget n : ℕ) (memory : List ℕ) (start : ℕ) (rest : List (ℕ × ℕ)) (free : List ℕ) (last : Moment)
    → turns budget n (asked memory start rest free) ≡ last → next_turn budget last ≡ Ends
    → (more : List LogStep) × (last.log ≡ Exchanged start ∷ more)
unfolding turns
from_asked budget n memory start rest free last r e = grind (arith, second_turn, from_entered, after_second)

from_begun : (budget n : ℕ) (memory : List ℕ) (start : ℕ) (rest : List (ℕ × ℕ)) (free : List ℕ) (last : Moment)
    → turns budget n (begun memory ((start, 0) ∷ rest) free) ≡ last → next_turn budget last ≡ Ends
    → (more : List LogStep) × (last.log ≡ Exchanged start ∷ more)
unfolding turns
from_begun budget n memory start rest free last r e = grind (arith, first_turn, from_asked, after_first)

-- a law of the definition: the log of a run begins with the exchange for the first package
pub run_begins : (memory : List ℕ) (start : ℕ) (after : List (ℕ × ℕ)) (free : List ℕ) (budget : ℕ)
    (log : List LogStep) (s : State) → IsSequentialRun memory start after free budget log s
    → (more : List LogStep) × (log ≡ Exchanged start ∷ more)
run_begins memory start after free budget log s r =
    let f = start_first start after r.asks r.ordered.in_order r.ordered.same in grind (arith, from_begun)
