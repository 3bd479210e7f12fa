-- The turns of a run, one by one and together.
use Rattle.std.proofs.Common.{◌≡◌, ◌<◌, ◌≤◌, ◌+◌, ℕ, zero, suc, Bool, true, false, ◌&&◌, cond, List, [], ◌∷◌}
use Rattle.std.proofs.Common.{◌++◌, Option, Some, None, is_some, refl, sym, ap, subst, ◌∙◌, append_assoc}
use Rattle.std.proofs.Common.{append-nil, add-one, arith, lt-ltb, le-leb}
use Rattle.std.specs.Prelude.{replicate, nat_lt}
use Rattle.sequential_run.specs.Requests.{IsDue}
use Rattle.sequential.specs.declared.state.State.{State}
use Rattle.sequential.specs.Log.{issued}
use Rattle.sequential.specs.Replay.{Issued}
use Rattle.sequential.specs.Step.{step}
use Rattle.sequential.proofs.Entries.{issued-more}
use Rattle.sequential_run.specs.Turns.{Moment, Turn, Exchanges, Asks, AsksFree, Issues, Ends, is_going, is_in_mid_word}
use Rattle.sequential_run.specs.Turns.{issue_or_end, first_due, turn_by, next_turn, take_turn, turns}
use Rattle.sequential_run.specs.inner.Stepping.{StepsTo}

-- ---- steps one after another ----

pub steps_begun : (s : State) → StepsTo 0 s s
unfolding StepsTo
steps_begun s = refl

steps_suc : (n : ℕ) (s t u : State) → StepsTo n s t → is_going t ≡ true → u ≡ step t
    → StepsTo (suc n) s u
unfolding StepsTo
steps_suc zero s t u h g e = (ap is_going h ∙ g, ap step h ∙ sym e)
steps_suc (suc n) s t u h g e = (h.0, steps_suc n (step s) t u h.1 g e)

pub steps_more : (n : ℕ) (s t u : State) → StepsTo n s t → is_going t ≡ true → u ≡ step t
    → StepsTo (n + 1) s u
steps_more n s t u h g e =
    subst (λ k. StepsTo k s u) (sym (add-one n)) (steps_suc n s t u h g e)

-- ---- one turn ----

-- two moments with equal parts are equal
pub same_moment : (a b : Moment) → a.state ≡ b.state → a.log ≡ b.log → a.asks ≡ b.asks → a.free ≡ b.free
    → a.waiting ≡ b.waiting → a ≡ b
same_moment a b s l q f w = grind arith

pub one_turn : (budget : ℕ) (m : Moment) (t : Turn) → next_turn budget m ≡ t → turns budget 1 m ≡ take_turn m t
unfolding turns
one_turn budget m t e = ap (take_turn m) e

pub more_turns : (budget n k j : ℕ) (m : Moment) → j ≡ n + k → turns budget j m ≡ turns budget k (turns budget n m)
unfolding turns
more_turns budget zero k j m e = ap (λ i. turns budget i m) (let l : j ≡ k = omega (arith, e) in l)
more_turns budget (suc n) k j m e =
    ap (λ i. turns budget i m) (let l : j ≡ suc (n + k) = omega (arith, e) in l)
    ∙ more_turns budget n k (n + k) (take_turn m (next_turn budget m)) refl

-- ---- what comes next ----

pub exchange_next : (budget : ℕ) (m : Moment) (n : ℕ) → m.waiting ≡ Some n → is_in_mid_word m.state ≡ false
    → next_turn budget m ≡ Exchanges n
unfolding next_turn turn_by
exchange_next budget m n w h = cc

pub ask_next : (budget : ℕ) (m : Moment) (n : ℕ) → m.waiting ≡ None → first_due (issued m.log) m.asks ≡ Some n
    → next_turn budget m ≡ Asks n
unfolding next_turn turn_by
ask_next budget m n w h = cc

pub free_next : (budget : ℕ) (m : Moment) (n : ℕ) (ns : List ℕ) → m.waiting ≡ None
    → first_due (issued m.log) m.asks ≡ None → m.free ≡ n ∷ ns → next_turn budget m ≡ AsksFree n
unfolding next_turn turn_by
free_next budget m n ns w h f = cc

-- nothing comes before the next instruction
pub record IsQuiet (m : Moment) : Type 0 where
  pub mid : is_some m.waiting ≡ true → is_in_mid_word m.state ≡ true
  pub free : is_some m.waiting ≡ false → m.free ≡ []
  pub due : is_some m.waiting ≡ false → first_due (issued m.log) m.asks ≡ None

quiet_by : (o : Option ℕ) (mid : Bool) (due : Option ℕ) (free : List ℕ) (go : Turn) → (is_some o ≡ true → mid ≡ true)
    → (is_some o ≡ false → free ≡ []) → (is_some o ≡ false → due ≡ None) → turn_by o mid due free go ≡ go
unfolding turn_by
quiet_by o mid due free go h f d = grind arith

pub quiet_next : (budget : ℕ) (m : Moment) → IsQuiet m
    → next_turn budget m ≡ issue_or_end budget m.state (issued m.log)
unfolding next_turn
quiet_next budget m q = quiet_by m.waiting (is_in_mid_word m.state) (first_due (issued m.log) m.asks) m.free
    (issue_or_end budget m.state (issued m.log)) q.mid q.free q.due

issued_next : (b c : Bool) → b ≡ true → c ≡ true → cond (b && c) Issues Ends ≡ Issues
issued_next b c h k = rw h (rw k refl)

pub issue_next : (budget : ℕ) (m : Moment) → IsQuiet m → is_going m.state ≡ true → issued m.log < budget
    → next_turn budget m ≡ Issues
unfolding issue_or_end
issue_next budget m q g l = quiet_next budget m q
    ∙ issued_next (is_going m.state) (nat_lt (issued m.log) budget) g (lt-ltb _ _ l)

-- ---- requests ----

pub due_first : (asks : List (ℕ × ℕ)) (rest : List (ℕ × ℕ)) (done : ℕ) (ask : ℕ × ℕ) → IsDue asks done (Some ask)
    → asks ≡ ask ∷ rest → first_due done asks ≡ Some ask.0
unfolding first_due
due_first asks rest done ask d e = ap (first_due done) e
    ∙ ap (λ b. cond b (Some ask.0) None) (le-leb ask.1 done d.0)

pub none_due : (asks : List (ℕ × ℕ)) (done : ℕ) → IsDue asks done None → first_due done asks ≡ None
unfolding first_due
none_due [] done d = refl
none_due (ask ∷ asks) done d =
    let l : done < ask.1 = d 0 ask (omega arith) in grind arith

-- ---- instructions one after another ----

-- nothing comes before each of the next n instructions
pub record IsQuietFor (n : ℕ) (m : Moment) : Type 0 where
  pub mid : is_some m.waiting ≡ true → 0 < n → (n ≤ 1) × (is_in_mid_word m.state ≡ true)
  pub free : is_some m.waiting ≡ false → m.free ≡ []
  pub due : is_some m.waiting ≡ false → (k : ℕ) → k < n → first_due (issued m.log + k) m.asks ≡ None

pub issues_turns : (budget n : ℕ) (m : Moment) (t : State) → StepsTo n m.state t
    → issued m.log + n ≤ budget → IsQuietFor n m
    → turns budget n m ≡ record m { state = t; log = m.log ++ replicate n Issued }
unfolding turns StepsTo take_turn
issues_turns budget zero m t h l q = same_moment m _ h (sym (append-nil m.log)) refl refl refl
issues_turns budget (suc n) m t h l q =
    ap (λ u. turns budget n (take_turn m u)) (issue_next budget m quiet h.0
    (omega (arith, l)))
    ∙ issues_turns budget n (record m { state = step m.state; log = m.log ++ Issued ∷ [] }) t h.1
    (let k : issued (m.log ++ Issued ∷ []) ≡ issued m.log + 1 = issued-more m.log in omega (arith, l, k))
    (record {
      mid = λ w k. absurd (let o : suc n ≤ 1 = (q.mid w (omega arith)).0 in omega (arith, o, k));
      free = q.free;
      due = λ w k b. ap (λ i. first_due i m.asks)
          (let e : issued (m.log ++ Issued ∷ []) ≡ issued m.log + 1 = issued-more m.log in grind arith)
          ∙ q.due w (k + 1) (omega (arith, b));
    })
    ∙ ap (λ x. record m { state = t; log = x }) (append_assoc m.log (Issued ∷ []) (replicate n Issued))
  where
    quiet : IsQuiet m
    quiet = grind arith
