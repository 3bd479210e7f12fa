-- The progress of a run, as its code keeps it.
use Rattle.std.proofs.Common.{◌≡◌, ◌<◌, ◌≤◌, ◌+◌, ◌-◌, ℕ, suc, Bool, true, false, ◌&&◌, cond, List, [], ◌∷◌}
use Rattle.std.proofs.Common.{◌++◌, Some, None, length, is_some, refl, sym, ap, ◌∙◌, arith}
use Rattle.std.specs.Prelude.{drop, replicate, nat_lt}
use Rattle.sequential_run.specs.Requests.{IsDue, ToMake}
use Rattle.instructions.specs.declared.refusal.Refusal.{Refusal}
use Rattle.instructions.specs.declared.refusal.Refusal.TheVariants.{PackageRange}
use Rattle.relocation.specs.Relocation.{package_fits}
use Rattle.sequential.specs.declared.state.State.{State}
use Rattle.sequential.specs.Log.{Logged, issued, last_run}
use Rattle.sequential.specs.Replay.{LogStep, Issued, Exchanged}
use Rattle.sequential.specs.Swap.{swap}
use Rattle.sequential.proofs.Entries.{issued-append, issued-many, last_run_within}
use Rattle.sequential_run.specs.declared.course.Course.{Course}
use Rattle.sequential_run.specs.Turns.{Exchanges, Asks, AsksFree, Issues, Ends, is_going, is_in_mid_word}
use Rattle.sequential_run.specs.Turns.{issue_or_end, first_due, next_turn, take_turn}
use Rattle.sequential_run.specs.inner.Stepping.{StepsTo}
use Rattle.sequential_run.specs.inner.Course.{IsKept, CanIssue, IsIssued, Goes, IsWhyRefused, left_at, moment_of}
use Rattle.sequential_run.proofs.Turning.{same_moment, one_turn, exchange_next, ask_next, free_next, quiet_next}
use Rattle.sequential_run.proofs.Turning.{IsQuiet, issues_turns, due_first, none_due}

-- ---- an exchange ----

pub issued_still : (log : List LogStep) (n : ℕ) → issued (log ++ Exchanged n ∷ []) ≡ issued log
unfolding issued
issued_still log n = let e : issued (log ++ Exchanged n ∷ []) ≡ issued log + 0 = issued-append log (Exchanged n ∷ []) in
    omega (arith, e)

pub exchange_refused : (budget : ℕ) (c : Course) (at : ℕ) (r : Refusal) → c.waiting ≡ Some at
    → is_in_mid_word c.state ≡ false → package_fits at (length c.state.memory) ≡ false → r ≡ PackageRange
    → IsWhyRefused budget (moment_of c) r
unfolding moment_of
exchange_refused budget c at r w h f e = rw e (at, exchange_next budget (moment_of c) at w h, f)

pub exchange_goes : (budget : ℕ) (c d : Course) (at : ℕ) → c.waiting ≡ Some at → is_in_mid_word c.state ≡ false
    → package_fits at (length c.state.memory) ≡ true → d.state ≡ swap at c.state
    → d.log.steps ≡ c.log.steps ++ Exchanged at ∷ [] → d.requests.asks ≡ c.requests.asks → d.free ≡ c.free
    → d.waiting ≡ None → Goes budget (moment_of c) (moment_of d)
unfolding moment_of take_turn left_at
exchange_goes budget c d at w h f s l q r n =
    grind (
      arith,
      one_turn budget (moment_of c) (Exchanges at) (exchange_next budget (moment_of c) at w h),
      exchange_next budget (moment_of c) at w h,
      issued_still c.log.steps at,
    )

pub exchange_keeps : (budget : ℕ) (c d : Course) (at : ℕ) → IsKept budget c
    → d.log.steps ≡ c.log.steps ++ Exchanged at ∷ [] → d.requests.issued ≡ c.requests.issued
    → d.requests.is_waiting ≡ false → IsKept budget d
exchange_keeps budget c d at k l i w = grind (arith, issued_still)

-- ---- a request ----

pub ask_goes : (budget : ℕ) (c : Course) (r : ToMake) (ask : ℕ × ℕ) → IsKept budget c → c.waiting ≡ None
    → IsDue c.requests.asks c.requests.issued (Some ask) → c.requests.asks ≡ ask ∷ r.asks
    → Goes budget (moment_of c) (moment_of (record c { requests = r; waiting = Some ask.0 }))
unfolding moment_of take_turn left_at
ask_goes budget c r ask k w d e = record {
  count = 1;
  reached =
      one_turn budget (moment_of c) (Asks ask.0) (ask_next budget (moment_of c) ask.0 w
      (ap (λ i. first_due i c.requests.asks) (sym k.counted) ∙ due_first c.requests.asks r.asks _ ask d e))
      ∙ same_moment _ (moment_of (record c { requests = r; waiting = Some ask.0 })) refl refl
      (ap (λ l. drop 1 l) e) refl refl;
  less =
      let a : length c.requests.asks ≡ suc (length r.asks) = ap length e in grind arith;
}

pub free_goes : (budget : ℕ) (c d : Course) (at : ℕ) → IsKept budget c → c.waiting ≡ None
    → IsDue c.requests.asks c.requests.issued None → c.free.items ≡ at ∷ d.free.items → d.state ≡ c.state
    → d.log ≡ c.log → d.requests.asks ≡ c.requests.asks → d.waiting ≡ Some at → Goes budget (moment_of c) (moment_of d)
unfolding moment_of take_turn left_at
free_goes budget c d at k w u e s l q n = record {
  count = 1;
  reached =
      one_turn budget (moment_of c) (AsksFree at) (grind (arith, free_next, none_due))
      ∙ same_moment _ (moment_of d) (sym s) (sym (ap (λ x. x.steps) l)) (sym q)
      (ap (λ l. drop 1 l) e) (sym n);
  less =
      let i : issued d.log.steps ≡ issued c.log.steps = ap (λ x. issued x.steps) l in grind arith;
}

-- ---- instructions ----

pub quiet_of : (budget : ℕ) (c : Course) → IsKept budget c → CanIssue c → IsQuiet (moment_of c)
unfolding moment_of
quiet_of budget c k i = grind (arith, none_due)

pub ended_here : (budget : ℕ) (c : Course) → IsKept budget c → CanIssue c
    → (is_going c.state && nat_lt (issued c.log.steps) budget) ≡ false → next_turn budget (moment_of c) ≡ Ends
unfolding moment_of issue_or_end
ended_here budget c k i e = quiet_next budget (moment_of c) (quiet_of budget c k i) ∙ ap (λ b. cond b Issues Ends) e

some_made : (n count : ℕ) (s t : State) → StepsTo n s t → is_going s ≡ true → 0 < count
    → (n < count → is_going t ≡ false) → 0 < n
unfolding StepsTo
some_made n count s t h g l e = grind arith

pub issue_goes : (budget count : ℕ) (c : Course) (log : Logged) (d : Course) → IsKept budget c → CanIssue c
    → (is_going c.state && nat_lt (issued c.log.steps) budget) ≡ true → log.steps ≡ c.log.steps
    → IsIssued count (record c { log = log }) d → issued c.log.steps + count ≤ budget → 0 < count
    → (is_some c.waiting ≡ true → count ≤ 1)
    → (is_some c.waiting ≡ false → (more : ℕ) → more < count
    → IsDue c.requests.asks (c.requests.issued + more) None)
    → Goes budget (moment_of c) (moment_of d)
unfolding moment_of left_at
issue_goes budget count c log d k i g same made most some single quiet =
    let both = and_both (is_going c.state) (nat_lt (issued c.log.steps) budget) g in
    let least = some_made made.made count c.state d.state made.steps both.0 some made.all in
    let log_is : d.log.steps ≡ c.log.steps ++ replicate made.made Issued = cc in
    let within = made.most in
    record {
      count = made.made;
      reached =
          issues_turns budget made.made (moment_of c) d.state made.steps (omega (arith, within, most)) (record {
            mid = λ w p. (let o : count ≤ 1 = single w in omega (arith, o, within), i.mid w);
            free = i.free;
            due = λ w n l. ap (λ x. first_due (x + n) c.requests.asks) (sym k.counted)
                ∙ none_due c.requests.asks _ (quiet w n (omega (arith, l, within)));
          })
          ∙ same_moment _ (moment_of d) refl (sym log_is) (sym (ap (λ r. r.asks) made.requests))
          (sym (ap (λ x. x.items) made.same.0)) (sym made.same.1);
      less =
          let n : issued d.log.steps ≡ issued c.log.steps + made.made = grind (arith, issued-many) in grind arith;
    }
  where
    and_both : (a b : Bool) → (a && b) ≡ true → (a ≡ true) × (b ≡ true)
    and_both true true h = (refl, refl)
    and_both true false h = cc
    and_both false b h = cc

pub issue_keeps : (budget count : ℕ) (c : Course) (log : Logged) (d : Course) → IsKept budget c
    → log.steps ≡ c.log.steps → IsIssued count (record c { log = log }) d → issued c.log.steps + count ≤ budget
    → IsKept budget d
issue_keeps budget count c log d k same made most = grind (arith, issued-many, is_some)

-- the last count has room for this many instructions
pub last_fits : (log : List LogStep) (count made : ℕ) → issued log + count < 18446744073709551616 → made ≤ count
    → last_run log + made < 18446744073709551616
last_fits log count made l m = let h = last_run_within log in omega (arith, l, m, h)
