-- A run fulfils its requests for exchanges.
use Rattle.std.proofs.Common.{◌≡◌, ◌<◌, ◌≤◌, ◌+◌, ℕ, zero, suc, Bool, true, false, ◌&&◌, ◌||◌, ◌⊎◌, inl, inr, cond}
use Rattle.std.proofs.Common.{List, [], ◌∷◌, ◌++◌, Option, Some, None, length, refl, sym, ap, subst, ◌∙◌, append_assoc}
use Rattle.std.proofs.Common.{append-nil, arith, leb, leb-true, le-leb, lt-ltb, eq-eqb, true≢false}
use Rattle.std.proofs.lemmas.Bool.{and_from, or_left, or_right}
use Rattle.std.specs.Prelude.{drop, nat_eq, nat_le, nat_lt}
use Rattle.sequential_run.specs.Fulfilled.{IsFulfilled, are_done, exchanges_after, fulfils, is_in_time, is_next_ask}
use Rattle.sequential_run.specs.Fulfilled.{is_next_free}
use Rattle.sequential_run.proofs.Counting.{exchanges_append}
use Rattle.relocation.specs.Relocation.{package_fits}
use Rattle.sequential.specs.declared.state.State.{State}
use Rattle.sequential.specs.Log.{issued}
use Rattle.sequential.specs.Replay.{LogStep, Issued, Exchanged}
use Rattle.sequential.specs.Step.{step}
use Rattle.sequential.specs.Swap.{swap}
use Rattle.sequential.proofs.Entries.{issued-more}
use Rattle.sequential_run.specs.Turns.{Moment, Issues, Ends, begun, first_due, is_going}
use Rattle.sequential_run.specs.Turns.{is_in_mid_word, issue_or_end, next_turn, take_turn, turn_by, turns}
use Rattle.sequential_run.specs.Run.{IsSequentialRun}
use Rattle.sequential_run.proofs.Going.{issued_still}
use Rattle.sequential_run.proofs.MidWord.{IsPlaced, booted_out, placed_boot, placed_step, placed_swap, steps_on}
use Rattle.sequential_run.proofs.MidWord.{swapped_out}

-- ---- the exchanges of a log ----

exchange_added : (log : List LogStep) (at : ℕ)
    → exchanges_after 0 (log ++ Exchanged at ∷ []) ≡ exchanges_after 0 log ++ (at, issued log) ∷ []
unfolding exchanges_after
exchange_added log at = grind (arith, exchanges_append)

issue_added : (log : List LogStep) → exchanges_after 0 (log ++ Issued ∷ []) ≡ exchanges_after 0 log
unfolding exchanges_after
issue_added log = exchanges_append 0 log (Issued ∷ []) ∙ append-nil (exchanges_after 0 log)

-- ---- how the requests stand at a moment ----

-- the first request isn't due after this many instructions
abbrev IsAhead : ℕ → List (ℕ × ℕ) → Type 0
IsAhead now [] = Unit {0}
IsAhead now (ask ∷ asks) = now < ask.1

-- the first request wasn't due at the last exchange, and if it is due now, it became due just now
abbrev IsComing : ℕ → ℕ → List (ℕ × ℕ) → Type 0
IsComing last now [] = Unit {0}
IsComing last now (ask ∷ asks) = (last < ask.1) × (now ≤ ask.1)

-- since the last exchange no instruction was done, and the machine isn't in the middle of a word
record IsFresh (last : ℕ) (m : Moment) : Type 0 where
  now : issued m.log ≡ last
  out : is_in_mid_word m.state ≡ false

-- since the request was made, after `made` instructions, at most three instructions were done; in the middle of a word,
-- fewer than there are parcels before the next instruction
record IsTimely (made : ℕ) (m : Moment) : Type 0 where
  most : issued m.log ≤ made + 3
  mid : is_in_mid_word m.state ≡ true → issued m.log < made + m.state.position.parcel

-- no request waits
record IsIdle (last : ℕ) (left : List (ℕ × ℕ)) (spare : List ℕ) (m : Moment) : Type 0 where
  asks : left ≡ m.asks
  free : spare ≡ m.free
  next : IsFresh last m ⊎ IsComing last (issued m.log) m.asks

-- a request after a number of instructions is waiting
record WaitsAfter (n last : ℕ) (left : List (ℕ × ℕ)) (spare : List ℕ) (m : Moment) : Type 0 where
  after : ℕ
  asks : left ≡ (n, after) ∷ m.asks
  free : spare ≡ m.free
  due : after ≤ issued m.log
  since : IsFresh last m ⊎ ((last < after) × IsTimely after m)

-- a request at any time is waiting
record WaitsFree (n last : ℕ) (left : List (ℕ × ℕ)) (spare : List ℕ) (m : Moment) : Type 0 where
  made : ℕ
  asks : left ≡ m.asks
  free : spare ≡ n ∷ m.free
  since : last ≤ made
  ahead : IsAhead made m.asks
  timely : IsTimely made m

abbrev Stands : Option ℕ → ℕ → List (ℕ × ℕ) → List ℕ → Moment → Type 0
Stands None last left spare m = IsIdle last left spare m
Stands (Some n) last left spare m = WaitsAfter n last left spare m ⊎ WaitsFree n last left spare m

-- exchanges for the remaining requests, together with those of this log, fulfil all requests
abbrev Completes : List (ℕ × ℕ) → List ℕ → List LogStep → ℕ → List (ℕ × ℕ) → List ℕ → Type 0
Completes asks free log last left spare = (mid : Bool) (total : ℕ) (es : List (ℕ × ℕ))
    → fulfils mid total last left spare es ≡ true
    → fulfils mid total 0 asks free (exchanges_after 0 log ++ es) ≡ true

-- these requests remain at a moment; all others have had their exchanges, the last of them after `last` instructions
record Keeps (asks : List (ℕ × ℕ)) (free : List ℕ) (m : Moment) : Type 0 where
  last : ℕ
  left : List (ℕ × ℕ)
  spare : List ℕ
  on : Completes asks free m.log last left spare
  bound : last ≤ issued m.log
  placed : IsPlaced m.state
  stands : Stands m.waiting last left spare m

-- ---- none due ----

ahead_by : (now : ℕ) (asks : List (ℕ × ℕ)) → first_due now asks ≡ None → IsAhead now asks
unfolding first_due
ahead_by now asks h = grind arith

coming_by : (last now : ℕ) (asks : List (ℕ × ℕ)) → last ≤ now → IsAhead now asks → IsComing last (now + 1) asks
coming_by last now [] l h = tt
coming_by last now (ask ∷ asks) l h = (omega (arith, l, h), omega (arith, h))

-- the due request is the first one
record IsFirst (n now : ℕ) (asks : List (ℕ × ℕ)) : Type 0 where
  after : ℕ
  first : asks ≡ (n, after) ∷ drop 1 asks
  due : after ≤ now

first_by : (n now : ℕ) (asks : List (ℕ × ℕ)) → first_due now asks ≡ Some n → IsFirst n now asks
unfolding first_due
first_by n now [] h = cc
first_by n now (ask ∷ asks) h = by_test (leb ask.1 now) refl h
  where
    by_test : (b : Bool) → leb ask.1 now ≡ b → cond b (Some ask.0) None ≡ Some n → IsFirst n now (ask ∷ asks)
    by_test true e k = record {
      after = ask.1;
      first = let f : ask.0 ≡ n = cc in ap (λ x. (x, ask.1) ∷ asks) f;
      due = leb-true ask.1 now e;
    }
    by_test false e k = cc

-- ---- in time ----

in_time_by : (last now : ℕ) (asks : List (ℕ × ℕ)) (made : ℕ) → last ≤ made → IsAhead made asks → now ≤ made + 3
    → is_in_time last now asks ≡ true
unfolding is_in_time
in_time_by last now asks made s a t = grind arith

first_in_time : (last now n after : ℕ) (asks : List (ℕ × ℕ)) → last < after → now ≤ after + 3
    → is_in_time last now ((n, after) ∷ asks) ≡ true
unfolding is_in_time
first_in_time last now n after asks s t =
    and_from (nat_lt last after) (nat_le now (after + 3)) (lt-ltb last after s) (le-leb now (after + 3) t)

-- ---- an exchange ----

made_on : (asks : List (ℕ × ℕ)) (free : List ℕ) (log : List LogStep) (n last : ℕ) (left next : List (ℕ × ℕ))
    (spare others : List ℕ) → Completes asks free log last left spare
    → ((mid : Bool) (total : ℕ) (es : List (ℕ × ℕ)) → fulfils mid total (issued log) next others es ≡ true
    → fulfils mid total last left spare ((n, issued log) ∷ es) ≡ true)
    → Completes asks free (log ++ Exchanged n ∷ []) (issued log) next others
made_on asks free log n last left next spare others on made mid total es h = grind (arith, exchange_added, append_assoc)

-- an exchange for the first request after a number of instructions
made_after : (mid : Bool) (total last n now after : ℕ) (rest : List (ℕ × ℕ)) (spare : List ℕ) (es : List (ℕ × ℕ))
    → after ≤ now → (nat_eq now last || is_in_time last now ((n, after) ∷ rest)) ≡ true
    → fulfils mid total now rest spare es ≡ true
    → fulfils mid total last ((n, after) ∷ rest) spare ((n, now) ∷ es) ≡ true
unfolding fulfils is_next_ask
made_after mid total last n now after rest spare es d t h = grind arith

-- an exchange for the first request at any time
made_free : (mid : Bool) (total last n now : ℕ) (left : List (ℕ × ℕ)) (rest : List ℕ) (es : List (ℕ × ℕ))
    → is_in_time last now left ≡ true → fulfils mid total now left rest es ≡ true
    → fulfils mid total last left (n ∷ rest) ((n, now) ∷ es) ≡ true
unfolding fulfils is_next_free
made_free mid total last n now left rest es t h =
    or_right _ _ (and_from _ _ (and_from _ _ (eq-eqb n n refl) t) h)

-- the moment after an exchange
abbrev exchanged : ℕ → Moment → Moment
exchanged n m = record m { state = swap n m.state; log = m.log ++ Exchanged n ∷ []; waiting = None }

fresh : (n : ℕ) (m : Moment) → IsFresh (issued m.log) (exchanged n m)
fresh n m = record { now = issued_still m.log n; out = swapped_out n m.state }

kept_exchange : (asks : List (ℕ × ℕ)) (free : List ℕ) (n : ℕ) (m : Moment)
    → Completes asks free (m.log ++ Exchanged n ∷ []) (issued m.log) m.asks m.free → Keeps asks free (exchanged n m)
kept_exchange asks free n m on = grind (arith, issued_still, placed_swap, fresh)

since_after : (n last after : ℕ) (rest : List (ℕ × ℕ)) (m : Moment)
    → IsFresh last m ⊎ ((last < after) × IsTimely after m)
    → (nat_eq (issued m.log) last || is_in_time last (issued m.log) ((n, after) ∷ rest)) ≡ true
since_after n last after rest m h = grind (arith, first_in_time, or_left, eq-eqb, or_right)

exchange_kept : (asks : List (ℕ × ℕ)) (free : List ℕ) (n last : ℕ) (left : List (ℕ × ℕ)) (spare : List ℕ) (m : Moment)
    → Completes asks free m.log last left spare → Stands (Some n) last left spare m → Keeps asks free (exchanged n m)
exchange_kept asks free n last left spare m on (inl w) =
    kept_exchange asks free n m (made_on asks free m.log n last ((n, w.after) ∷ m.asks) m.asks m.free m.free
    (grind arith)
    (λ mid total es h. grind (arith, made_after, since_after)))
exchange_kept asks free n last left spare m on (inr w) =
    kept_exchange asks free n m (made_on asks free m.log n last m.asks m.asks (n ∷ m.free) m.free
    (grind arith)
    (λ mid total es h. grind (arith, made_free, in_time_by)))

-- ---- an instruction ----

-- the moment after an instruction
abbrev stepped : Moment → Moment
stepped m = record m { state = step m.state; log = m.log ++ Issued ∷ [] }

kept_step : (asks : List (ℕ × ℕ)) (free : List ℕ) (m : Moment) (k : Keeps asks free m)
    → Stands m.waiting k.last k.left k.spare (stepped m) → Keeps asks free (stepped m)
kept_step asks free m k s = grind (arith, issue_added, issued-more, placed_step)

timely_step : (made : ℕ) (m : Moment) → is_in_mid_word m.state ≡ true → IsPlaced m.state → IsTimely made m
    → IsTimely made (stepped m)
timely_step made m h p t = grind (arith, issued-more, steps_on)

-- in the middle of a word the request keeps waiting
waiting_step : (n last : ℕ) (left : List (ℕ × ℕ)) (spare : List ℕ) (m : Moment) → is_in_mid_word m.state ≡ true
    → IsPlaced m.state → Stands (Some n) last left spare m → Stands (Some n) last left spare (stepped m)
waiting_step n last left spare m h p (inl w) = inl (record {
  after = w.after;
  asks = w.asks;
  free = w.free;
  due = let d = w.due in grind (arith, issued-more);
  since = by_since w.since;
})
  where
    by_since : IsFresh last m ⊎ ((last < w.after) × IsTimely w.after m)
        → IsFresh last (stepped m) ⊎ ((last < w.after) × IsTimely w.after (stepped m))
    by_since (inl f) = absurd (true≢false (sym h ∙ f.out))
    by_since (inr t) = inr (t.0, timely_step w.after m h p t.1)
waiting_step n last left spare m h p (inr w) = grind (arith, timely_step w.made m h p w.timely)

-- no request waits or is due, so an instruction is done
idle_step : (last : ℕ) (left : List (ℕ × ℕ)) (spare : List ℕ) (m : Moment) → last ≤ issued m.log
    → first_due (issued m.log) m.asks ≡ None → IsIdle last left spare m → IsIdle last left spare (stepped m)
idle_step last left spare m b d i = grind (arith, issued-more, coming_by, ahead_by)

-- ---- a request ----

timely_now : (made : ℕ) (m : Moment) → IsPlaced m.state → issued m.log ≤ made → IsTimely made m
timely_now made m p l = grind arith

-- the moment after a request after a number of instructions
abbrev asked : ℕ → Moment → Moment
asked n m = record m { asks = drop 1 m.asks; waiting = Some n }

ask_kept : (n last : ℕ) (left : List (ℕ × ℕ)) (spare : List ℕ) (m : Moment) → IsPlaced m.state
    → first_due (issued m.log) m.asks ≡ Some n → IsIdle last left spare m → WaitsAfter n last left spare (asked n m)
ask_kept n last left spare m p d i = record {
  after = f.after;
  asks = i.asks ∙ f.first;
  free = i.free;
  due = f.due;
  since = by_next i.next;
}
  where
    f : IsFirst n (issued m.log) m.asks
    f = first_by n (issued m.log) m.asks d

    by_next : IsFresh last m ⊎ IsComing last (issued m.log) m.asks
        → IsFresh last (asked n m) ⊎ ((last < f.after) × IsTimely f.after (asked n m))
    by_next (inl g) = inl (record { now = g.now; out = g.out })
    by_next (inr c) = grind arith

-- the moment after a request at any time
abbrev asked_free : ℕ → Moment → Moment
asked_free n m = record m { free = drop 1 m.free; waiting = Some n }

free_kept : (n last : ℕ) (ns : List ℕ) (left : List (ℕ × ℕ)) (spare : List ℕ) (m : Moment) → IsPlaced m.state
    → last ≤ issued m.log → first_due (issued m.log) m.asks ≡ None → m.free ≡ n ∷ ns → IsIdle last left spare m
    → WaitsFree n last left spare (asked_free n m)
free_kept n last ns left spare m p b d e i =
    grind (arith, ahead_by (issued m.log) m.asks d, timely_now (issued m.log) (asked_free n m) p (omega arith))

-- ---- a turn ----

fitted : (asks : List (ℕ × ℕ)) (free : List ℕ) (n : ℕ) (m : Moment) (b : Bool) → Keeps asks free m
    → Keeps asks free (exchanged n m) → Keeps asks free (cond b (exchanged n m) m)
fitted asks free n m true k e = e
fitted asks free n m false k e = k

-- an instruction, or the end
gone : (asks : List (ℕ × ℕ)) (free : List ℕ) (m : Moment) (b : Bool) → Keeps asks free m
    → Keeps asks free (stepped m) → Keeps asks free (take_turn m (cond b Issues Ends))
unfolding take_turn
gone asks free m true k e = e
gone asks free m false k e = k

kept_turn : (asks : List (ℕ × ℕ)) (free : List ℕ) (budget : ℕ) (m : Moment) → Keeps asks free m
    → Keeps asks free (take_turn m (next_turn budget m))
unfolding next_turn issue_or_end turn_by take_turn
kept_turn asks free budget m k =
    by_turn m.waiting (is_in_mid_word m.state) (first_due (issued m.log) m.asks) m.free refl refl refl refl
  where
    by_turn : (o : Option ℕ) (mid : Bool) (due : Option ℕ) (fr : List ℕ) → m.waiting ≡ o → is_in_mid_word m.state ≡ mid
        → first_due (issued m.log) m.asks ≡ due → m.free ≡ fr
        → Keeps asks free (take_turn m (turn_by o mid due fr (cond (is_going m.state && nat_lt (issued m.log) budget)
        Issues Ends)))
    by_turn (Some n) true due fr w h d f = gone asks free m (is_going m.state && nat_lt (issued m.log) budget) k
        (kept_step asks free m k (subst (λ o. Stands o k.last k.left k.spare (stepped m)) (sym w)
        (waiting_step n k.last k.left k.spare m h k.placed
        (subst (λ o. Stands o k.last k.left k.spare m) w k.stands))))
    by_turn (Some n) false due fr w h d f = fitted asks free n m (package_fits n (length m.state.memory)) k
        (exchange_kept asks free n k.last k.left k.spare m k.on
        (subst (λ o. Stands o k.last k.left k.spare m) w k.stands))
    by_turn None mid (Some n) fr w h d f = grind (arith, ask_kept)
    by_turn None mid None (n ∷ ns) w h d f = record {
      last = k.last;
      left = k.left;
      spare = k.spare;
      on = k.on;
      bound = k.bound;
      placed = k.placed;
      stands = inr (free_kept n k.last ns k.left k.spare m k.placed k.bound d f
          (subst (λ o. Stands o k.last k.left k.spare m) w k.stands));
    }
    by_turn None mid None [] w h d f = gone asks free m (is_going m.state && nat_lt (issued m.log) budget) k
        (kept_step asks free m k (subst (λ o. Stands o k.last k.left k.spare (stepped m)) (sym w)
        (idle_step k.last k.left k.spare m k.bound d (subst (λ o. Stands o k.last k.left k.spare m) w k.stands))))

kept_turns : (asks : List (ℕ × ℕ)) (free : List ℕ) (budget n : ℕ) (m : Moment) → Keeps asks free m
    → Keeps asks free (turns budget n m)
unfolding turns
kept_turns asks free budget zero m k = k
kept_turns asks free budget (suc n) m k =
    kept_turns asks free budget n (take_turn m (next_turn budget m)) (kept_turn asks free budget m k)

-- ---- the beginning and the end ----

kept_first : (memory : List ℕ) (asks : List (ℕ × ℕ)) (free : List ℕ) → Keeps asks free (begun memory asks free)
unfolding begun issued exchanges_after
kept_first memory asks free = grind (arith, placed_boot, booted_out)

done_by : (total : ℕ) (asks : List (ℕ × ℕ)) → IsAhead total asks → are_done total asks [] ≡ true
unfolding are_done
done_by total [] h = refl
done_by total (ask ∷ asks) h = lt-ltb total ask.1 h

-- at the end no request remains
ends_idle : (last : ℕ) (left : List (ℕ × ℕ)) (spare : List ℕ) (m : Moment) → first_due (issued m.log) m.asks ≡ None
    → m.free ≡ [] → IsIdle last left spare m
    → fulfils (is_in_mid_word m.state) (issued m.log) last left spare [] ≡ true
unfolding fulfils
ends_idle last left spare m d f i = grind (arith, done_by, ahead_by, or_left)

-- or the end comes in the middle of a word while a request waits
ends_by : (mid : Bool) (total last : ℕ) (left : List (ℕ × ℕ)) (spare : List ℕ) → mid ≡ true
    → is_in_time last total left ≡ true → fulfils mid total last left spare [] ≡ true
unfolding fulfils
ends_by mid total last left spare h t = or_right _ _ (and_from mid (is_in_time last total left) h t)

ends_waiting : (n last : ℕ) (left : List (ℕ × ℕ)) (spare : List ℕ) (m : Moment) → is_in_mid_word m.state ≡ true
    → Stands (Some n) last left spare m → is_in_time last (issued m.log) left ≡ true
ends_waiting n last left spare m h k = grind (arith, first_in_time, in_time_by)

ends_fulfilled : (asks : List (ℕ × ℕ)) (free : List ℕ) (budget : ℕ) (m : Moment) (k : Keeps asks free m)
    → next_turn budget m ≡ Ends → fulfils (is_in_mid_word m.state) (issued m.log) k.last k.left k.spare [] ≡ true
unfolding next_turn turn_by
ends_fulfilled asks free budget m k e = grind (arith, ends_by, ends_waiting, ends_idle)

moment_fulfils : (asks : List (ℕ × ℕ)) (free : List ℕ) (budget : ℕ) (m : Moment) → Keeps asks free m
    → next_turn budget m ≡ Ends
    → fulfils (is_in_mid_word m.state) (issued m.log) 0 asks free (exchanges_after 0 m.log) ≡ true
moment_fulfils asks free budget m k e =
    ap (fulfils (is_in_mid_word m.state) (issued m.log) 0 asks free) (sym (append-nil (exchanges_after 0 m.log)))
    ∙ k.on (is_in_mid_word m.state) (issued m.log) [] (ends_fulfilled asks free budget m k e)

-- a law of the definition: the log of a run fulfils the requests
pub run_fulfils : (memory : List ℕ) (start : ℕ) (after : List (ℕ × ℕ)) (free : List ℕ) (budget : ℕ)
    (log : List LogStep) (s : State) → IsSequentialRun memory start after free budget log s
    → IsFulfilled start after free (is_in_mid_word s) log
run_fulfils memory start after free budget log s r = grind (arith, kept_turns, kept_first, moment_fulfils)
