-- Which request an exchange belongs to: a request that is due, if the exchanges begin with those of all due requests,
-- and otherwise a request at any time.
use Rattle.std.proofs.Common.{◌≡◌, ◌⊎◌, inl, inr, ◌<◌, ◌≤◌, ◌+◌, ℕ, Bool, true, false, cond, not, ◌&&◌, ◌||◌, length}
use Rattle.std.proofs.Common.{List, [], ◌∷◌, refl, sym, ap, subst, ◌∙◌, arith, leb-true, le-leb}
use Rattle.std.proofs.lemmas.Bool.{lt-ltb, eqb-true, eq-eqb, leb-false}
use Rattle.std.specs.Prelude.{drop, nat_eq, nat_le}
use Rattle.sequential_run.specs.Fulfilled.{is_in_time, is_next_ask, is_next_free, are_done, fulfils}
use Rattle.sequential_run.specs.inner.Judging.{starts_with_due, is_of_ask, AreWithin}

-- ---- tests ----

both : (a b : Bool) → a && b ≡ true → (a ≡ true) × (b ≡ true)
both true true e = (refl, refl)
both true false e = cc
both false b e = cc

either : (a b : Bool) → a || b ≡ true → (a ≡ true) ⊎ (b ≡ true)
either true b e = inl refl
either false b e = inr e

pair_is : (p : ℕ × ℕ) (a b : ℕ) → p.0 ≡ a → p.1 ≡ b → p ≡ (a, b)
pair_is p a b e f = rw (sym e, sym f) refl

-- ---- a request that was due at the last exchange ----

-- an exchange before the request's own comes too early
late : (now then : ℕ) (ask : ℕ × ℕ) (asks : List (ℕ × ℕ)) → ask.1 ≤ now → is_in_time now then (ask ∷ asks) ≡ false
unfolding is_in_time
late now then ask asks d = grind arith

left_over : (total : ℕ) (ask : ℕ × ℕ) (asks : List (ℕ × ℕ)) (free : List ℕ) → ask.1 ≤ total
    → are_done total (ask ∷ asks) free ≡ false
unfolding are_done
left_over total ask asks (at ∷ free) d = refl
left_over total ask asks [] d = grind arith

not_free : (now : ℕ) (made ask : ℕ × ℕ) (asks : List (ℕ × ℕ)) (free : List ℕ) → ask.1 ≤ now
    → is_next_free now made (ask ∷ asks) free ≡ false
unfolding is_next_free
not_free now made ask asks [] d = refl
not_free now made ask asks (at ∷ free) d = grind (arith, late)

-- facts about an exchange that belongs to the next request after a number of instructions
record OfAsk (last : ℕ) (made ask : ℕ × ℕ) (asks : List (ℕ × ℕ)) : Type 0 where
  at : made.0 ≡ ask.0
  due : ask.1 ≤ made.1
  in_time : (nat_eq made.1 last || is_in_time last made.1 (ask ∷ asks)) ≡ true

of_ask : (last : ℕ) (made ask : ℕ × ℕ) (asks : List (ℕ × ℕ)) → is_next_ask last made (ask ∷ asks) ≡ true
    → OfAsk last made ask asks
unfolding is_next_ask
of_ask last made ask asks e = grind arith

at_once : (now : ℕ) (made ask : ℕ × ℕ) (asks : List (ℕ × ℕ)) → ask.1 ≤ now → OfAsk now made ask asks → made.1 ≡ now
at_once now made ask asks d o = grind (arith, either, late, eqb-true)

-- the next exchange belongs to the due request, with no instruction between
record Forced (m : Bool) (total now : ℕ) (ask : ℕ × ℕ) (asks : List (ℕ × ℕ)) (free : List ℕ) (made : List (ℕ × ℕ))
    : Type 0 where
  more : List (ℕ × ℕ)
  made_is : made ≡ (ask.0, now) ∷ more
  on : fulfils m total now asks free more ≡ true

forced : (m : Bool) (total now : ℕ) (ask : ℕ × ℕ) (asks : List (ℕ × ℕ)) (free : List ℕ) (made : List (ℕ × ℕ))
    → ask.1 ≤ now → now ≤ total → fulfils m total now (ask ∷ asks) free made ≡ true
    → Forced m total now ask asks free made
unfolding fulfils
forced m total now ask asks free [] d w e = grind (arith, either, left_over, late, both)
forced m total now ask asks free (made ∷ more) d w e =
    by_case (either (is_next_ask now made (ask ∷ asks) && fulfils m total made.1 asks free more) _ e)
  where
    by_case : ((is_next_ask now made (ask ∷ asks) && fulfils m total made.1 asks free more) ≡ true)
        ⊎ ((is_next_free now made (ask ∷ asks) free && fulfils m total made.1 (ask ∷ asks) (drop 1 free) more) ≡ true)
        → Forced m total now ask asks free (made ∷ more)
    by_case (inl h) =
        let p = both (is_next_ask now made (ask ∷ asks)) _ h in
        let o = of_ask now made ask asks p.0 in
        let n = at_once now made ask asks d o in
        record {
          more = more;
          made_is = ap (λ x. x ∷ more) (pair_is made ask.0 now o.at n);
          on = subst (λ k. fulfils m total k asks free more ≡ true) n p.1;
        }
    by_case (inr h) =
        let p = both (is_next_free now made (ask ∷ asks) free) _ h in let q = p.0 in
        let n = not_free now made ask asks free d in absurd (cc)

-- ---- all requests that are due ----

starts_on : (now : ℕ) (ask made : ℕ × ℕ) (asks more : List (ℕ × ℕ)) → ask.1 ≤ now → made.0 ≡ ask.0 → made.1 ≡ now
    → starts_with_due now (ask ∷ asks) (made ∷ more) ≡ starts_with_due now asks more
unfolding starts_with_due
starts_on now ask made asks more d e f =
    rw (le-leb ask.1 now d, eq-eqb made.0 ask.0 e, eq-eqb made.1 now f) refl

due_on : (m : Bool) (total now : ℕ) (ask : ℕ × ℕ) (asks : List (ℕ × ℕ)) (free : List ℕ) (made : List (ℕ × ℕ))
    → now ≤ total → fulfils m total now (ask ∷ asks) free made ≡ true
    → ((more : List (ℕ × ℕ)) → fulfils m total now asks free more ≡ true → starts_with_due now asks more ≡ true)
    → starts_with_due now (ask ∷ asks) made ≡ true
unfolding starts_with_due
due_on m total now ask asks free made w e others = by_test (nat_le ask.1 now) refl
  where
    not_due : (made : List (ℕ × ℕ)) → nat_le ask.1 now ≡ false → starts_with_due now (ask ∷ asks) made ≡ true
    not_due [] t = rw t refl
    not_due (x ∷ more) t = rw t refl

    by_test : (b : Bool) → nat_le ask.1 now ≡ b → starts_with_due now (ask ∷ asks) made ≡ true
    by_test false t = not_due made t
    by_test true t =
        let d = leb-true ask.1 now t in
        let f = forced m total now ask asks free made d w e in
        subst (λ x. starts_with_due now (ask ∷ asks) x ≡ true) (sym f.made_is)
        (starts_on now ask (ask.0, now) asks f.more d refl refl ∙ others f.more f.on)

-- the exchanges of the due requests come next
due_next : (m : Bool) (total now : ℕ) (asks : List (ℕ × ℕ)) (free : List ℕ) (made : List (ℕ × ℕ)) → now ≤ total
    → fulfils m total now asks free made ≡ true → starts_with_due now asks made ≡ true
unfolding starts_with_due
due_next m total now [] free made w e = refl
due_next m total now (ask ∷ asks) free made w e =
    due_on m total now ask asks free made w e (λ more f. due_next m total now asks free more w f)

-- ---- the same exchange before and behind them ----

-- an exchange at any time, while no other request is due
free_on : (m : Bool) (total now at : ℕ) (asks : List (ℕ × ℕ)) (free : List ℕ) (made : List (ℕ × ℕ))
    → is_in_time now now asks ≡ true → fulfils m total now asks free made ≡ true
    → fulfils m total now asks (at ∷ free) ((at, now) ∷ made) ≡ true
unfolding fulfils is_next_free
free_on m total now at asks free made t e = grind arith

-- an exchange for a request that is due
ask_on : (m : Bool) (total now : ℕ) (ask : ℕ × ℕ) (asks : List (ℕ × ℕ)) (free : List ℕ) (made : List (ℕ × ℕ))
    → ask.1 ≤ now → fulfils m total now asks free made ≡ true
    → fulfils m total now (ask ∷ asks) free ((ask.0, now) ∷ made) ≡ true
unfolding fulfils is_next_ask
ask_on m total now ask asks free made d e =
    rw (eq-eqb ask.0 ask.0 refl, le-leb ask.1 now d, eq-eqb now now refl, e) refl

not_due_yet : (now : ℕ) (ask : ℕ × ℕ) (asks : List (ℕ × ℕ)) → nat_le ask.1 now ≡ false
    → is_in_time now now (ask ∷ asks) ≡ true
unfolding is_in_time
not_due_yet now ask asks e =
    let l = leb-false ask.1 now e in rw (le-leb now (ask.1 + 3) (omega (arith, l)), lt-ltb now ask.1 l) refl

-- the first exchange belongs to the first request that is due
record StartsOn (now : ℕ) (made ask : ℕ × ℕ) (asks more : List (ℕ × ℕ)) : Type 0 where
  at : made.0 ≡ ask.0
  others : starts_with_due now asks more ≡ true

starts : (now : ℕ) (made ask : ℕ × ℕ) (asks more : List (ℕ × ℕ)) → nat_le ask.1 now ≡ true
    → starts_with_due now (ask ∷ asks) (made ∷ more) ≡ true → StartsOn now made ask asks more
unfolding starts_with_due
starts now made ask asks more d e = grind arith

shift_on : (m : Bool) (total now at : ℕ) (ask : ℕ × ℕ) (asks : List (ℕ × ℕ)) (free : List ℕ) (made : List (ℕ × ℕ))
    → now ≤ total → starts_with_due now (ask ∷ asks) ((at, now) ∷ made) ≡ true
    → fulfils m total now (ask ∷ asks) free made ≡ true
    → ((more : List (ℕ × ℕ)) → starts_with_due now asks ((at, now) ∷ more) ≡ true
    → fulfils m total now asks free more ≡ true → fulfils m total now asks (at ∷ free) ((at, now) ∷ more) ≡ true)
    → fulfils m total now (ask ∷ asks) (at ∷ free) ((at, now) ∷ made) ≡ true
shift_on m total now at ask asks free made w s e others = by_test (nat_le ask.1 now) refl
  where
    by_test : (b : Bool) → nat_le ask.1 now ≡ b
        → fulfils m total now (ask ∷ asks) (at ∷ free) ((at, now) ∷ made) ≡ true
    by_test false t = free_on m total now at (ask ∷ asks) free made (not_due_yet now ask asks t) e
    by_test true t =
        let d = leb-true ask.1 now t in
        let f = forced m total now ask asks free made d w e in
        let o = starts now (at, now) ask asks made t s in
        let same : made ≡ (at, now) ∷ f.more = f.made_is ∙ ap (λ n. (n, now) ∷ f.more) (sym o.at) in
        let there = others f.more (subst (λ x. starts_with_due now asks x ≡ true) same o.others) f.on in
        subst (λ n. fulfils m total now (ask ∷ asks) (at ∷ free) ((n, now) ∷ made) ≡ true) (sym o.at)
        (ask_on m total now ask asks (at ∷ free) made d
        (subst (λ x. fulfils m total now asks (at ∷ free) x ≡ true) (sym same) there))

-- an exchange at any time can be moved behind equal exchanges of due requests
shift : (m : Bool) (total now at : ℕ) (asks : List (ℕ × ℕ)) (free : List ℕ) (made : List (ℕ × ℕ)) → now ≤ total
    → starts_with_due now asks ((at, now) ∷ made) ≡ true → fulfils m total now asks free made ≡ true
    → fulfils m total now asks (at ∷ free) ((at, now) ∷ made) ≡ true
unfolding is_in_time
shift m total now at [] free made w s e = free_on m total now at [] free made refl e
shift m total now at (ask ∷ asks) free made w s e =
    shift_on m total now at ask asks free made w s e (λ more p f. shift m total now at asks free more w p f)

-- ---- one exchange ----

taken_by : (a b c : Bool) → a ≡ true → (c ≡ true → b ≡ true) → ((a && b) || c) ≡ b
taken_by true true c e f = refl
taken_by true false true e f = sym (f refl)
taken_by true false false e f = refl
taken_by false b c e f = cc

free_too : (m : Bool) (total last : ℕ) (made ask : ℕ × ℕ) (asks : List (ℕ × ℕ)) (free : List ℕ) (more : List (ℕ × ℕ))
    → made.1 ≤ total → OfAsk last made ask asks → starts_with_due made.1 (ask ∷ asks) (made ∷ more) ≡ true
    → (is_next_free last made (ask ∷ asks) free && fulfils m total made.1 (ask ∷ asks) (drop 1 free) more) ≡ true
    → fulfils m total made.1 asks free more ≡ true
unfolding is_next_free
free_too m total last made ask asks [] more w o s e = cc
free_too m total last made ask asks (at ∷ free) more w o s e =
    let p = both (nat_eq made.0 at && is_in_time last made.1 (ask ∷ asks)) _ e in
    let q = both (nat_eq made.0 at) _ p.0 in
    let is = pair_is made at made.1 (eqb-true made.0 at q.0) refl in
    let there = shift m total made.1 at (ask ∷ asks) free more w
    (subst (λ x. starts_with_due made.1 (ask ∷ asks) (x ∷ more) ≡ true) is s) p.1 in
    let f = forced m total made.1 ask asks (at ∷ free) ((at, made.1) ∷ more) o.due w there in
    subst (λ x. fulfils m total made.1 asks (at ∷ free) x ≡ true) (sym (ap (drop 1) f.made_is)) f.on

-- the exchange was made for the next request after a number of instructions
pub ask_taken : (m : Bool) (total last : ℕ) (made : ℕ × ℕ) (asks : List (ℕ × ℕ)) (free : List ℕ) (more : List (ℕ × ℕ))
    → made.1 ≤ total → is_of_ask last asks (made ∷ more) ≡ true
    → fulfils m total last asks free (made ∷ more) ≡ fulfils m total made.1 (drop 1 asks) free more
unfolding fulfils is_next_ask
ask_taken m total last made [] free more w e = cc
ask_taken m total last made (ask ∷ asks) free more w e = grind (arith, both, taken_by, free_too, of_ask)

-- the exchange can't belong to that request
not_taken : (m : Bool) (total last : ℕ) (made : ℕ × ℕ) (asks : List (ℕ × ℕ)) (free : List ℕ) (more : List (ℕ × ℕ))
    → made.1 ≤ total → is_of_ask last asks (made ∷ more) ≡ false
    → (is_next_ask last made asks && fulfils m total made.1 (drop 1 asks) free more) ≡ false
unfolding is_next_ask
not_taken m total last made [] free more w e = refl
not_taken m total last made (ask ∷ asks) free more w e = grind (arith, both, of_ask, starts_on, due_next)

-- the exchange was made for the next request at any time
pub free_taken : (m : Bool) (total last : ℕ) (made : ℕ × ℕ) (asks : List (ℕ × ℕ)) (free : List ℕ)
    (more : List (ℕ × ℕ)) → made.1 ≤ total → is_of_ask last asks (made ∷ more) ≡ false
    → is_next_free last made asks free ≡ true
    → fulfils m total last asks free (made ∷ more) ≡ fulfils m total made.1 asks (drop 1 free) more
unfolding fulfils
free_taken m total last made asks free more w e f = rw (not_taken m total last made asks free more w e, f) refl

-- the exchange was made for no request
pub none_taken : (m : Bool) (total last : ℕ) (made : ℕ × ℕ) (asks : List (ℕ × ℕ)) (free : List ℕ)
    (more : List (ℕ × ℕ)) → made.1 ≤ total → is_of_ask last asks (made ∷ more) ≡ false
    → is_next_free last made asks free ≡ false → fulfils m total last asks free (made ∷ more) ≡ false
unfolding fulfils
none_taken m total last made asks free more w e f = rw (not_taken m total last made asks free more w e, f) refl

-- ---- the loop over the exchanges ----

-- there is a request for the exchange
pub some_ask : (last : ℕ) (made : ℕ × ℕ) (asks left more : List (ℕ × ℕ)) → left ≡ made ∷ more
    → is_of_ask last asks left ≡ true → 0 < length asks
unfolding is_next_ask
some_ask last made asks left more e t = grind arith

pub some_free : (last : ℕ) (made : ℕ × ℕ) (asks : List (ℕ × ℕ)) (free : List ℕ)
    → is_next_free last made asks free ≡ true → 0 < length free
unfolding is_next_free
some_free last made asks [] t = cc
some_free last made asks (at ∷ free) t = omega arith

-- once the first exchange has its request, the remaining requests decide as before
pub given : (m : Bool) (total last : ℕ) (made : ℕ × ℕ) (asks : List (ℕ × ℕ)) (free : List ℕ)
    (left more : List (ℕ × ℕ)) (all is_ask : Bool) → left ≡ made ∷ more → AreWithin total left
    → is_ask ≡ is_of_ask last asks left → (is_ask ≡ false → is_next_free last made asks free ≡ true)
    → fulfils m total last asks free left ≡ all
    → fulfils m total made.1 (cond is_ask (drop 1 asks) asks) (cond (not is_ask) (drop 1 free) free) more ≡ all
given m total last made asks free left more all is_ask e w t f h = grind (arith, ask_taken, free_taken)

-- an exchange without a request
pub not_given : (m : Bool) (total last : ℕ) (made : ℕ × ℕ) (asks : List (ℕ × ℕ)) (free : List ℕ)
    (left more : List (ℕ × ℕ)) (all : Bool) → left ≡ made ∷ more → AreWithin total left
    → is_of_ask last asks left ≡ false → is_next_free last made asks free ≡ false
    → fulfils m total last asks free left ≡ all → false ≡ all
not_given m total last made asks free left more all e w t f h = grind (arith, none_taken)

pub within_rest : (total : ℕ) (made : ℕ × ℕ) (left more : List (ℕ × ℕ)) → left ≡ made ∷ more → AreWithin total left
    → AreWithin total more
within_rest total made left more e w = (subst (λ l. AreWithin total l) e w).1
