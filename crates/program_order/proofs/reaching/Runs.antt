-- One more event of a run, and one more event of a drain.
use Rattle.std.proofs.Common.{◌≡◌, ◌<◌, ◌≤◌, ◌+◌, ℕ, zero, suc, true, false, List, [], ◌∷◌, ◌++◌, Option, Some, None}
use Rattle.std.proofs.Common.{take, length, length-append, get_or, append_assoc, refl, sym, ap, ◌∙◌, subst, add-one}
use Rattle.std.proofs.Common.{arith, inl, inr}
use Rattle.std.proofs.lemmas.List.{append-nil, take_all}
use Rattle.std.specs.Prelude.{Result, Ok}
use Rattle.instructions.specs.declared.refusal.Refusal.{Refusal}
use Rattle.program_order.specs.declared.event.Done.{Done}
use Rattle.program_order.specs.declared.event.Event.{Event}
use Rattle.program_order.specs.Run.{answer_by, done_by, answer_of, makes_room, IsAnswer, IsRun, settled, IsAnswered}
use Rattle.program_order.specs.Run.{settled_all}
use Rattle.program_order.specs.Processor.{Processor}
use Rattle.program_order.specs.Events.{allowed, after}
use Rattle.in_flight.specs.Lookup.{is_pending}
use Rattle.program_order.specs.Drain.{works_on, Accepts, leads_to, Works, next_of, work_left}
use Rattle.program_order.proofs.theorem.Theorem.{made_allowed}
use Rattle.program_order.proofs.draining.Draining.{Eases, saved_of, nothing_next, next_eases, all_done}
use Rattle.program_order.proofs.draining.OnPending.{is_work, next_works_on, on_pending}

-- ---- a run ----

-- two runs in sequence
pub answered_append : (w : Processor) (es fs : List Event) (given more : List (Result Done Refusal))
    → IsAnswered w es given → IsAnswered (settled_all w es given) fs more → IsAnswered w (es ++ fs) (given ++ more)
unfolding settled_all
answered_append w [] fs [] more h k = k
answered_append w [] fs (a ∷ given) more h k = absurd h
answered_append w (e ∷ es) fs [] more h k = absurd h
answered_append w (e ∷ es) fs (a ∷ given) more h k = (h.0, answered_append (settled w e a) es fs given more h.1 k)

pub settled_append : (w : Processor) (es fs : List Event) (given more : List (Result Done Refusal))
    → IsAnswered w es given → settled_all (settled_all w es given) fs more ≡ settled_all w (es ++ fs) (given ++ more)
unfolding settled_all
settled_append w [] fs [] more h = refl
settled_append w [] fs (a ∷ given) more h = absurd h
settled_append w (e ∷ es) fs [] more h = absurd h
settled_append w (e ∷ es) fs (a ∷ given) more h = settled_append (settled w e a) es fs given more h.1

-- the rest of a run after its first part
pub answered_rest : (w : Processor) (es fs : List Event) (given more : List (Result Done Refusal))
    → IsAnswered w es given → IsAnswered w (es ++ fs) (given ++ more) → IsAnswered (settled_all w es given) fs more
unfolding settled_all
answered_rest w [] fs [] more h k = k
answered_rest w [] fs (a ∷ given) more h k = absurd h
answered_rest w (e ∷ es) fs [] more h k = absurd h
answered_rest w (e ∷ es) fs (a ∷ given) more h k = answered_rest (settled w e a) es fs given more h.1 k.1

take_next : (es : List Event) (i : ℕ) (d : Event) → i < length es → take (i + 1) es ≡ take i es ++ get_or es i d ∷ []
take_next es i d l = ap (λ n. take n es) (add-one i) ∙ next es i d l
  where
    next : (es : List Event) (i : ℕ) (d : Event) → i < length es → take (suc i) es ≡ take i es ++ get_or es i d ∷ []
    next [] i d l = absurd (omega arith)
    next (x ∷ es) zero d l = refl
    next (x ∷ es) (suc i) d l = ap (λ k. x ∷ k) (next es i d (omega arith))

-- the effect of the first events of a run
pub record Running (w v : Processor) (events : List Event) (old new : List (Result Done Refusal)) : Type 0 where
  pub given : List (Result Done Refusal)
  pub added : new ≡ old ++ given
  pub answered : IsAnswered w events given
  pub left : v ≡ settled_all w events given

pub running_none : (w : Processor) (events : List Event) (old new : List (Result Done Refusal)) → new ≡ old
    → Running w w (take 0 events) old new
unfolding settled_all
running_none w events old new e = record { given = []; added = e ∙ sym (append-nil old); answered = tt; left = refl }

pub running_more : (w v x : Processor) (events : List Event) (i : ℕ) (d : Event) (a : Result Done Refusal)
    (old now new : List (Result Done Refusal)) → Running w v (take i events) old now → i < length events
    → IsAnswer v (get_or events i d) a → x ≡ settled v (get_or events i d) a → new ≡ now ++ a ∷ []
    → Running w x (take (i + 1) events) old new
unfolding settled_all
running_more w v x events i d a old now new r l k s n =
    let left = r.left in
    record {
      given = r.given ++ a ∷ [];
      added = n ∙ ap (λ z. z ++ a ∷ []) r.added ∙ append_assoc old r.given (a ∷ []);
      answered = subst (λ es. IsAnswered w es (r.given ++ a ∷ [])) (sym (take_next events i d l))
          (grind (arith, answered_append));
      left = s ∙ ap (λ y. settled y (get_or events i d) a) left
          ∙ settled_append w (take i events) (get_or events i d ∷ []) r.given (a ∷ []) r.answered
          ∙ ap (λ es. settled_all w es (r.given ++ a ∷ [])) (sym (take_next events i d l));
    }

pub run_done : (w v : Processor) (events : List Event) (i : ℕ) (old new : List (Result Done Refusal))
    → length events ≤ i → Running w v (take i events) old new → IsRun w v events old new
run_done w v events i old new l r = grind (arith, take_all)

-- ---- a drain ----

accepts_more : (w : Processor) (es : List Event) (e : Event) → Accepts w es → allowed (leads_to w es) e ≡ None
    → works_on (leads_to w es).pending e ≡ true → Accepts w (es ++ e ∷ [])
unfolding leads_to
accepts_more w [] e h a k = (a, k, tt)
accepts_more w (x ∷ es) e h a k = (h.0, h.1, accepts_more (after w x) es e h.2 a k)

leads_more : (w : Processor) (es : List Event) (e : Event) → after (leads_to w es) e ≡ leads_to w (es ++ e ∷ [])
unfolding leads_to
leads_more w [] e = refl
leads_more w (x ∷ es) e = leads_more (after w x) es e

works_none : (w : Processor) → Works w w 0
unfolding leads_to
works_none w = record { events = []; accepted = tt; leads = refl; counted = refl; limit = omega arith }

works_more : (w v x : Processor) (n : ℕ) (e : Event) (d : Done) (a : Result Done Refusal) → Works w v n → n < 40
    → a ≡ Ok d → IsAnswer v e a → x ≡ settled v e a → works_on v.pending e ≡ true
    → Works w x (n + 1)
unfolding settled
works_more w v x n e d a k l o h s i =
    let none : allowed v e ≡ None = made_allowed v e d (subst (λ y. IsAnswer v e y) o h) in
    let leads = k.leads in grind (arith, accepts_more, leads_more, length-append)

-- this many events were made, and the remaining work fits the rest of the forty
pub record Draining (w v : Processor) (made : ℕ) : Type 0 where
  pub works : Works w v made
  pub left : 0 < made → made + work_left v.pending ≤ 40 + saved_of v.pending v.busy

pub draining_none : (w : Processor) → Draining w w 0
draining_none w = record { works = works_none w; left = λ h. absurd (omega (arith, h)) }

eased : (v x : Processor) (n : ℕ) → (0 < n → n + work_left v.pending ≤ 40 + saved_of v.pending v.busy)
    → work_left v.pending ≤ 40 → Eases v x → n + 1 + work_left x.pending ≤ 40 + saved_of x.pending x.busy
eased v x zero h l e = omega (arith, l, e)
eased v x (suc n) h l e = let k = h (omega arith) in omega (arith, k, e)

some_event : (o : Option Event) (e : Event) (v : Processor) → o ≡ next_of v.pending v.busy → o ≡ Some e
    → next_of v.pending v.busy ≡ Some e
some_event o e v h k = sym h ∙ k

no_growth : (e : Event) → is_work e ≡ true → makes_room e ≡ true → ⊥
unfolding is_work makes_room
no_growth e h k = grind arith

-- an allowed event that serves a pending instruction is made
surely_made : (v : Processor) (e : Event) (a : Result Done Refusal) → allowed v e ≡ None → is_work e ≡ true
    → IsAnswer v e a → a ≡ Ok (done_by v e)
unfolding answer_of answer_by
surely_made v e a h i (inl k) = k ∙ ap (answer_by (done_by v e)) h
surely_made v e a h i (inr k) = absurd (no_growth e i k.growing)

pub draining_more : (w v x : Processor) (n : ℕ) (o : Option Event) (e : Event) (a : Result Done Refusal)
    → Draining w v n → n < 40 → work_left v.pending ≤ 40 → allowed v e ≡ None → o ≡ next_of v.pending v.busy
    → o ≡ Some e → IsAnswer v e a → x ≡ settled v e a → Draining w x (n + 1)
unfolding settled
draining_more w v x n o e a k l b h oh oe s i =
    let next = some_event o e v oh oe in
    let work = next_works_on v.pending v.busy e next in
    let made = surely_made v e a h (on_pending v.pending e work) s in search (arith, works_more, eased, next_eases)

-- there is no next event
pub nothing_left : (v : Processor) (o : Option Event) → o ≡ next_of v.pending v.busy → o ≡ None
    → is_pending v.pending ≡ false
nothing_left v o h k = nothing_next v.pending v.busy (sym h ∙ k)

-- forty events were made
pub forty_made : (w v : Processor) (n : ℕ) → Draining w v n → 40 ≤ n → is_pending v.pending ≡ false
forty_made w v n d l = grind (arith, saved_of, all_done)

pub forty_works : (w v : Processor) (n : ℕ) → Draining w v n → 40 ≤ n → Works w v 40
forty_works w v n d l =
    let most = d.works.limit in subst (Works w v) (let e : n ≡ 40 = omega (arith, l, most) in e) d.works
