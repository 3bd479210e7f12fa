-- Consecutive steps, and the entries of a log one by one.
use Rattle.std.specs.Prelude.{option_and_then, replicate, Result, Ok, Err, MatchResult, OnOk, IfErr}
use Rattle.std.proofs.Common.{◌≡◌, ◌<◌, ◌≤◌, ◌+◌, ◌-◌, ℕ, zero, suc, true, false, cond, List, [], ◌∷◌, ◌++◌, Option}
use Rattle.std.proofs.Common.{Some, None, length, take, drop, get_or, is_some, refl, sym, ap, ◌∙◌, append_assoc}
use Rattle.std.proofs.Common.{Bool, append-nil, add-one, arith}
use Rattle.instructions.specs.declared.refusal.Halt.{Halt}
use Rattle.instructions.specs.declared.refusal.Refusal.{Refusal}
use Rattle.sequential.specs.declared.log.Entry.{Entry}
use Rattle.sequential.specs.declared.log.Entry.TheVariants.{Issued as Count}
use Rattle.sequential.specs.declared.state.State.{State}
use Rattle.sequential.specs.Log.{steps_of}
use Rattle.sequential.specs.Replay.{LogStep, Issued, IsRefusedAt, do_log_step, replay, step_refusal}
use Rattle.sequential.specs.Step.{step, step_unless}
use Rattle.sequential.proofs.Entries.{steps-append}

-- ---- a halted machine ----

step_halted : (s : State) (h : Halt) → s.halt ≡ Some h → step s ≡ s
unfolding step step_unless
step_halted s h e = ap (step_unless s) e

halted_by : (s : State) (n : ℕ) (h : Halt) → s.halt ≡ Some h → replay s (replicate n Issued) ≡ Some s
unfolding replay do_log_step
halted_by s zero h e = refl
halted_by s (suc n) h e = ap (λ t. replay t (replicate n Issued)) (step_halted s h e) ∙ halted_by s n h e

pub halted_run : (s : State) (n : ℕ) → is_some s.halt ≡ true → replay s (replicate n Issued) ≡ Some s
halted_run s n e = grind (arith, halted_by, is_some)

-- ---- one step of a run ----

one_issued : (s : State) (n : ℕ) → replay s (replicate (suc n) Issued) ≡ replay (step s) (replicate n Issued)
unfolding replay do_log_step
one_issued s n = refl

pub run_more : (s t : State) (i n : ℕ) (o : Option State) → i < n → t ≡ step s
    → replay s (replicate (n - i) Issued) ≡ o → replay t (replicate (n - (i + 1)) Issued) ≡ o
run_more s t i n o l e h =
    ap (λ u. replay u (replicate (n - (i + 1)) Issued)) e
    ∙ sym (one_issued s (n - (i + 1)))
    ∙ ap (λ k. replay s (replicate k Issued)) (let k : suc (n - (i + 1)) ≡ n - i = omega (arith, l) in k)
    ∙ h

pub run_done : (s : State) (i n : ℕ) (o : Option State) → n ≤ i → replay s (replicate (n - i) Issued) ≡ o → o ≡ Some s
unfolding replay
run_done s i n o l h = sym h ∙ ap (λ k. replay s (replicate k Issued)) (let k : n - i ≡ 0 = omega (arith, l) in k)

pub run_halted : (s : State) (i n : ℕ) (o : Option State) → is_some s.halt ≡ true
    → replay s (replicate (n - i) Issued) ≡ o → o ≡ Some s
run_halted s i n o e h = sym h ∙ halted_run s (n - i) e

-- ---- one entry ----

pub issues_done : (s t : State) (n : ℕ) (e : Entry) → e ≡ Count n → replay s (replicate n Issued) ≡ Some t
    → replay s (steps_of (e ∷ [])) ≡ Some t
unfolding steps_of
issues_done s t n e m h = ap (λ x. replay s (steps_of (x ∷ []))) m ∙ ap (replay s) (append-nil (replicate n Issued)) ∙ h

-- an entry of one step, made or refused
pub single_answered : {K : Type 0} (r : Result K Refusal) (s t v : State) (x : LogStep) (e : Entry) (b : Bool)
    (k : Refusal) → steps_of (e ∷ []) ≡ x ∷ [] → do_log_step s x ≡ cond b (Some v) None
    → MatchResult r (λ y. b ≡ true) (λ refusal. (b ≡ false) × (refusal ≡ k))
    → MatchResult r (λ y. t ≡ v) (λ refusal. t ≡ s) → OnOk r (replay s (steps_of (e ∷ [])) ≡ Some t)
unfolding replay
single_answered r s t v x e b k m d a h = grind arith

pub single_refused : {K : Type 0} (r : Result K Refusal) (s t v : State) (x : LogStep) (e : Entry) (b : Bool)
    (k : Refusal) → steps_of (e ∷ []) ≡ x ∷ [] → step_refusal (length s.memory) x ≡ cond b None (Some k)
    → MatchResult r (λ y. b ≡ true) (λ refusal. (b ≡ false) × (refusal ≡ k))
    → MatchResult r (λ y. t ≡ v) (λ refusal. t ≡ s)
    → IfErr r (λ refusal. IsRefusedAt s (steps_of (e ∷ [])) t refusal)
unfolding replay
single_refused (Ok y) s t v x e b k m d a h = tt
single_refused (Err y) s t v x e b k m d a h = record {
  before = [];
  at = x;
  after = [];
  steps_are = m;
  reached = ap Some (sym h);
  refused = ap (λ u. step_refusal (length u.memory) x) h ∙ d ∙ ap (λ c. cond c None (Some k)) a.0
      ∙ ap Some (sym a.1);
}

pub either_way : {K : Type 0} (r : Result K Refusal) (s : State) → MatchResult r (λ y. s ≡ s) (λ refusal. s ≡ s)
either_way (Ok y) s = refl
either_way (Err y) s = refl

-- ---- entries one after another ----

pub replay-append : (s : State) (xs ys : List LogStep)
    → replay s (xs ++ ys) ≡ option_and_then (λ t. replay t ys) (replay s xs)
unfolding replay
replay-append s [] ys = refl
replay-append s (x ∷ xs) ys = after (do_log_step s x) (λ t. replay-append t xs ys)
  where
    after : (o : Option State) → ((t : State) → replay t (xs ++ ys) ≡ option_and_then (λ u. replay u ys) (replay t xs))
        → option_and_then (λ t. replay t (xs ++ ys)) o ≡ option_and_then (λ u. replay u ys)
        (option_and_then (λ t. replay t xs) o)
    after None h = refl
    after (Some t) h = h t

-- a replay can be continued from the state that it reached
pub replay_on : (s t : State) (xs ys : List LogStep) → replay s xs ≡ Some t → replay s (xs ++ ys) ≡ replay t ys
replay_on s t xs ys h = replay-append s xs ys ∙ ap (λ o. option_and_then (λ u. replay u ys) o) h

-- the steps of a list of entries are the steps before an entry, its own and the steps after it
split_steps : (es : List Entry) (i : ℕ) (d : Entry) → i < length es → steps_of es ≡ steps_of (take i es)
    ++ (steps_of (get_or es i d ∷ []) ++ steps_of (drop (suc i) es))
unfolding steps_of
split_steps [] i d h = absurd (omega (arith, h))
split_steps (e ∷ es) zero d h = steps-append (e ∷ []) es
split_steps (e ∷ es) (suc i) d h = grind (arith, split_steps es i d (omega (arith, h)), steps-append, append_assoc)

pub taken_steps : (es : List Entry) (i : ℕ) (d : Entry) → i < length es → steps_of (take (suc i) es) ≡ steps_of
    (take i es)
    ++ steps_of (get_or es i d ∷ [])
unfolding steps_of
taken_steps [] i d h = absurd (omega (arith, h))
taken_steps (e ∷ es) zero d h = refl
taken_steps (e ∷ es) (suc i) d h = grind (arith, taken_steps es i d (omega (arith, h)), steps-append, append_assoc)

pub replay_begun : (s : State) (es : List Entry) → replay s (steps_of (take 0 es)) ≡ Some s
unfolding replay steps_of
replay_begun s es = refl

pub replay_more : (s t u : State) (es : List Entry) (i : ℕ) (d e : Entry) → i < length es → e ≡ get_or es i d
    → replay s (steps_of (take i es)) ≡ Some t → replay t (steps_of (e ∷ [])) ≡ Some u
    → replay s (steps_of (take (i + 1) es)) ≡ Some u
replay_more s t u es i d e l k h j =
    ap (λ n. replay s (steps_of (take n es))) (add-one i)
    ∙ ap (replay s) (taken_steps es i d l)
    ∙ replay_on s t (steps_of (take i es)) (steps_of (get_or es i d ∷ [])) h
    ∙ ap (λ x. replay t (steps_of (x ∷ []))) (sym k)
    ∙ j

-- ---- a refused step ----

refused_step : (s : State) (x : LogStep) (k : Refusal) → step_refusal (length s.memory) x ≡ Some k
    → do_log_step s x ≡ None
unfolding do_log_step step_refusal
refused_step s x k h = grind arith

-- a replay with a refused step reaches no state
pub refused_replay : (s t : State) (xs : List LogStep) (k : Refusal) → IsRefusedAt s xs t k → replay s xs ≡ None
unfolding replay
refused_replay s t xs k r = cc (replay_on s t r.before (r.at ∷ r.after) r.reached, refused_step t r.at k r.refused)

-- the entry of the list that is refused
pub refused_at : (s t u : State) (es : List Entry) (xs : List LogStep) (i : ℕ) (d e : Entry) (k : Refusal)
    → i < length es → e ≡ get_or es i d → steps_of es ≡ xs → replay s (steps_of (take i es)) ≡ Some t
    → IsRefusedAt t (steps_of (e ∷ [])) u k → IsRefusedAt s xs u k
refused_at s t u es xs i d e k l n m h r = record {
  before = steps_of (take i es) ++ r.before;
  at = r.at;
  after = r.after ++ steps_of (drop (suc i) es);
  steps_are =
      sym m
      ∙ split_steps es i d l
      ∙ ap (λ x. steps_of (take i es) ++ (steps_of (x ∷ []) ++ steps_of (drop (suc i) es))) (sym n)
      ∙ ap (λ y. steps_of (take i es) ++ (y ++ steps_of (drop (suc i) es))) r.steps_are
      ∙ ap (λ y. steps_of (take i es) ++ y)
      (append_assoc r.before (r.at ∷ r.after) (steps_of (drop (suc i) es)))
      ∙ sym (append_assoc (steps_of (take i es)) r.before (r.at ∷ (r.after ++ steps_of (drop (suc i) es))));
  reached = replay_on s t (steps_of (take i es)) r.before h ∙ r.reached;
  refused = r.refused;
}
