-- A run reaches no exchange whose sixteen words aren't within memory, if the words of all its requests are.
use Rattle.std.proofs.Common.{◌≡◌, ℕ, zero, suc, Bool, true, false, ◌&&◌, cond, List, [], ◌∷◌, ◌++◌}
use Rattle.std.proofs.Common.{Option, Some, None, length, refl, sym, ap, subst, ◌∙◌}
use Rattle.std.specs.Prelude.{All, IfSome, nat_le, nat_lt}
use Rattle.std.specs.List.{filter}
use Rattle.std.proofs.lemmas.Bool.{false≢true}
use Rattle.std.proofs.lemmas.List.Elements.{All-nil, All-cons, All-head, All-tail, All-drop, All-filter}
use Rattle.sequential_run.specs.Requests.{KeepsTies}
use Rattle.program_order.proofs.keeping.Sizes.{replay_size}
use Rattle.relocation.specs.Relocation.{package_fits}
use Rattle.sequential.specs.Log.{issued}
use Rattle.sequential.specs.Replay.{Exchanged, boot, replay}
use Rattle.sequential.specs.Swap.{swap}
use Rattle.job_deck.proofs.Fitting.{Lies}
use Rattle.sequential_run.specs.Run.{IsUnfitRun}
use Rattle.sequential_run.specs.Turns.{Moment, Turn, Exchanges, Asks, AsksFree, Issues, Ends, begun, first_due}
use Rattle.sequential_run.specs.Turns.{is_going, is_in_mid_word, issue_or_end, next_turn, take_turn, turn_by, turns}
use Rattle.sequential_run.proofs.Ending.{turns_replay}
use Rattle.sequential_run.proofs.Ordered.{tie, tied}

-- the packages of all requests of a list are within a memory of this size
abbrev AllLie : ℕ → List (ℕ × ℕ) → Type 0
AllLie size asks = All (λ ask. Lies size ask.0) asks

-- ---- what is asked for in order is what was given ----

module _ (P : ℕ × ℕ → Type 0) where
  first_kept : (b : Bool) (x : ℕ × ℕ) (xs : List (ℕ × ℕ)) → b ≡ true → All P (cond b (x ∷ xs) xs) → P x
  first_kept true x xs e h = All-head P x xs h
  first_kept false x xs e h = cc

  rest_kept : (b : Bool) (x : ℕ × ℕ) (xs : List (ℕ × ℕ)) → All P (cond b (x ∷ xs) xs) → All P xs
  rest_kept true x xs h = All-tail P x xs h
  rest_kept false x xs h = h

  -- each request is among those with the same number of instructions
  all_by_ties : (asks : List (ℕ × ℕ)) → ((z : ℕ × ℕ) → All P (filter (tie z) asks)) → All P asks
  all_by_ties [] h = All-nil P
  all_by_ties (x ∷ asks) h =
      All-cons P x asks (first_kept (tie x x) x (filter (tie x) asks) (tied x x refl) (h x))
      (all_by_ties asks (λ z. rest_kept (tie z x) x (filter (tie z) asks) (h z)))

  -- a property of each given request holds for each ordered request
  all_ordered : (given asks : List (ℕ × ℕ)) → KeepsTies given asks → All P given → All P asks
  all_ordered given asks k h = all_by_ties asks (λ z. subst (All P) (sym (k z)) (All-filter (tie z) P given h))

-- ---- turn by turn ----

-- the packages of the waiting request and of the remaining requests are within a memory of this size
record Fits (size : ℕ) (m : Moment) : Type 0 where
  pub waiting : IfSome m.waiting (Lies size)
  pub asks : AllLie size m.asks
  pub free : All (Lies size) m.free

-- the package of the next turn is within memory
abbrev TurnFits : ℕ → Turn → Type 0
TurnFits size (Exchanges n) = Lies size n
TurnFits size (Asks n) = Lies size n
TurnFits size (AsksFree n) = Lies size n
TurnFits size Issues = Unit {0}
TurnFits size Ends = Unit {0}

due_fits : (size done : ℕ) (asks : List (ℕ × ℕ)) → AllLie size asks → IfSome (first_due done asks) (Lies size)
unfolding first_due
due_fits size done [] h = tt
due_fits size done (ask ∷ asks) h = if_due (nat_le ask.1 done) (All-head (λ ask. Lies size ask.0) ask asks h)
  where
    if_due : (b : Bool) → Lies size ask.0 → IfSome (cond b (Some ask.0) None) (Lies size)
    if_due true l = l
    if_due false l = tt

go_fits : (size : ℕ) (b : Bool) → TurnFits size (cond b Issues Ends)
go_fits size true = tt
go_fits size false = tt

by_fits : (size : ℕ) (waiting : Option ℕ) (mid : Bool) (due : Option ℕ) (free : List ℕ) (go : Turn)
    → IfSome waiting (Lies size) → IfSome due (Lies size) → All (Lies size) free → TurnFits size go
    → TurnFits size (turn_by waiting mid due free go)
unfolding turn_by
by_fits size (Some n) true due free go w d f g = g
by_fits size (Some n) false due free go w d f g = w
by_fits size None mid (Some n) free go w d f g = d
by_fits size None mid None (n ∷ ns) go w d f g = All-head (Lies size) n ns f
by_fits size None mid None [] go w d f g = g

next_fits : (size budget : ℕ) (m : Moment) → Fits size m → TurnFits size (next_turn budget m)
unfolding next_turn issue_or_end
next_fits size budget m f =
    by_fits size m.waiting (is_in_mid_word m.state) (first_due (issued m.log) m.asks) m.free
    (issue_or_end budget m.state (issued m.log)) f.waiting (due_fits size (issued m.log) m.asks f.asks) f.free
    (go_fits size (is_going m.state && nat_lt (issued m.log) budget))

turn_fits : (size : ℕ) (m : Moment) (t : Turn) → Fits size m → TurnFits size t → Fits size (take_turn m t)
unfolding take_turn
turn_fits size m (Exchanges n) f g = elim (package_fits n (length m.state.memory)) as (λ b. Fits size
    (cond b (record m { state = swap n m.state; log = m.log ++ Exchanged n ∷ []; waiting = None }) m)) [
      | true ↦ record { waiting = tt; asks = f.asks; free = f.free }
      | false ↦ f
    ]
turn_fits size m (Asks n) f g =
    record { waiting = g; asks = All-drop (λ ask. Lies size ask.0) 1 m.asks f.asks; free = f.free }
turn_fits size m (AsksFree n) f g =
    record { waiting = g; asks = f.asks; free = All-drop (Lies size) 1 m.free f.free }
turn_fits size m Issues f g = record { waiting = f.waiting; asks = f.asks; free = f.free }
turn_fits size m Ends f g = f

turns_fit : (size budget n : ℕ) (m : Moment) → Fits size m → Fits size (turns budget n m)
unfolding turns
turns_fit size budget zero m f = f
turns_fit size budget (suc n) m f =
    turns_fit size budget n (take_turn m (next_turn budget m))
    (turn_fits size m (next_turn budget m) f (next_fits size budget m f))

-- ---- from the beginning ----

begun_fits : (size : ℕ) (memory : List ℕ) (asks : List (ℕ × ℕ)) (free : List ℕ) → AllLie size asks
    → All (Lies size) free → Fits size (begun memory asks free)
unfolding begun
begun_fits size memory asks free a f = record { waiting = tt; asks = a; free = f }

-- memory keeps its size
turns_size : (budget n : ℕ) (memory : List ℕ) (asks : List (ℕ × ℕ)) (free : List ℕ)
    → length (turns budget n (begun memory asks free)).state.memory ≡ length memory
unfolding boot begun replay
turns_size budget n memory asks free =
    replay_size (boot memory) (turns budget n (begun memory asks free)).log
    (turns budget n (begun memory asks free)).state
    (turns_replay budget n (boot memory) (begun memory asks free) refl)

-- a run reaches no exchange whose sixteen words aren't within memory, if the words of all its requests are
pub never_unfit : (memory : List ℕ) (start : ℕ) (after : List (ℕ × ℕ)) (free : List ℕ) (budget : ℕ)
    → package_fits start (length memory) ≡ true → All (λ ask. package_fits ask.0 (length memory) ≡ true) after
    → All (λ at. package_fits at (length memory) ≡ true) free → IsUnfitRun memory start after free budget → ⊥
never_unfit memory start after free budget s a f run =
    let u = run.unfit in
    let given = All-cons (λ ask. Lies (length memory) ask.0) (start, 0) after s a in
    let first = begun_fits (length memory) memory run.asks free
    (all_ordered (λ ask. Lies (length memory) ask.0) ((start, 0) ∷ after) run.asks run.ordered.same given) f in
    let last = subst (Fits (length memory)) u.reached (turns_fit (length memory) budget u.count _ first) in
    let fits = subst (TurnFits (length memory)) u.exchanges (next_fits (length memory) budget u.last last) in
    let size : length u.last.state.memory ≡ length memory =
    ap (λ m. length m.state.memory) (sym u.reached) ∙ turns_size budget u.count memory run.asks free in
    false≢true (sym u.unfit ∙ ap (package_fits u.at) size ∙ fits)
