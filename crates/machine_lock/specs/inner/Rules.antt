-- The rule of the progress word, which counts the steps of one machine's log: each pass knows a beginning of that log,
-- and no step belongs to two passes. Source: ours.
use Rattle.std.specs.Prelude.{◌≡◌, ℕ, ◌<◌, ◌%◌, ◌^◌, Bool, true, false, List, [], ◌∷◌, ◌++◌, length}
use mathlib.Core.Option.{some}
use lib.ListN.{get_elem?}
use Rattle.atomic_table.specs.Seated.{TableId}
use Rattle.atomic_table.specs.Table.{State}
use Rattle.atomic_table.specs.declared.shared.Seat.{Seat}
use Rattle.sequential.specs.Replay.{LogStep}
use Rattle.program_order.specs.Processor.{Processor}
use Rattle.machine_lock.specs.CallerKnowledge.{Booted, booted_with, booted_by, StartsWith, is_in, AreApart}

-- the name of no table
abbrev pub no_table : TableId
no_table =
    record { words = 0; slots = 0; views_name = 0; atom = 0; block = 0; offset = 0; slot_names = [] }

-- what a machine was booted with, and the steps of its log since boot
pub record History : Type 0 where
  pub booted : Booted
  pub log : List LogStep

abbrev pub history : Booted → List LogStep → History
history booted log = record { booted = booted; log = log }

-- the history of a machine
abbrev pub past : Processor → History
past w = history (booted_by w) w.log

abbrev pub nothing : History
nothing = history (booted_with [] 0) []

-- the first history continues the second
abbrev pub Continues : History → History → Type 0
Continues h k = (k.booted ≡ h.booted) × StartsWith h.log k.log

-- the knowledge of a pass
pub record Knowing : Type 0 where
  -- whether it is the machine's pass
  pub keeps : Bool
  -- whether it knows a history yet
  pub knows : Bool
  -- that history, and the positions of the pass's own steps in it
  pub seen : History
  pub mine : List ℕ
  -- the same two of the pass that it took in
  pub told : History
  pub theirs : List ℕ

abbrev pub knowing : Bool → Bool → History → List ℕ → History → List ℕ → Knowing
knowing keeps knows seen mine told theirs =
    record { keeps = keeps; knows = knows; seen = seen; mine = mine; told = told; theirs = theirs }

-- the first pass, before the word belongs to a machine
abbrev pub fresh : Knowing
fresh = knowing true false nothing [] nothing []

-- a pass that gave away all that it knew
abbrev pub spent : Knowing
spent = knowing false false nothing [] nothing []

-- the machine's pass
abbrev pub keeper : History → Knowing
keeper h = knowing true true h [] h []

-- a caller's pass
abbrev pub caller : History → List ℕ → Knowing
caller h mine = knowing false true h mine h []

-- the knowledge of a pass that took in another one, with the other's history and positions
abbrev pub with_told : Knowing → Knowing → Knowing
with_told v w = knowing v.keeps v.knows v.seen v.mine w.seen w.mine

-- the two parts when the pass that was taken in is handed back: both have seen the same history
abbrev pub kept_back : Knowing → Knowing
kept_back v = knowing v.keeps v.knows v.seen v.mine v.seen []

abbrev pub handed_back : Knowing → Knowing
handed_back v = knowing false v.knows v.seen v.theirs v.seen []

-- a new pass that has seen the same history and has no step of its own
abbrev pub shared_out : Knowing → Knowing
shared_out v = knowing false v.knows v.seen [] v.seen []

-- these are positions in the log, and all belong to one pass
abbrev pub BelongTo : (ℕ → ℕ) → ℕ → List LogStep → List ℕ → Type 0
BelongTo owner by log positions = (p : ℕ) → is_in p positions ≡ true → (p < length log) × (owner p ≡ by)

-- the rule for the pass with this number
pub record Fits (keeper_at : ℕ) (begun : Bool) (h : History) (owner : ℕ → ℕ) (by : ℕ) (v : Knowing) : Type 0 where
  pub keeps : v.keeps ≡ true → (by ≡ keeper_at) × (v.knows ≡ begun) × (begun ≡ true → v.seen ≡ h)
  pub knows : v.knows ≡ true → (begun ≡ true) × Continues h v.seen × Continues h v.told
  pub mine : BelongTo owner by h.log v.mine
  pub theirs : BelongTo owner by h.log v.theirs
  pub apart : AreApart v.mine v.theirs

-- the rule: there is one history, and once the word belongs to a machine, the word is the history's length. The
-- machine's pass knows the whole history, every other pass knows a beginning of it or nothing, and each position in it
-- has one owner
pub record IsCounted (s : State ℕ Knowing) : Type 0 where
  pub keeper_at : ℕ
  pub begun : Bool
  pub h : History
  pub owner : ℕ → ℕ
  pub word : s.words ≡ (length h.log % 2 ^ 64) ∷ []
  pub empty : begun ≡ false → h.log ≡ []
  pub fits : (by : ℕ) → (v : Knowing) → get_elem? s.views by ≡ some v → Fits keeper_at begun h owner by v

-- the machine's pass added a step for the pass that it took in
abbrev pub Added : LogStep → Knowing → Knowing → Type 0
Added x v w =
    (w ≡ knowing v.keeps v.knows (history v.seen.booted (v.seen.log ++ x ∷ [])) v.mine v.told
    (v.theirs ++ length v.seen.log ∷ []))
    × Continues v.seen v.told

-- the pass has seen the history, and no step belongs both to it and to the pass that it took in
abbrev pub Looked : Knowing → Knowing → Type 0
Looked v w =
    (w ≡ knowing v.keeps v.knows w.seen v.mine v.told v.theirs) × Continues w.seen v.seen × Continues w.seen v.told
    × (v.keeps ≡ true → w.seen ≡ v.seen) × AreApart v.mine v.theirs

-- the pass is the machine's pass to this word, and knows this history
abbrev pub IsKeeper : TableId → History → Seat ℕ Knowing → Type 0
IsKeeper table h pass = (pass.table_id ≡ table) × (pass.me ≡ (keeper h, []))

-- the pass is a caller's pass to this word, which knows this history and owns the steps at these positions
abbrev pub IsCaller : TableId → History → List ℕ → Seat ℕ Knowing → Type 0
IsCaller table h mine pass = (pass.table_id ≡ table) × (pass.me ≡ (caller h mine, []))
