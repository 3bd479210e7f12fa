-- A caller's knowledge of a machine under its lock, and which steps of the log are the caller's own. Source: ours.
use Rattle.std.specs.Prelude.{◌≡◌, ◌≢◌, ◌==◌, ◌||◌, ℕ, suc, Bool, true, false, List, [], ◌∷◌, ◌++◌, Option, Some}
use Rattle.std.specs.Prelude.{length, slice_index_or, take}
use Rattle.instructions.specs.declared.refusal.Refusal.{Refusal}
use Rattle.instructions.specs.declared.refusal.Refusal.TheVariants.{Budget}
use Rattle.sequential.specs.Log.{issued}
use Rattle.sequential.specs.declared.state.State.{State}
use Rattle.sequential.specs.Replay.{LogStep, Issued, boot, replay}
use Rattle.sequential.specs.UnitIssues.{taken}
use Rattle.program_order.specs.Processor.{Processor}
use Rattle.program_order.specs.declared.event.Note.{Note}
use Rattle.program_order.specs.Telling.{IsNoted, IsWhy}

-- what a machine was booted with: its memory, and how many instructions it may issue
pub record Booted : Type 0 where
  pub memory : List ℕ
  pub budget : ℕ

abbrev pub booted_with : List ℕ → ℕ → Booted
booted_with memory budget = record { memory = memory; budget = budget }

abbrev pub booted_by : Processor → Booted
booted_by w = booted_with w.boot_memory w.budget

-- a caller's knowledge: what the machine was booted with, the steps of its log that the caller has seen, from boot on,
-- and the positions of the caller's own steps among them
pub record Known : Type 0 where
  pub booted : Booted
  pub log : List LogStep
  pub mine : List ℕ

abbrev pub known : Booted → List LogStep → List ℕ → Known
known booted log mine = record { booted = booted; log = log; mine = mine }

-- the first list of steps begins with the second
abbrev pub StartsWith : List LogStep → List LogStep → Type 0
StartsWith steps front = (rest : List LogStep) × (steps ≡ front ++ rest)

-- the position is in the list
abbrev pub is_in : ℕ → List ℕ → Bool
is_in p [] = false
is_in p (x ∷ xs) = (p == x) || is_in p xs

-- no position is in both lists
abbrev pub AreApart : List ℕ → List ℕ → Type 0
AreApart xs ys = (p : ℕ) → is_in p xs ≡ true → is_in p ys ≡ true → ⊥

-- the caller made the step: it is the last of the steps seen, and its position joins the caller's own; the steps before
-- it begin with those seen earlier
abbrev pub IsMade : LogStep → Known → Known → Type 0
IsMade x old new =
    (before : List LogStep) × StartsWith before old.log
    × (new ≡ known old.booted (before ++ x ∷ []) (old.mine ++ length before ∷ []))

-- the caller made no step, and has seen the log, which begins with what was seen earlier
abbrev pub Learnt : Known → Known → Type 0
Learnt old new = StartsWith new.log old.log × (new ≡ known old.booted new.log old.mine)

-- the log has a replay: from boot on, each of its steps can be made, and together they lead to a state
abbrev pub HasReplay : Known → Type 0
HasReplay k = (s : State) × (replay (boot k.booted.memory) k.log ≡ Some s)

-- the last step is an issue, and this is its answer: a reservation if and only if the instruction that the earlier
-- steps lead to goes to a unit; the reservation is of a unit of its kind, and its number follows from the log
abbrev pub IsNoteOf : Known → Option Note → Type 0
IsNoteOf k note =
    (before : List LogStep) × (k.log ≡ before ++ Issued ∷ []) × (s : State)
    × (replay (boot k.booted.memory) before ≡ Some s) × IsNoted s (taken (boot k.booted.memory) k.log) note

-- the word at this address, in the state to which the steps lead
abbrev pub IsWordOf : Known → ℕ → ℕ → Type 0
IsWordOf k at word =
    (s : State) × (replay (boot k.booted.memory) k.log ≡ Some s) × (word ≡ slice_index_or s.memory at 0)

-- what the refusal says about the state to which the log leads; and for E3, budget, that as many instructions were
-- issued as the machine was booted to issue
pub record IsWhyOf (k : Known) (refusal : Refusal) : Type 0 where
  pub state : State
  pub led : replay (boot k.booted.memory) k.log ≡ Some state
  pub why : IsWhy state refusal
  pub budget : refusal ≡ Budget → issued k.log ≡ k.booted.budget

-- how many instructions up to this position go to a unit; if the instruction at this position does, this is its
-- reservation's number
abbrev pub number_at : List ℕ → List LogStep → ℕ → ℕ
number_at boot_memory log position = taken (boot boot_memory) (take (suc position) log)

-- the step at this position executes an instruction that goes to a unit
abbrev pub IsTaken : List ℕ → List LogStep → ℕ → Type 0
IsTaken boot_memory log position =
    number_at boot_memory log position ≡ suc (taken (boot boot_memory) (take position log))

-- no reservation made by one caller's steps has the number of a reservation made by the other's
abbrev pub NumbersApart : Known → Known → Type 0
NumbersApart one other =
    (p : ℕ) → (q : ℕ) → is_in p one.mine ≡ true → is_in q other.mine ≡ true
    → IsTaken one.booted.memory one.log p → IsTaken one.booted.memory one.log q
    → number_at one.booted.memory one.log p ≢ number_at one.booted.memory one.log q
