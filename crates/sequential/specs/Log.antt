-- The log as its callers see it: the steps, and the room for more.
-- Source: ours.
use Rattle.std.specs.Prelude.{ℕ, suc, ◌+◌, Bool, true, false, List, [], ◌∷◌, ◌++◌, replicate}
use Rattle.sequential.specs.declared.log.Entry.{Entry}
use Rattle.sequential.specs.declared.log.Entry.TheVariants.{Issued as Count, Exchange, PpRead, PpWrite}
use Rattle.sequential.specs.Replay.{LogStep, Issued, Exchanged, ReadAt, Wrote}

-- a log: the steps that the machine made, and the room for more
pub record Logged : Type 0 where
  -- instructions, exchanges and peripheral accesses, in the order in which they were made
  pub steps : List LogStep
  -- the number of entries that can be added without allocating memory
  pub room : ℕ

-- the steps of a log's entries; a count is that many instructions
unfoldable pub steps_of : List Entry → List LogStep
steps_of [] = []
steps_of (Count n ∷ es) = replicate n Issued ++ steps_of es
steps_of (Exchange n ∷ es) = Exchanged n ∷ steps_of es
steps_of (PpRead a ∷ es) = ReadAt a ∷ steps_of es
steps_of (PpWrite a w ∷ es) = Wrote a w ∷ steps_of es

-- one more instruction before these entries: added to the first entry if it is a count, otherwise a count of its own
abbrev pub one_before : List Entry → List Entry
one_before [] = Count 1 ∷ []
one_before (Count n ∷ es) = Count (n + 1) ∷ es
one_before (Exchange n ∷ es) = Count 1 ∷ Exchange n ∷ es
one_before (PpRead a ∷ es) = Count 1 ∷ PpRead a ∷ es
one_before (PpWrite a w ∷ es) = Count 1 ∷ PpWrite a w ∷ es

-- the shortest entries of these steps: no count is 0, and no two counts are adjacent
unfoldable pub entries_of : List LogStep → List Entry
entries_of [] = []
entries_of (Issued ∷ steps) = one_before (entries_of steps)
entries_of (Exchanged n ∷ steps) = Exchange n ∷ entries_of steps
entries_of (ReadAt a ∷ steps) = PpRead a ∷ entries_of steps
entries_of (Wrote a w ∷ steps) = PpWrite a w ∷ entries_of steps

-- the last step is an instruction, so one more instruction needs no entry of its own
unfoldable pub ends_issuing : List LogStep → Bool
ends_issuing [] = false
ends_issuing (Issued ∷ []) = true
ends_issuing (Exchanged n ∷ []) = false
ends_issuing (ReadAt a ∷ []) = false
ends_issuing (Wrote a w ∷ []) = false
ends_issuing (s ∷ t ∷ steps) = ends_issuing (t ∷ steps)

-- the number of instructions; E3 budget compares it with the budget
unfoldable pub issued : List LogStep → ℕ
issued [] = 0
issued (Issued ∷ xs) = suc (issued xs)
issued (Exchanged n ∷ xs) = issued xs
issued (ReadAt a ∷ xs) = issued xs
issued (Wrote a w ∷ xs) = issued xs

-- the number of instructions after the last step that isn't an instruction, if n instructions came directly before
-- these steps
unfoldable pub run_after : ℕ → List LogStep → ℕ
run_after n [] = n
run_after n (Issued ∷ xs) = run_after (n + 1) xs
run_after n (Exchanged k ∷ xs) = run_after 0 xs
run_after n (ReadAt a ∷ xs) = run_after 0 xs
run_after n (Wrote a w ∷ xs) = run_after 0 xs

-- the number of consecutive instructions at the end of the log; 0 if its last step isn't an instruction
abbrev pub last_run : List LogStep → ℕ
last_run xs = run_after 0 xs
