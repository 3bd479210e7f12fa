-- The results of calls from C: as much of a command's output as fits, the length of that output, and the exit status.
-- Source: ours.
use Rattle.std.specs.Prelude.{◌≡◌, ◌≤◌, ◌⊎◌, ℕ, ◌++◌, List, [], length, take, drop, min, Option, Some, None}
use Rattle.std.specs.Prelude.{Result, Ok, Err, IsUtf8, false}
use Rattle.instructions.specs.declared.refusal.Refusal.{Refusal}
use Rattle.instructions.specs.declared.refusal.Refusal.TheVariants as refusals
use Rattle.sequential.specs.declared.state.State.{State}
use Rattle.deck.specs.Deck.{deck}
use Rattle.deck.specs.Reading.{is_read_failure}
use Rattle.job_deck.specs.Listing.{Lists}
use Rattle.job_deck.specs.Replaying.{Replays}
use Rattle.job_deck.specs.SessionResult.{Performs}
use Rattle.job_deck.specs.Running.{RunsSequentially}
use Rattle.operator_terms.specs.Status.{status_of, code_of, fault_of, fault_status}
use Rattle.operator_terms.specs.declared.fault.ProgramFault.{ProgramFault}
use Rattle.operator_terms.specs.declared.fault.ProgramFault.TheVariants as faults
use Rattle.operator_terms.specs.declared.status.Status.{Status}
use Rattle.operator_terms.specs.declared.status.Status.TheVariants.{Stopped, Usage}
use Rattle.embedding.specs.declared.outcome.Outcome.{Outcome}

-- the fault of a command that ends at this refusal. Commands write to memory here, so a failed write means that memory
-- ran out
abbrev pub fault_in_memory : Refusal → ProgramFault
fault_in_memory refusals.Write = faults.OutOfMemory
fault_in_memory other = fault_of other

-- the exit status of a command with this end
abbrev pub end_code : Result Status ProgramFault → ℕ
end_code (Ok status) = code_of status
end_code (Err fault) = code_of (fault_status fault)

-- a buffer with as much of a text as fits, and the bytes after that as they were
abbrev pub filled : List ℕ → List ℕ → List ℕ
filled text room = take (min (length text) (length room)) text ++ drop (min (length text) (length room)) room

-- the length of the fault line. Only a fault has a fault line, of at most 64 bytes
abbrev pub IsTold : Result Status ProgramFault → ℕ → Type 0
IsTold (Ok status) told = told ≡ 0
IsTold (Err fault) told = told ≤ 64

-- a call has the outcome of a command with this output and this end
pub record HandsOver (outcome : Outcome) (ended : Result Status ProgramFault) (text old new : List ℕ) : Type 0 where
  -- as much of the text as fits was copied
  pub output : new ≡ filled text old
  pub printed : outcome.printed ≡ length text
  pub told : IsTold ended outcome.told
  pub status : outcome.status ≡ end_code ended

-- the end of a command whose status says nothing about the machine
abbrev pub plain_end : Result (Unit {0}) Refusal → Result Status ProgramFault
plain_end (Ok x) = Ok Stopped
plain_end (Err refusal) = Err (fault_in_memory refusal)

-- the end of a replay
abbrev pub replay_end : Result (Option State) Refusal → Result Status ProgramFault
replay_end (Ok (Some s)) = Ok (status_of s.fault s.halt)
replay_end (Ok None) = Err faults.BadLog
replay_end (Err refusal) = Err (fault_in_memory refusal)

-- the end of a sequential run
abbrev pub run_end : Result State Refusal → Result Status ProgramFault
run_end (Ok s) = Ok (status_of s.fault s.halt)
run_end (Err refusal) = Err (fault_in_memory refusal)

-- the outcome of a call that lists the deck in these bytes, and the bytes that it copies. No read fails
abbrev pub IsListed : List ℕ → Outcome → List ℕ → List ℕ → Type 0
IsListed input outcome old new =
    (found : Result (Unit {0}) Refusal) × (rest : List ℕ) × (text : List ℕ)
    × Lists found (deck input) rest (Some []) (Some text) × (is_read_failure found ≡ false)
    × HandsOver outcome (plain_end found) text old new

-- the outcome of a call that replays the log in this text on the deck in these bytes, and the bytes that it copies
abbrev pub Replayed : List ℕ → List ℕ → Outcome → List ℕ → List ℕ → Type 0
Replayed input log outcome old new =
    (found : Result (Option State) Refusal) × (rest : List ℕ) × (text : List ℕ)
    × Replays found (deck input) rest log (Some []) (Some text) × (is_read_failure found ≡ false)
    × HandsOver outcome (replay_end found) text old new

-- the same for the bytes of a log. Bytes that aren't UTF-8 are a bad log
abbrev pub IsReplayed : List ℕ → List ℕ → Outcome → List ℕ → List ℕ → Type 0
IsReplayed input log outcome old new =
    Replayed input log outcome old new ⊎ (¬ (IsUtf8 log) × HandsOver outcome (Err faults.BadLog) [] old new)

-- the outcome of a call that runs the deck in these bytes one instruction at a time, and the bytes that it copies
abbrev pub Ran : List ℕ → ℕ → Outcome → List ℕ → List ℕ → Type 0
Ran input budget outcome old new =
    (found : Result State Refusal) × (rest : List ℕ) × (text : List ℕ)
    × RunsSequentially found (deck input) budget rest (Some []) (Some text) × (is_read_failure found ≡ false)
    × HandsOver outcome (run_end found) text old new

-- the outcome of a call with a number that no budget may have
abbrev pub RefusesBudget : ℕ → Outcome → List ℕ → List ℕ → Type 0
RefusesBudget budget outcome old new =
    ¬ ((1 ≤ budget) × (budget ≤ 10000000)) × HandsOver outcome (Ok Usage) [] old new

-- the same for any number as the budget
abbrev pub HasRun : List ℕ → ℕ → Outcome → List ℕ → List ℕ → Type 0
HasRun input budget outcome old new = Ran input budget outcome old new ⊎ RefusesBudget budget outcome old new

-- the outcome of a call that answers the events of the schedule after the deck in these bytes, and the bytes that it
-- copies
abbrev pub Performed : List ℕ → ℕ → Outcome → List ℕ → List ℕ → Type 0
Performed input budget outcome old new =
    (found : Result (Unit {0}) Refusal) × (rest : List ℕ) × (text : List ℕ)
    × Performs found budget (deck input) rest (Some []) (Some text) × (is_read_failure found ≡ false)
    × HandsOver outcome (plain_end found) text old new

-- the same for any number as the budget
abbrev pub IsSession : List ℕ → ℕ → Outcome → List ℕ → List ℕ → Type 0
IsSession input budget outcome old new = Performed input budget outcome old new ⊎ RefusesBudget budget outcome old new
