-- The output of the program for a run and for a replay, and its end.
-- Source: ours.
use Rattle.std.specs.Prelude.{◌≡◌, ◌⊎◌, ℕ, Bool, true, false, List, Option, Some, None, Result, Ok, Err}
use Rattle.std.specs.Io.KnownBytes.{Keeps, Appends}
use Rattle.instructions.specs.declared.refusal.Refusal.{Refusal}
use Rattle.sequential.specs.declared.state.State.{State}
use Rattle.sequential.specs.Log.{entries_of}
use Rattle.sequential.specs.Replay.{LogStep}
use Rattle.device_text.specs.Device.{WritesFront}
use Rattle.deck.specs.Deck.{Reading, Good, Bad}
use Rattle.deck.specs.declared.deck.Deck.{Deck}
use Rattle.job_deck.specs.Dump.{dump_text}
use Rattle.job_deck.specs.Replaying.{Replays, ReplaysFollowing}
use Rattle.job_deck.specs.Running.{RunsSequentially, asks_after}
use Rattle.sequential_run.specs.Run.{IsRun}
use Rattle.operator_terms.specs.declared.fault.ProgramFault.{ProgramFault}
use Rattle.operator_terms.specs.declared.fault.ProgramFault.TheVariants as faults
use Rattle.operator_terms.specs.declared.status.Status.{Status}
use Rattle.operator_terms.specs.Status.{status_of, fault_of}

-- the faults with which a run fails: out of memory, or the machine refused a step
abbrev pub EndsNoRun : ProgramFault → Type 0
EndsNoRun fault = (fault ≡ faults.OutOfMemory) ⊎ (fault ≡ faults.Stuck)

-- the result and the output of a deck's run with a budget. A success prints the dump of a state to which some log
-- leads, and that state gives the status. A failed write leaves a prefix of such a dump. Any other fault prints nothing
abbrev pub PrintsRun : Result Status ProgramFault → Deck → ℕ → Option (List ℕ) → Option (List ℕ) → Type 0
PrintsRun (Ok status) deck budget old new =
    (log : List LogStep) × (s : State) × IsRun deck.image.memory deck.start (asks_after deck) deck.free budget log s
    × (status ≡ status_of s.fault s.halt) × Appends old new (dump_text s (entries_of log) deck.shows)
PrintsRun (Err faults.Write) deck budget old new =
    (log : List LogStep) × (s : State) × IsRun deck.image.memory deck.start (asks_after deck) deck.free budget log s
    × WritesFront old new (dump_text s (entries_of log) deck.shows)
PrintsRun (Err faults.OutOfMemory) deck budget old new = Keeps old new
PrintsRun (Err faults.Stuck) deck budget old new = Keeps old new
PrintsRun other deck budget old new = ⊥

-- the result of reading a deck and running it, where `rest` are the bytes left unread
abbrev pub Runs : Result Status ProgramFault → Reading → ℕ → List ℕ → Option (List ℕ) → Option (List ℕ) → Type 0
Runs (Err (faults.Deck m fault)) reading budget rest old new = (reading ≡ Bad m fault rest) × Keeps old new
Runs (Err faults.Read) reading budget rest old new = Keeps old new
Runs (Err faults.OutOfMemory) reading budget rest old new = Keeps old new
Runs result (Good deck n after) budget rest old new = (rest ≡ after) × PrintsRun result deck budget old new
Runs result (Bad n fault after) budget rest old new = ⊥

-- the end of the program after a sequential run, from the final state of the machine
abbrev pub sequential_end : Result State Refusal → Result Status ProgramFault
sequential_end (Ok s) = Ok (status_of s.fault s.halt)
sequential_end (Err refusal) = Err (fault_of refusal)

-- the end of the program after a sequential run of a deck, with the output and the bytes left of the deck
abbrev pub EndsSequentialRun : Result Status ProgramFault → Reading → ℕ → List ℕ → Option (List ℕ) → Option (List ℕ)
    → Type 0
EndsSequentialRun result reading budget rest old new =
    (found : Result State Refusal) × RunsSequentially found reading budget rest old new
    × (result ≡ sequential_end found)

-- the end of the program after a replay: from the final state of the machine, or because the text isn't that of a log
abbrev pub replay_end : Result (Option State) Refusal → Result Status ProgramFault
replay_end (Ok (Some s)) = Ok (status_of s.fault s.halt)
replay_end (Ok None) = Err faults.BadLog
replay_end (Err refusal) = Err (fault_of refusal)

-- the end of the program after replaying the log in a text on a deck, with the output and the bytes left of the deck
abbrev pub EndsReplay : Result Status ProgramFault → Reading → List ℕ → List ℕ → Option (List ℕ) → Option (List ℕ)
    → Type 0
EndsReplay result reading rest text old new =
    (found : Result (Option State) Refusal) × Replays found reading rest text old new × (result ≡ replay_end found)

-- the end of the program after replaying the log in the line after a deck, with the output and the bytes left unread
abbrev pub EndsReplayFollowing : Result Status ProgramFault → Reading → List ℕ → Option (List ℕ) → Option (List ℕ)
    → Type 0
EndsReplayFollowing result reading rest old new =
    (found : Result (Option State) Refusal) × ReplaysFollowing found reading rest old new
    × (result ≡ replay_end found)

-- whether the program ends because a read failed
abbrev pub is_read_fault : Result Status ProgramFault → Bool
is_read_fault (Err faults.Read) = true
is_read_fault other = false

-- whether the program ends because a write failed
abbrev pub is_write_fault : Result Status ProgramFault → Bool
is_write_fault (Err faults.Write) = true
is_write_fault other = false
