-- The result and the output of a sequential run of a deck.
-- Source: ours.
use Rattle.std.specs.Prelude.{◌≡◌, ℕ, List, map, Option, Result, Ok, Err}
use Rattle.std.specs.Io.KnownBytes.{Keeps, Appends}
use Rattle.instructions.specs.declared.refusal.Refusal.{Refusal}
use Rattle.instructions.specs.declared.refusal.Refusal.TheVariants as refusals
use Rattle.sequential.specs.declared.state.State.{State}
use Rattle.sequential.specs.Log.{entries_of}
use Rattle.sequential.specs.Replay.{LogStep}
use Rattle.sequential_run.specs.Run.{IsRun, IsSequentialRun, IsWhyNoRun}
use Rattle.device_text.specs.Device.{WritesFront}
use Rattle.deck.specs.Deck.{Reading, Good, Bad}
use Rattle.deck.specs.declared.deck.Deck.{Deck}
use Rattle.job_deck.specs.Dump.{dump_text}

-- the requests of a deck's lines `ask N after K`, each as N and K
abbrev pub asks_after : Deck → List (ℕ × ℕ)
asks_after deck = map (λ ask. (ask.at, ask.after)) deck.asks

-- the sequential run of a deck with this budget ends with this log in this state. Log and state also have the
-- properties that every run promises
pub record IsJobRun (deck : Deck) (budget : ℕ) (log : List LogStep) (s : State) : Type 0 where
  pub sequential : IsSequentialRun deck.image.memory deck.start (asks_after deck) deck.free budget log s
  pub promised : IsRun deck.image.memory deck.start (asks_after deck) deck.free budget log s

-- why the sequential run of a deck has no end
abbrev pub IsWhyNoJobRun : Deck → ℕ → Refusal → Type 0
IsWhyNoJobRun deck budget refusal = IsWhyNoRun deck.image.memory deck.start (asks_after deck) deck.free budget refusal

-- the output of a deck's sequential run. A success prints the dump of the final state and log, and a failed write
-- leaves a prefix of it. Any other refusal prints nothing and is why the run has no end
abbrev pub PrintsSequentialRun : Result State Refusal → Deck → ℕ → Option (List ℕ) → Option (List ℕ) → Type 0
PrintsSequentialRun (Ok s) deck budget old new =
    (log : List LogStep) × IsJobRun deck budget log s × Appends old new (dump_text s (entries_of log) deck.shows)
PrintsSequentialRun (Err refusals.Write) deck budget old new =
    (log : List LogStep) × (s : State) × IsJobRun deck budget log s
    × WritesFront old new (dump_text s (entries_of log) deck.shows)
PrintsSequentialRun (Err refusal) deck budget old new = IsWhyNoJobRun deck budget refusal × Keeps old new

-- the result of reading a deck and running it, where `rest` are the bytes left unread. No exchange is refused, because
-- all packages of an accepted deck lie in its memory
abbrev pub RunsSequentially : Result State Refusal → Reading → ℕ → List ℕ → Option (List ℕ) → Option (List ℕ) → Type 0
RunsSequentially (Err (refusals.Deck m fault)) reading budget rest old new =
    (reading ≡ Bad m fault rest) × Keeps old new
RunsSequentially (Err refusals.Read) reading budget rest old new = Keeps old new
RunsSequentially (Err refusals.OutOfMemory) reading budget rest old new = Keeps old new
RunsSequentially (Err refusals.PackageRange) reading budget rest old new = ⊥
RunsSequentially result (Good deck n after) budget rest old new =
    (rest ≡ after) × PrintsSequentialRun result deck budget old new
RunsSequentially result (Bad n fault after) budget rest old new = ⊥
