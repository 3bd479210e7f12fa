-- The results and the output of replaying a log on a deck.
-- Source: ours.
use Rattle.std.specs.Prelude.{◌≡◌, ℕ, List, Option, Some, None, Result, Ok, Err}
use Rattle.std.specs.Io.KnownBytes.{Keeps, Appends}
use Rattle.instructions.specs.declared.refusal.Refusal.{Refusal}
use Rattle.instructions.specs.declared.refusal.Refusal.TheVariants as refusals
use Rattle.sequential.specs.declared.state.State.{State}
use Rattle.sequential.specs.Log.{entries_of}
use Rattle.sequential.specs.Replay.{LogStep, IsRefusedAt, boot, replay}
use Rattle.deck.specs.Deck.{Reading, Good, Bad}
use Rattle.deck.specs.declared.deck.Deck.{Deck}
use Rattle.deck.specs.declared.deck.Show.{Show}
use Rattle.device_text.specs.Device.{WritesFront}
use Rattle.job_deck.specs.Dump.{dump_text}
use Rattle.log_text.specs.FollowingLog.{LeavesAfterLog, following_line}
use Rattle.log_text.specs.LogText.{log_in}

-- the outcome of replaying the text of a log
pub data Replayed : Type 0 where
  -- the text isn't that of a log: `bad log`
  BadLog : Replayed
  -- from this state, one of these steps is refused: `E19 package range` or `E27 peripheral range`
  Undefined : State → List LogStep → Replayed
  -- the final state, and the steps that led to it
  Reaches : State → List LogStep → Replayed

-- the outcome of these steps from a state: the final state, if no step is refused
abbrev pub reached : State → List LogStep → Option State → Replayed
reached start steps None = Undefined start steps
reached start steps (Some state) = Reaches state steps

-- the outcome of replaying on this memory the steps of a text, if the text is that of a log
abbrev pub replayed_steps : List ℕ → Option (List LogStep) → Replayed
replayed_steps memory None = BadLog
replayed_steps memory (Some steps) = reached (boot memory) steps (replay (boot memory) steps)

-- the outcome of replaying the text of a log on a machine that was booted with the deck's memory
abbrev pub replayed : Deck → List ℕ → Replayed
replayed deck text = replayed_steps deck.image.memory (log_in text)

-- the first of the steps to be refused is refused for this reason
abbrev pub IsRefusedFor : State → List LogStep → Refusal → Type 0
IsRefusedFor start steps refusal = (end : State) × IsRefusedAt start steps end refusal

-- a success prints the dump of the final state, and a failed write leaves a prefix of it. Nothing else prints anything
abbrev pub Prints : Result (Option State) Refusal → Replayed → List Show → Option (List ℕ) → Option (List ℕ) → Type 0
Prints (Ok None) BadLog shows old new = Keeps old new
Prints (Ok (Some s)) (Reaches state steps) shows old new =
    (s ≡ state) × Appends old new (dump_text state (entries_of steps) shows)
Prints (Err refusals.PackageRange) (Undefined start steps) shows old new =
    IsRefusedFor start steps refusals.PackageRange × Keeps old new
Prints (Err refusals.PeripheralRange) (Undefined start steps) shows old new =
    IsRefusedFor start steps refusals.PeripheralRange × Keeps old new
Prints (Err refusals.Write) (Reaches state steps) shows old new =
    WritesFront old new (dump_text state (entries_of steps) shows)
Prints (Err refusals.OutOfMemory) replayed shows old new = Keeps old new
Prints other replayed shows old new = ⊥

-- the result of reading a deck and replaying a log on it, where `rest` are the bytes left unread. A fault of the deck
-- is reported before one of the log
abbrev pub Replays : Result (Option State) Refusal → Reading → List ℕ → List ℕ → Option (List ℕ) → Option (List ℕ)
    → Type 0
Replays (Err (refusals.Deck m fault)) reading rest text old new = (reading ≡ Bad m fault rest) × Keeps old new
Replays (Err refusals.Read) reading rest text old new = Keeps old new
Replays (Err refusals.OutOfMemory) reading rest text old new = Keeps old new
Replays result (Good deck n after) rest text old new =
    (rest ≡ after) × Prints result (replayed deck text) deck.shows old new
Replays result (Bad n fault after) rest text old new = ⊥

-- the result of reading a deck and replaying the log in the line after it, where `rest` are the bytes left unread. A
-- fault of the deck is reported before one of the log
abbrev pub ReplaysFollowing : Result (Option State) Refusal → Reading → List ℕ → Option (List ℕ) → Option (List ℕ)
    → Type 0
ReplaysFollowing (Err (refusals.Deck m fault)) reading rest old new = (reading ≡ Bad m fault rest) × Keeps old new
ReplaysFollowing (Err refusals.Read) reading rest old new = Keeps old new
ReplaysFollowing (Err refusals.OutOfMemory) reading rest old new = Keeps old new
ReplaysFollowing result (Good deck n after) rest old new =
    LeavesAfterLog after rest × Prints result (replayed deck (following_line after)) deck.shows old new
ReplaysFollowing result (Bad n fault after) rest old new = ⊥
