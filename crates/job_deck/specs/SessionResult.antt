-- The result of a session, and the bytes that it reads and writes.
-- Source: ours.
use Rattle.std.specs.Prelude.{◌≡◌, ◌⊎◌, ℕ, ◌+◌, ◌≤◌, length, List, ◌++◌, Option, Result, Ok, Err}
use Rattle.std.specs.Io.KnownBytes.{Keeps, Appends}
use Rattle.instructions.specs.declared.refusal.Refusal.{Refusal}
use Rattle.instructions.specs.declared.refusal.Refusal.TheVariants as refusals
use Rattle.program_order.specs.declared.event.Done.{Done}
use Rattle.program_order.specs.declared.event.Event.{Event}
use Rattle.program_order.specs.Reached.{IsReached}
use Rattle.program_order.specs.Processor.{Processor, boot_processor}
use Rattle.deck.specs.Deck.{Reading, Good, Bad}
use Rattle.deck.specs.declared.deck.Deck.{Deck}
use Rattle.deck.specs.declared.deck.Show.{Show}
use Rattle.device_text.specs.Line.{IsTaken, IsText, lines_of}
use Rattle.job_deck.specs.Schedule.{line_says, left_after_line}
use Rattle.job_deck.specs.Session.{IsLast, IsReply, Session}
use Rattle.job_deck.specs.declared.schedule.ScheduleLine.TheVariants.{Faulty}

-- line n is at fault, and nothing was read past it. The bytes of xs before line n were read, and `lines` are the lines
-- from line n on
abbrev pub IsRefused : ℕ → List (List ℕ × List ℕ) → List ℕ → List ℕ → Type 0
IsRefused n lines xs rest =
    (read : List ℕ) × (bytes : List ℕ) × (xs ≡ read ++ bytes) × (lines ≡ lines_of bytes)
    × (rest ≡ left_after_line n bytes lines)

-- the first text was written, and a prefix of the second
abbrev pub WritesCut : Option (List ℕ) → Option (List ℕ) → List ℕ → List ℕ → Type 0
WritesCut old new text last =
    (front : List ℕ) × (rest : List ℕ) × (last ≡ front ++ rest) × Appends old new (text ++ front)

-- a session with machine w from line n on. After `Ok` all its text is written, and the bytes after its last line are
-- left. At a fault, at a failed read, or if memory for the dump runs out, each earlier line has its whole answer.
-- Nothing is read past a fault. A failed write may cut off the reply to the last line read. IsLed holds of the events,
-- the answers and the machine so far. No other refusal occurs
abbrev pub RunsSession : Result (Unit {0}) Refusal → (List Event → List (Result Done Refusal) → Processor → Type 0)
    → Processor
    → ℕ → List Show → List ℕ → List ℕ → Option (List ℕ) → Option (List ℕ) → Type 0
RunsSession (Ok x) IsLed w n shows xs rest old new =
    (s : Session IsLed w n (lines_of xs)) × (text : List ℕ) × IsLast (line_says s.number s.left)
    × IsReply (line_says s.number s.left) s.machine shows text × IsTaken s.left rest × Appends old new (s.text ++ text)
RunsSession (Err (refusals.Deck m fault)) IsLed w n shows xs rest old new =
    (s : Session IsLed w n (lines_of xs)) × (m ≡ s.number) × (line_says s.number s.left ≡ Faulty fault)
    × IsRefused s.number s.left xs rest × Appends old new s.text
RunsSession (Err refusals.OutOfMemory) IsLed w n shows xs rest old new =
    (s : Session IsLed w n (lines_of xs)) × IsLast (line_says s.number s.left) × IsTaken s.left rest
    × Appends old new s.text
RunsSession (Err refusals.Read) IsLed w n shows xs rest old new =
    (s : Session IsLed w n (lines_of xs)) × (part : List ℕ) × IsText part × (s.left ≡ lines_of (part ++ rest))
    × Appends old new s.text
RunsSession (Err refusals.Write) IsLed w n shows xs rest old new =
    (s : Session IsLed w n (lines_of xs)) × (text : List ℕ) × IsReply (line_says s.number s.left) s.machine shows text
    × IsTaken s.left rest × WritesCut old new s.text text
RunsSession (Err other) IsLed w n shows xs rest old new = ⊥

-- nothing was written, and none of the bytes after the deck was read
abbrev pub HasNotBegun : List ℕ → List ℕ → Option (List ℕ) → Option (List ℕ) → Type 0
HasNotBegun after rest old new = (length after ≤ length rest) × Keeps old new

-- the session of a machine that was booted with the deck's memory, from the line after the deck on. The events of its
-- lines and the printed answers lead from boot to its machine
abbrev pub RunsSessionFromBoot : Result (Unit {0}) Refusal → ℕ → Deck → ℕ → List ℕ → List ℕ → Option (List ℕ)
    → Option (List ℕ) → Type 0
RunsSessionFromBoot result budget deck n after rest old new =
    RunsSession result (IsReached deck.image.memory budget) (boot_processor deck.image.memory budget) (n + 1) deck.shows
    after rest
    old new

-- the session of a deck and its schedule. Memory may run out and a read may fail before the session begins
abbrev pub Performs : Result (Unit {0}) Refusal → ℕ → Reading → List ℕ → Option (List ℕ) → Option (List ℕ) → Type 0
Performs (Ok x) budget (Good deck n after) rest old new = RunsSessionFromBoot (Ok x) budget deck n after rest old new
Performs (Ok x) budget (Bad n fault after) rest old new = ⊥
Performs (Err (refusals.Deck m fault)) budget (Good deck n after) rest old new =
    RunsSessionFromBoot (Err (refusals.Deck m fault)) budget deck n after rest old new
Performs (Err (refusals.Deck m fault)) budget (Bad n other after) rest old new =
    (m ≡ n) × (fault ≡ other) × (rest ≡ after) × Keeps old new
Performs (Err refusals.OutOfMemory) budget (Good deck n after) rest old new =
    HasNotBegun after rest old new ⊎ RunsSessionFromBoot (Err refusals.OutOfMemory) budget deck n after rest old new
Performs (Err refusals.OutOfMemory) budget (Bad n fault after) rest old new = Keeps old new
Performs (Err refusals.Read) budget (Good deck n after) rest old new =
    HasNotBegun after rest old new ⊎ RunsSessionFromBoot (Err refusals.Read) budget deck n after rest old new
Performs (Err refusals.Read) budget (Bad n fault after) rest old new = Keeps old new
Performs (Err refusals.Write) budget (Good deck n after) rest old new =
    RunsSessionFromBoot (Err refusals.Write) budget deck n after rest old new
Performs (Err refusals.Write) budget (Bad n fault after) rest old new = ⊥
Performs (Err other) budget reading rest old new = ⊥
