-- The results of the parts of a session, and the bytes that they read and write.
-- Source: ours.
use Rattle.std.specs.Prelude.{◌≡◌, ℕ, Bool, true, false, List, [], ◌∷◌, ◌++◌, Option, Result, Ok, Err}
use Rattle.std.specs.Io.KnownBytes.{Keeps, Appends}
use Rattle.instructions.specs.declared.refusal.Refusal.{Refusal}
use Rattle.instructions.specs.declared.refusal.Refusal.TheVariants as refusals
use Rattle.program_order.specs.declared.event.Done.{Done}
use Rattle.program_order.specs.declared.event.Event.{Event}
use Rattle.program_order.specs.Reached.{GoesOn}
use Rattle.program_order.specs.Run.{IsAnswer, settled}
use Rattle.program_order.specs.Processor.{Processor}
use Rattle.job_deck.specs.AnswerText.{answer_line}
use Rattle.deck.specs.declared.deck.Show.{Show}
use Rattle.device_text.specs.Device.{WritesFront}
use Rattle.device_text.specs.Putting.{Puts}
use Rattle.device_text.specs.declared.output.Output as output
use Rattle.device_text.specs.declared.output.WriteFailed.{WriteFailed}
use Rattle.device_text.specs.Line.{IsTaken, IsText, lines_of}
use Rattle.job_deck.specs.Schedule.{line_says, left_after_line}
use Rattle.job_deck.specs.Session.{IsDump, IsReply, Session}
use Rattle.job_deck.specs.declared.schedule.ScheduleLine.{ScheduleLine}
use Rattle.job_deck.specs.declared.schedule.ScheduleLine.TheVariants.{Makes, Ends, Drains, Faulty}
use Rattle.job_deck.specs.SessionResult.{IsRefused, WritesCut}

-- line n was read, and this is its meaning. The whole line was read unless it is at fault. Nothing was read past a line
-- at fault
abbrev pub ReadsScheduleLine : ℕ → ScheduleLine → List ℕ → List ℕ → Type 0
ReadsScheduleLine n (Makes e) xs ys = (line_says n (lines_of xs) ≡ Makes e) × IsTaken (lines_of xs) ys
    × ((part : List ℕ) × (xs ≡ part ++ ys))
ReadsScheduleLine n Ends xs ys = (line_says n (lines_of xs) ≡ Ends) × IsTaken (lines_of xs) ys
ReadsScheduleLine n Drains xs ys = (line_says n (lines_of xs) ≡ Drains) × IsTaken (lines_of xs) ys
ReadsScheduleLine n (Faulty fault) xs ys =
    (line_says n (lines_of xs) ≡ Faulty fault) × (ys ≡ left_after_line n xs (lines_of xs))

-- the event was made or refused, and the line of its answer was written. The step extends any sequence of events that
-- led to the machine
abbrev pub IsMade : {X : Type 0} → output.Ghosts X → Result (Unit {0}) WriteFailed → Processor → Processor → Event → X
    → X → Type 0
IsMade device result w v event old new = (answer : Result Done Refusal) × IsAnswer w event answer
    × (v ≡ settled w event answer) × GoesOn w (event ∷ []) (answer ∷ []) v
    × Puts device result old new (answer_line answer)

-- the meaning of the last line: `drain` if the machine is drained first, or else `end`
abbrev pub last_line : Bool → ScheduleLine
last_line true = Drains
last_line false = Ends

-- the lines that say events were answered, up to the last line, a fault, a failed read or a failed write. These events
-- and their answers extend any sequence that led to the first machine, and lead to the last machine
abbrev pub AnswersLines : Result Bool Refusal → Processor → Processor → ℕ → List ℕ → List ℕ → Option (List ℕ)
    → Option (List ℕ) → Type 0
AnswersLines (Ok drains) w v n xs rest old new =
    (s : Session (GoesOn w) w n (lines_of xs)) × (s.machine ≡ v) × (line_says s.number s.left ≡ last_line drains)
    × IsTaken s.left rest × Appends old new s.text
AnswersLines (Err (refusals.Deck m fault)) w v n xs rest old new = (s : Session (GoesOn w) w n (lines_of xs))
    × (m ≡ s.number) × (line_says s.number s.left ≡ Faulty fault) × IsRefused s.number s.left xs rest
    × Appends old new s.text
AnswersLines (Err refusals.Read) w v n xs rest old new = (s : Session (GoesOn w) w n (lines_of xs)) × (part : List ℕ)
    × IsText part × (s.left ≡ lines_of (part ++ rest)) × Appends old new s.text
AnswersLines (Err refusals.Write) w v n xs rest old new =
    (s : Session (GoesOn w) w n (lines_of xs)) × (event : Event) × (answer : Result Done Refusal)
    × (line_says s.number s.left ≡ Makes event) × IsAnswer s.machine event answer × IsTaken s.left rest
    × WritesCut old new s.text (answer_line answer)
AnswersLines (Err other) w v n xs rest old new = ⊥

-- the dump of a drained machine, or nothing if there is no memory for a copy of its state
abbrev pub Dumps : Result (Unit {0}) Refusal → Processor → List Show → Option (List ℕ) → Option (List ℕ)
    → Type 0
Dumps (Ok x) w shows old new = (text : List ℕ) × IsDump w shows text × Appends old new text
Dumps (Err refusals.OutOfMemory) w shows old new = Keeps old new
Dumps (Err refusals.Write) w shows old new = (text : List ℕ) × IsDump w shows text × WritesFront old new text
Dumps (Err other) w shows old new = ⊥

-- the output for the last line of a schedule
abbrev pub Closes : Result (Unit {0}) Refusal → ScheduleLine → Processor → List Show → Option (List ℕ)
    → Option (List ℕ) → Type 0
Closes (Ok x) said w shows old new = (text : List ℕ) × IsReply said w shows text × Appends old new text
Closes (Err refusals.OutOfMemory) said w shows old new = Keeps old new
Closes (Err refusals.Write) said w shows old new = (text : List ℕ) × IsReply said w shows text
    × WritesFront old new text
Closes (Err other) said w shows old new = ⊥
