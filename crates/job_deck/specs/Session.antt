-- A session: each line of the schedule is followed by its answer, up to the last line and what that line prints.
-- Source: ours.
use Rattle.std.specs.Prelude.{◌≡◌, ◌⊎◌, ℕ, ◌+◌, true, false, List, [], ◌∷◌, length, codes, Some, Result}
use Rattle.std.specs.List.{flat_map, concat}
use Rattle.instructions.specs.declared.refusal.Refusal.{Refusal}
use Rattle.sequential.specs.Log.{entries_of}
use Rattle.program_order.specs.declared.event.Done.{Done}
use Rattle.program_order.specs.declared.event.Event.{Event}
use Rattle.program_order.specs.Reached.{GoesOnByWork}
use Rattle.program_order.specs.Run.{IsAnswer, IsAnswered, settled_all}
use Rattle.in_flight.specs.Lookup.{is_pending}
use Rattle.program_order.specs.Processor.{Processor, replayed}
use Rattle.program_order.specs.Drain.{Works}
use Rattle.deck.specs.declared.deck.Show.{Show}
use Rattle.job_deck.specs.AnswerText.{answer_line}
use Rattle.job_deck.specs.Dump.{dump_text, log_line}
use Rattle.job_deck.specs.Schedule.{line_says}
use Rattle.job_deck.specs.declared.schedule.ScheduleLine.{ScheduleLine}
use Rattle.job_deck.specs.declared.schedule.ScheduleLine.TheVariants.{Makes, Ends, Drains, Faulty}

-- the first lines, from line n on, say these events, one per line, and `left` are the lines after them
abbrev pub Says : ℕ → List Event → List (List ℕ × List ℕ) → List (List ℕ × List ℕ) → Type 0
Says n [] lines left = lines ≡ left
Says n (e ∷ events) [] left = ⊥
Says n (e ∷ events) (line ∷ lines) left = (line_says n (line ∷ lines) ≡ Makes e) × Says (n + 1) events lines left

-- a session so far, which began with machine w and these lines, the first of which is line n. Each line read so far
-- said an event, and each event got an answer that the machine may give. IsLed relates the events and their answers to
-- the machine that they lead to, from some beginning. From boot it is `IsReached memory budget`
pub record Session (IsLed : List Event → List (Result Done Refusal) → Processor → Type 0) (w : Processor) (n : ℕ)
    (lines : List (List ℕ × List ℕ)) : Type 0 where
  -- the events of the lines read so far, one per line
  pub events : List Event
  -- the lines not read yet
  pub left : List (List ℕ × List ℕ)
  pub said : Says n events lines left
  -- the answer to each of these events
  pub answers : List (Result Done Refusal)
  pub answered : IsAnswered w events answers
  -- the machine after these answers
  pub machine : Processor
  pub leads : machine ≡ settled_all w events answers
  -- the events and their answers lead to this machine
  pub led : IsLed events answers machine
  -- the number of the next line
  pub number : ℕ
  pub numbered : number ≡ n + length events
  -- the lines of the answers
  pub text : List ℕ
  pub written : text ≡ flat_map answer_line answers

-- the text is the dump of a drained machine, whose state is the replay of its log
pub record IsDump (w : Processor) (shows : List Show) (text : List ℕ) : Type 0 where
  -- no issued instruction has an effect still to come
  pub drained : is_pending w.pending ≡ false
  -- a machine that executes one instruction at a time reaches this state from boot by the log
  pub replay : replayed w ≡ Some w.state
  -- the state, the words of each `show` line, and the log
  pub dump : text ≡ dump_text w.state (entries_of w.log) shows

-- the text for a machine that isn't drained: the line `NOT DRAINED` and the line of the log
abbrev pub not_drained_text : Processor → List ℕ
not_drained_text w = concat (codes "NOT DRAINED\n" ∷ log_line (entries_of w.log) ∷ [])

-- a text that may be printed for a line. For an event it is the line of an answer. At `end` it is the dump, or the text
-- for a machine that isn't drained. At `drain` it is the dump of a machine to which at most forty accepted events lead.
-- None of them is an issue, a request or an exchange. Whenever events lead from boot to the first machine, as many more
-- such events lead to the dumped machine
abbrev pub IsReply : ScheduleLine → Processor → List Show → List ℕ → Type 0
IsReply (Makes e) w shows text = (answer : Result Done Refusal) × IsAnswer w e answer × (text ≡ answer_line answer)
IsReply Ends w shows text = IsDump w shows text ⊎ ((is_pending w.pending ≡ true) × (text ≡ not_drained_text w))
IsReply Drains w shows text =
    (v : Processor) × (count : ℕ) × Works w v count × GoesOnByWork w count v × IsDump v shows text
IsReply (Faulty fault) w shows text = ⊥

-- the line ends the session: it says `end` or `drain`
abbrev pub IsLast : ScheduleLine → Type 0
IsLast (Makes e) = ⊥
IsLast Ends = Unit {0}
IsLast Drains = Unit {0}
IsLast (Faulty fault) = ⊥
