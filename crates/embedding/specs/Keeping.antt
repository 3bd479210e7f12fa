-- The calls that keep a machine for C: their results, and their effect on the machine.
-- Source: ours.
use Rattle.std.specs.Prelude.{◌≡◌, ◌⊎◌, ℕ, true, false, if◌then◌else◌, List, [], ◌∷◌, ◌++◌, length, drop, Option, Some}
use Rattle.std.specs.Prelude.{None, is_none, is_some, unwrap_or, Result, Ok, Err, ⊤, ◌+◌, ◌-◌, ◌*◌}
use Rattle.instructions.specs.declared.instr.Op.{Op}
use Rattle.instructions.specs.declared.instr.Op.TheVariants.{Plain, Extended}
use Rattle.instructions.specs.declared.refusal.Refusal.{Refusal}
use Rattle.instructions.specs.declared.refusal.Refusal.TheVariants as refusals
use Rattle.instructions.specs.declared.refusal.DeckFault.TheVariants as line_faults
use Rattle.instructions.specs.declared.refusal.Halt.{Halt}
use Rattle.instructions.specs.declared.refusal.Halt.TheVariants as halts
use Rattle.sequential.specs.declared.state.State.{State}
use Rattle.sequential.specs.Log.{entries_of}
use Rattle.in_flight.specs.Lookup.{is_pending}
use Rattle.program_order.specs.declared.event.Done.{Done}
use Rattle.program_order.specs.declared.event.Event.{Event}
use Rattle.program_order.specs.declared.event.Event.TheVariants as events
use Rattle.program_order.specs.Drain.{KeepsAccounts, Works, next_of}
use Rattle.program_order.specs.Events.{allowed}
use Rattle.program_order.specs.Processor.{Processor, boot_processor}
use Rattle.program_order.specs.Reached.{GoesOn, GoesOnByWork, IsReached}
use Rattle.program_order.specs.Run.{IsAnswer, settled}
use Rattle.deck.specs.Deck.{Reading, Good, Bad, deck}
use Rattle.device_text.specs.declared.output.WriteFailed.{WriteFailed}
use Rattle.device_text.specs.Device.{Writes}
use Rattle.contents_text.specs.Events.{event_line}
use Rattle.contents_text.specs.Holding.{judgement_text}
use Rattle.job_deck.specs.AnswerText.{answer_line}
use Rattle.job_deck.specs.Dump.{log_text}
use Rattle.job_deck.specs.Schedule.{line_says}
use Rattle.job_deck.specs.Session.{IsDump}
use Rattle.job_deck.specs.declared.schedule.ScheduleLine.{ScheduleLine}
use Rattle.job_deck.specs.declared.schedule.ScheduleLine.TheVariants.{Makes, Ends, Drains, Faulty}
use Rattle.operator_terms.specs.declared.fault.ProgramFault.{ProgramFault}
use Rattle.operator_terms.specs.declared.fault.ProgramFault.TheVariants as faults
use Rattle.operator_terms.specs.declared.status.Status.{Status}
use Rattle.operator_terms.specs.declared.status.Status.TheVariants.{Stopped}
use Rattle.embedding.specs.declared.booted.Booted.{Booted}
use Rattle.embedding.specs.declared.outcome.Outcome.{Outcome}
use Rattle.embedding.specs.declared.reading.Registers.{Registers}
use Rattle.embedding.specs.Embedding.{HandsOver, RefusesBudget, fault_in_memory, filled}

-- ---- handles ----

-- a call on a handle. Without a machine there is none after the call either, and `nothing` holds. With a machine,
-- `done` relates the machine before the call to the one after it
abbrev pub OnMachine : Option Booted → Option Booted → Type 0 → (Booted → Booted → Type 0) → Type 0
OnMachine None None nothing done = nothing
OnMachine None (Some c) nothing done = ⊥
OnMachine (Some b) None nothing done = ⊥
OnMachine (Some b) (Some c) nothing done = done b c

-- an outcome with nothing printed and no fault line
abbrev pub silent : ℕ → Outcome
silent status = record { printed = 0; told = 0; status = status }

-- no byte is copied to the caller, and the call has this status
abbrev pub IsSilent : ℕ → Outcome → List ℕ → List ℕ → Type 0
IsSilent status outcome old new = (outcome ≡ silent status) × (new ≡ old)

-- the status of a call on a handle without a machine
abbrev pub no_machine : ℕ
no_machine = 8

-- the status of a call that needs a drained machine, if the machine isn't drained
abbrev pub not_drained : ℕ
not_drained = 9

-- the machine isn't drained, and no byte is copied to the caller
abbrev pub IsNotDrained : Booted → Outcome → List ℕ → List ℕ → Type 0
IsNotDrained b outcome old new = (is_pending b.machine.pending ≡ true) × IsSilent not_drained outcome old new

-- ---- boot ----

-- the result of booting with this reading of a deck. It is a machine that was just booted with the deck's memory, and
-- the deck. Otherwise it is the fault of the deck, or memory ran out
abbrev pub Boots : Result Booted Refusal → ℕ → Reading → Type 0
Boots (Ok b) budget (Good d n after) = (b.deck ≡ d) × (b.machine ≡ boot_processor d.image.memory budget)
    × IsReached d.image.memory budget [] [] b.machine
Boots (Ok b) budget (Bad n fault after) = ⊥
Boots (Err (refusals.Deck m fault)) budget reading = (rest : List ℕ) × (reading ≡ Bad m fault rest)
Boots (Err refusals.OutOfMemory) budget reading = ⊤
Boots (Err other) budget reading = ⊥

-- the machine that the handle has after booting
abbrev pub kept_of : Result Booted Refusal → Option Booted
kept_of (Ok b) = Some b
kept_of (Err refusal) = None

-- the end of a call that boots
abbrev pub boot_end : Result Booted Refusal → Result Status ProgramFault
boot_end (Ok b) = Ok Stopped
boot_end (Err refusal) = Err (fault_in_memory refusal)

-- the outcome of a call that boots a machine with the deck in these bytes, and the machine that it leaves
abbrev pub BootsWithin : List ℕ → ℕ → Outcome → Option Booted → Type 0
BootsWithin input budget outcome new = (found : Result Booted Refusal) × Boots found budget (deck input)
    × (new ≡ kept_of found) × HandsOver outcome (boot_end found) [] [] []

-- the same for any number as the budget
abbrev pub HasBooted : List ℕ → ℕ → Outcome → Option Booted → Type 0
HasBooted input budget outcome new =
    BootsWithin input budget outcome new ⊎ ((new ≡ None) × RefusesBudget budget outcome [] [])

-- ---- events ----

-- the end of a call that writes to memory, where a failed write means that memory ran out
abbrev pub written_end : Result (Unit {0}) WriteFailed → Result Status ProgramFault
written_end (Ok x) = Ok Stopped
written_end (Err failed) = Err faults.OutOfMemory

-- a call copies as much of this text as fits, or of a prefix of it if memory runs out
abbrev pub HandsOverText : List ℕ → Outcome → List ℕ → List ℕ → Type 0
HandsOverText all outcome old new = (found : Result (Unit {0}) WriteFailed) × (text : List ℕ)
    × Writes found (Some []) (Some text) all × HandsOver outcome (written_end found) text old new

-- the event is made or refused as `program_order` defines it. The call copies to the caller this text and the line of
-- the answer
abbrev pub MakesEvent : Event → List ℕ → Booted → Booted → Outcome → List ℕ → List ℕ → Type 0
MakesEvent e front b c outcome old new = (answer : Result Done Refusal) × IsAnswer b.machine e answer
    × (c ≡ record b { machine = settled b.machine e answer }) × GoesOn b.machine (e ∷ []) (answer ∷ []) c.machine
    × HandsOverText (front ++ answer_line answer) outcome old new

-- the line is refused, and the machine is unchanged
abbrev pub RefusesLine : ProgramFault → Booted → Booted → Outcome → List ℕ → List ℕ → Type 0
RefusesLine fault b c outcome old new = (c ≡ b) × HandsOver outcome (Err fault) [] old new

-- the effect of a call with a line of a schedule. An event is made or refused. Any other line is refused as a line, and
-- so are `end` and `drain`, which say no event
abbrev pub DoesLine : ScheduleLine → Booted → Booted → Outcome → List ℕ → List ℕ → Type 0
DoesLine (Makes e) b c outcome old new = MakesEvent e [] b c outcome old new
DoesLine Ends b c outcome old new = RefusesLine (faults.Deck 1 line_faults.Unknown) b c outcome old new
DoesLine Drains b c outcome old new = RefusesLine (faults.Deck 1 line_faults.Unknown) b c outcome old new
DoesLine (Faulty fault) b c outcome old new = RefusesLine (faults.Deck 1 fault) b c outcome old new

-- the meaning of a text as the only line of a schedule
abbrev pub text_says : List ℕ → ScheduleLine
text_says text = line_says 1 ((text, []) ∷ [])

-- the effect of a call with the text of a line of a schedule
abbrev pub DoesText : List ℕ → Booted → Booted → Outcome → List ℕ → List ℕ → Type 0
DoesText text b c outcome old new = DoesLine (text_says text) b c outcome old new

-- the event that is made if nothing is pending: the requested exchange if that may be made, or else an issue
abbrev pub idle_event : Processor → Event
idle_event w = if is_none (allowed w events.Exchange) then events.Exchange else events.Issue

-- the event that is made next: the event that a drain would make, or the one that is made if nothing is pending
abbrev pub next_event : Processor → Event
next_event w = unwrap_or (next_of w.pending w.busy) (idle_event w)

-- a call makes the next event, and copies its schedule line and the line of its answer to the caller
abbrev pub MakesNext : Booted → Booted → Outcome → List ℕ → List ℕ → Type 0
MakesNext b c outcome old new = MakesEvent (next_event b.machine) (event_line (next_event b.machine)) b c outcome old new

-- the machine is drained by this many events
pub record IsDrainedBy (b c : Booted) (count : ℕ) : Type 0 where
  pub works : Works b.machine c.machine count
  pub drained : is_pending c.machine.pending ≡ false
  pub stays : KeepsAccounts b.machine c.machine
  pub reached : GoesOnByWork b.machine count c.machine
  pub deck : c.deck ≡ b.deck

-- ---- reading a machine ----

-- the outcome of a call that judges the event of a line of a schedule. Any other line is refused as a line, and so are
-- `end` and `drain`, which say no event
abbrev pub JudgesLine : ScheduleLine → Booted → Outcome → List ℕ → List ℕ → Type 0
JudgesLine (Makes e) b outcome old new = HandsOverText (judgement_text b.machine e) outcome old new
JudgesLine Ends b outcome old new = HandsOver outcome
    (Err (faults.Deck 1 line_faults.Unknown)) [] old new
JudgesLine Drains b outcome old new = HandsOver outcome
    (Err (faults.Deck 1 line_faults.Unknown)) [] old new
JudgesLine (Faulty fault) b outcome old new = HandsOver outcome (Err (faults.Deck 1 fault)) [] old new

-- the same for the text of a line
abbrev pub JudgesText : List ℕ → Booted → Outcome → List ℕ → List ℕ → Type 0
JudgesText text b outcome old new = JudgesLine (text_says text) b outcome old new

-- a call copies as much as fits of the dump of a drained machine. If memory runs out that is a prefix of the dump, or
-- nothing
abbrev pub DumpsText : Booted → Outcome → List ℕ → List ℕ → Type 0
DumpsText b outcome old new =
    ((all : List ℕ) × IsDump b.machine b.deck.shows all × HandsOverText all outcome old new)
    ⊎ HandsOver outcome (Err faults.OutOfMemory) [] old new

-- the outcome of a call that dumps a machine, and the bytes that it copies
abbrev pub IsDumped : Booted → Outcome → List ℕ → List ℕ → Type 0
IsDumped b outcome old new = IsNotDrained b outcome old new ⊎ DumpsText b outcome old new

-- a text without the space at its beginning
abbrev pub after_space : List ℕ → List ℕ
after_space [] = []
after_space (space ∷ text) = text

-- the outcome of a call that reads the log, and the bytes that it copies. These are as much of the log's text as fits,
-- or of a prefix of it if memory runs out
abbrev pub IsLogged : Booted → Outcome → List ℕ → List ℕ → Type 0
IsLogged b outcome old new = (found : Result (Unit {0}) WriteFailed) × (text : List ℕ)
    × Writes found (Some []) (Some text) (log_text (entries_of b.machine.log))
    × HandsOver outcome (written_end found) (after_space text) old new

-- the number of the reason why a machine is halted, or 0 if it runs
abbrev pub halt_number : Option Halt → ℕ
halt_number None = 0
halt_number (Some halts.Stop) = 1
halt_number (Some (halts.Illegal op)) = 2
halt_number (Some halts.Straddle) = 3
halt_number (Some halts.FetchRange) = 4

-- the digits of a refused opcode as a number: f, m and i, or f, m and 0
abbrev pub opcode_number : Op → ℕ
opcode_number (Plain f m) = f * 64 + m * 8
opcode_number (Extended f m i) = f * 64 + m * 8 + i

-- the refused opcode that halted the machine, or 0
abbrev pub halting_opcode : Option Halt → ℕ
halting_opcode (Some (halts.Illegal op)) = opcode_number op
halting_opcode other = 0

-- the registers of a state; B0 is always +0
pub record HasRegisters (s : State) (r : Registers) : Type 0 where
  pub x : r.x ≡ s.registers.x
  pub a : r.a ≡ s.registers.a
  pub b : r.b ≡ 0 ∷ s.registers.b
  pub p : r.p ≡ s.position.p
  pub parcel : r.parcel ≡ s.position.parcel
  pub ra : r.ra ≡ s.area.ra
  pub fl : r.fl ≡ s.area.fl
  pub mode : r.em ≡ s.area.mode
  pub halt : r.halt ≡ halt_number s.halt
  pub fault : r.fault ≡ s.fault
  pub has_held : r.has_held ≡ is_some s.position.held
  pub opcode : r.opcode ≡ halting_opcode s.halt
  pub held : r.held ≡ unwrap_or s.position.held 0

-- a call copies the registers of the machine's state, even if the machine isn't drained
abbrev pub TellsRegisters : Booted → ℕ → Registers → Type 0
TellsRegisters b status new = (status ≡ 0) × HasRegisters b.machine.state new

-- the words of a memory from an address on, or none if the address is past the end
abbrev pub words_from : List ℕ → ℕ → List ℕ
words_from memory first = drop first memory

-- a call copies words of the memory of the machine's state, even if the machine isn't drained. It copies as many as
-- fit, and returns how many there are
abbrev pub TellsWords : Booted → ℕ → Outcome → List ℕ → List ℕ → Type 0
TellsWords b first outcome old new = (new ≡ filled (words_from b.machine.state.memory first) old)
    × (outcome ≡ record { printed = length b.machine.state.memory - first; told = 0; status = 0 })
