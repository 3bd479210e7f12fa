-- The contents of the machine's units, hopper, load channels and banks, its request for an exchange, its next
-- instruction, its reserved registers and its unread operands, as lines of text. Source: ours.
use Rattle.std.specs.Prelude.{ℕ, Bool, false, if◌then◌else◌, List, [], ◌∷◌, Option, Some, None, codes, decimal}
use Rattle.std.specs.Prelude.{◌+◌, ◌++◌, ◌&&◌, find, slice_index_or}
use Rattle.std.specs.List.{concat, flat_map}
use Rattle.word60.specs.Words.{octal_text}
use Rattle.instructions.specs.Finding.{seek}
use Rattle.instructions.specs.declared.instr.Reg.{Reg}
use Rattle.instructions.specs.declared.instr.Unit.{Unit as FunctionalUnit}
use Rattle.instructions.specs.declared.instr.Unit.TheVariants as unit
use Rattle.instruction_table.specs.Spelling.{spelling}
use Rattle.instructions.specs.declared.refusal.Halt.TheVariants as halts
use Rattle.sequential.specs.declared.fetching.Fetched.{Fetched}
use Rattle.sequential.specs.declared.fetching.Fetched.TheVariants.{Halting, Passing, Taking}
use Rattle.sequential.specs.declared.position.ProgramPosition.{ProgramPosition}
use Rattle.sequential.specs.declared.state.State.{State}
use Rattle.sequential.specs.State.{bounds_of}
use Rattle.sequential.specs.Step.{fetch}
use Rattle.relocation.specs.declared.area.Access.{Access}
use Rattle.relocation.specs.declared.area.Access.TheVariants.{Load, Store}
use Rattle.scoreboard.specs.Reservations.{comes, reads, to_come}
use Rattle.hopper.specs.declared.reference.Reference.{Reference}
use Rattle.in_flight.specs.declared.pending.Arrival.{Arrival}
use Rattle.in_flight.specs.declared.pending.Pending.{Pending}
use Rattle.in_flight.specs.declared.pending.Stage.{Stage}
use Rattle.in_flight.specs.declared.pending.Stage.TheVariants.{Unread, Read, Finished}
use Rattle.in_flight.specs.declared.slots.Located.{Located}
use Rattle.in_flight.specs.Lookup.{arrival_at, entry_at, located, stage_at}
use Rattle.in_flight.specs.Pending.{is_before, reservation_of}
use Rattle.program_order.specs.Processor.{Processor}
use Rattle.device_text.specs.Names.{register_text, unit_text}
use Rattle.device_text.specs.Pieces.{code_text, trimmed}
use Rattle.job_deck.specs.Dump.{addresses}
use Rattle.contents_text.specs.declared.contents.Part.{Part}
use Rattle.contents_text.specs.declared.contents.Part.TheVariants.{Units, Hopper, Channels, Banks, Request, NextInstruction}
use Rattle.contents_text.specs.declared.contents.Part.TheVariants.{ReservedRegisters, UnreadOperands}

-- the word for the stage of the instruction in a unit
abbrev pub stage_text : Stage → List ℕ
stage_text Unread = codes " issued "
stage_text (Read operands) = codes " read "
stage_text (Finished value) = codes " finished "

-- the line of a unit: its name, the number of the reservation, the stage and the instruction. A free unit has no line
abbrev pub held_line : FunctionalUnit → Option (Located Stage) → List ℕ
held_line u None = []
held_line u (Some held) = concat (unit_text u ∷ codes " " ∷ decimal held.pending.number ∷ stage_text held.answer
    ∷ spelling held.pending.instr ∷ codes "\n" ∷ [])

-- the line of a unit while these instructions are pending
abbrev pub unit_line : List Pending → FunctionalUnit → List ℕ
unit_line pending u = held_line u (located (seek (stage_at u) pending))

-- the units in use, in the order of their numbers
abbrev pub units_in_use : List FunctionalUnit
units_in_use = unit.Branch ∷ unit.Boolean ∷ unit.Shift ∷ unit.LongAdd ∷ unit.Divide ∷ unit.Increment1
    ∷ unit.Increment2 ∷ []

-- the lines of the units that are held
abbrev pub units_text : List Pending → List ℕ
units_text pending = flat_map (unit_line pending) units_in_use

-- the word for a kind of reference
abbrev pub access_text : Access → List ℕ
access_text (Load channel) = codes " load "
access_text (Store word) = codes " store "

-- the line of a place of the hopper: the place, the number of the reservation, the absolute address in octal, the kind
-- of reference and the instruction. An empty place has no line
abbrev pub waiting_line : ℕ → Option (Located Reference) → List ℕ
waiting_line place None = []
waiting_line place (Some waiting) = concat (decimal place ∷ codes " " ∷ decimal waiting.pending.number ∷ codes " "
    ∷ trimmed (octal_text 20 waiting.answer.address) ∷ access_text waiting.answer.access
    ∷ spelling waiting.pending.instr ∷ codes "\n" ∷ [])

-- the line of a place of the hopper while these instructions are pending
abbrev pub entry_line : List Pending → ℕ → List ℕ
entry_line pending place = waiting_line place (located (seek (entry_at place) pending))

-- the lines of the four places, 0 to 3
abbrev pub hopper_text : List Pending → List ℕ
hopper_text pending = flat_map (entry_line pending) (addresses 4 0)

-- the line of a load channel: the channel, the number of the reservation, the word and the instruction. An empty
-- channel has no line
abbrev pub arrived_line : ℕ → Option (Located Arrival) → List ℕ
arrived_line channel None = []
arrived_line channel (Some waiting) = concat (decimal channel ∷ codes " " ∷ decimal waiting.pending.number ∷ codes " "
    ∷ octal_text 20 waiting.answer.word ∷ codes " " ∷ spelling waiting.pending.instr ∷ codes "\n" ∷ [])

-- the line of a load channel while these instructions are pending
abbrev pub arrival_line : List Pending → ℕ → List ℕ
arrival_line pending channel = arrived_line channel (located (seek (arrival_at channel) pending))

-- the lines of the five channels, 1 to 5
abbrev pub channels_text : List Pending → List ℕ
channels_text pending = flat_map (arrival_line pending) (addresses 5 1)

-- the line of a bank: its number, if it is busy
abbrev pub bank_line : List Bool → ℕ → List ℕ
bank_line busy bank = if slice_index_or busy bank false then concat (decimal bank ∷ codes "\n" ∷ []) else []

-- the lines of the 32 banks, 0 to 31
abbrev pub banks_text : List Bool → List ℕ
banks_text busy = flat_map (bank_line busy) (addresses 32 0)

-- the package address of the exchange that is requested, in octal
abbrev pub request_text : Option ℕ → List ℕ
request_text None = []
request_text (Some at) = concat (trimmed (octal_text 20 at) ∷ codes "\n" ∷ [])

-- the text of the next instruction as a listing has it, or a question mark and the reason why there is none
abbrev pub fetched_text : Fetched → List ℕ
fetched_text (Taking instr after) = spelling instr
fetched_text (Passing after) = codes "NO"
fetched_text (Halting halts.Stop position) = codes "PS"
fetched_text (Halting (halts.Illegal op) position) = codes "?" ++ code_text op
fetched_text (Halting halts.Straddle position) = codes "?straddle"
fetched_text (Halting halts.FetchRange position) = codes "?fetch"

-- P in octal and the parcel, with a space after each
abbrev pub position_text : ProgramPosition → List ℕ
position_text position = concat (trimmed (octal_text 20 position.p) ∷ codes " " ∷ ((48 + position.parcel) ∷ []) ∷ codes " "
    ∷ [])

-- the line of the next instruction: its position and its text
abbrev pub next_text : State → List ℕ
next_text s = concat (position_text s.position ∷ fetched_text (fetch (bounds_of s) s.memory s.position) ∷ codes "\n" ∷ [])

-- the line of a register that an instruction is still to write: the register, the number of the reservation and the
-- instruction
abbrev pub reserved_line : Pending → Reg → List ℕ
reserved_line m register = concat (register_text register ∷ codes " " ∷ decimal m.number ∷ codes " "
    ∷ spelling m.instr ∷ codes "\n" ∷ [])

-- the lines of the registers that an instruction is still to write
abbrev pub reserved_of : Pending → List ℕ
reserved_of m = flat_map (reserved_line m) (to_come (reservation_of m))

-- a line for each register that one of the pending instructions is still to write
abbrev pub reserved_text : List Pending → List ℕ
reserved_text pending = flat_map reserved_of pending

-- the register is a result still to come of this writer, which was issued before the reader
abbrev pub awaits : Pending → Reg → Pending → Bool
awaits reader register writer = is_before reader.number writer && comes register (reservation_of writer)

-- the line of an operand that the reader is still to read: the number of its reservation and the register, and then the
-- number of the earlier reservation that is still to write the register, if there is one
abbrev pub line_with : Pending → Reg → Option Pending → List ℕ
line_with reader register None = concat (decimal reader.number ∷ codes " " ∷ register_text register ∷ codes "\n" ∷ [])
line_with reader register (Some writer) = concat (decimal reader.number ∷ codes " " ∷ register_text register ∷ codes " "
    ∷ decimal writer.number ∷ codes "\n" ∷ [])

-- the line of an operand while these instructions are pending
abbrev pub operand_line : List Pending → Pending → Reg → List ℕ
operand_line pending reader register = line_with reader register (find (awaits reader register) pending)

-- the lines of the operands that the reader is still to read
abbrev pub unread_of : List Pending → Pending → List ℕ
unread_of pending reader = flat_map (operand_line pending reader) (reads (reservation_of reader))

-- a line for each operand that one of the pending instructions is still to read
abbrev pub unread_text : List Pending → List ℕ
unread_text pending = flat_map (unread_of pending) pending

-- the contents of a part of the machine
abbrev pub contents_text : Part → Processor → List ℕ
contents_text Units w = units_text w.pending
contents_text Hopper w = hopper_text w.pending
contents_text Channels w = channels_text w.pending
contents_text Banks w = banks_text w.busy
contents_text Request w = request_text w.request
contents_text NextInstruction w = next_text w.state
contents_text ReservedRegisters w = reserved_text w.pending
contents_text UnreadOperands w = unread_text w.pending
