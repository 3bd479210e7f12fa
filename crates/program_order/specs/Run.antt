-- The answers to events, and runs of events with their answers. Source: ours.
use Rattle.std.specs.Prelude.{◌≡◌, ◌⊎◌, suc, Bool, true, false, List, [], ◌∷◌, ◌++◌, Option, Some, None, Result, Ok}
use Rattle.std.specs.Prelude.{Err, unwrap_or}
use Rattle.instructions.specs.declared.instr.Unit.TheVariants.{Branch}
use Rattle.instructions.specs.declared.refusal.Refusal.{Refusal}
use Rattle.instructions.specs.declared.refusal.Refusal.TheVariants.{OutOfMemory}
use Rattle.instructions.specs.Operands.{uses}
use Rattle.sequential.specs.declared.fetching.Fetched.{Fetched}
use Rattle.sequential.specs.declared.fetching.Fetched.TheVariants.{Halting, Passing, Taking}
use Rattle.sequential.specs.State.{bounds_of}
use Rattle.sequential.specs.Step.{fetch}
use Rattle.program_order.specs.declared.event.Done.{Done}
use Rattle.program_order.specs.declared.event.Done.TheVariants.{Issued as DoneIssue, Word, Made}
use Rattle.program_order.specs.declared.event.Event.{Event}
use Rattle.program_order.specs.declared.event.Event.TheVariants.{Issue, Read, Finish, Store, Accept, Return, BankFree}
use Rattle.program_order.specs.declared.event.Event.TheVariants.{Ask, Exchange, PpRead, PpWrite}
use Rattle.program_order.specs.declared.event.Note.{Note}
use Rattle.program_order.specs.Processor.{Processor}
use Rattle.program_order.specs.Events.{allowed, after}
use Rattle.program_order.specs.Peripheral.{word_read}
use Rattle.in_flight.specs.Tests.{unit_for}

-- the reservation of an issued instruction, if it has a unit
unfoldable pub note_by : Processor → Fetched → Option Note
note_by w (Halting halt position) = None
note_by w (Passing position) = None
note_by w (Taking i position) =
    Some (record { unit = unwrap_or (unit_for w.pending (uses i).unit) Branch; number = suc w.last })

-- the answer to a made event: an issue's reservation, the word that was read, or that the event was made
unfoldable pub done_by : Processor → Event → Done
done_by w Issue = DoneIssue (note_by w (fetch (bounds_of w.state) w.state.memory w.state.position))
done_by w (Read u) = Made
done_by w (Finish u) = Made
done_by w (Store u) = Made
done_by w (Accept p) = Made
done_by w (Return c) = Made
done_by w (BankFree k) = Made
done_by w (Ask n) = Made
done_by w Exchange = Made
done_by w (PpRead a) = Word (word_read w a)
done_by w (PpWrite a v) = Made

-- the refusal, if there is one, otherwise what was done
unfoldable pub answer_by : Done → Option Refusal → Result Done Refusal
answer_by done None = Ok done
answer_by done (Some refusal) = Err refusal

-- the answer to an event: its first refusal, or what was done
unfoldable pub answer_of : Processor → Event → Result Done Refusal
answer_of w e = answer_by (done_by w e) (allowed w e)

-- the event makes room in the log, for itself and for later events: a request for an exchange, or a peripheral access
unfoldable pub makes_room : Event → Bool
makes_room (Ask n) = true
makes_room (PpRead a) = true
makes_room (PpWrite a v) = true
makes_room _ = false

-- E21, out of memory: the event is allowed, and the log could not grow for it
pub record IsRefusedGrowth (w : Processor) (e : Event) (answer : Result Done Refusal) : Type 0 where
  pub want : answer ≡ Err OutOfMemory
  pub growing : makes_room e ≡ true
  pub otherwise_allowed : allowed w e ≡ None

-- one of the possible answers to the event
abbrev pub IsAnswer : Processor → Event → Result Done Refusal → Type 0
IsAnswer w e answer = (answer ≡ answer_of w e) ⊎ IsRefusedGrowth w e answer

-- the machine after an answer; a refusal leaves it unchanged
unfoldable pub settled : Processor → Event → Result Done Refusal → Processor
settled w e (Ok done) = after w e
settled w e (Err refusal) = w

-- ---- runs ----

-- each event has one of its possible answers
abbrev pub IsAnswered : Processor → List Event → List (Result Done Refusal) → Type 0
IsAnswered w [] [] = Unit {0}
IsAnswered w [] (a ∷ answers) = ⊥
IsAnswered w (e ∷ events) [] = ⊥
IsAnswered w (e ∷ events) (a ∷ answers) = IsAnswer w e a × IsAnswered (settled w e a) events answers

-- the machine after a run
unfoldable pub settled_all : Processor → List Event → List (Result Done Refusal) → Processor
settled_all w [] answers = w
settled_all w (e ∷ events) [] = w
settled_all w (e ∷ events) (a ∷ answers) = settled_all (settled w e a) events answers

-- a run of events: the answers that it added, and the machine that it left
pub record IsRun (w v : Processor) (events : List Event) (old new : List (Result Done Refusal)) : Type 0 where
  pub given : List (Result Done Refusal)
  pub added : new ≡ old ++ given
  pub answered : IsAnswered w events given
  pub left : v ≡ settled_all w events given
