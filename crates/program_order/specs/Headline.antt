-- The promises about the machine after every run of events. Source: ours.
use Rattle.std.specs.Prelude.{◌≡◌, ℕ, Bool, true, false, not, ◌&&◌, List, [], ◌∷◌, ◌++◌, Option, Some, None, Result}
use Rattle.std.specs.Prelude.{Ok, Err, slice_index_or}
use Rattle.std.specs.List.{list_any, list_all}
use Rattle.instructions.specs.declared.refusal.Halt.{Halt}
use Rattle.instructions.specs.declared.refusal.Refusal.{Refusal}
use Rattle.instructions.specs.declared.refusal.Refusal.TheVariants.{Halted, Faulted}
use Rattle.sequential.specs.declared.state.State.{State}
use Rattle.sequential.specs.Replay.{LogStep, Issued, Exchanged, ReadAt, Wrote, replay, boot}
use Rattle.program_order.specs.declared.event.Done.{Done}
use Rattle.program_order.specs.declared.event.Done.TheVariants.{Word}
use Rattle.program_order.specs.declared.event.Event.{Event}
use Rattle.program_order.specs.declared.event.Event.TheVariants.{Issue, Read, Finish, Store, Accept, Return, BankFree}
use Rattle.program_order.specs.declared.event.Event.TheVariants.{Ask, Exchange, PpRead, PpWrite}
use Rattle.program_order.specs.Processor.{Processor}
use Rattle.program_order.specs.Events.{allowed, after}
use Rattle.program_order.specs.Run.{done_by}

-- ---- the log ----

-- the step that a made exchange adds to the log: the address of the package that was asked for
unfoldable pub exchange_step : Option ℕ → List LogStep
exchange_step None = []
exchange_step (Some n) = Exchanged n ∷ []

-- the steps that a made event adds to the log: an issue adds an instruction, an exchange its package address, a
-- peripheral access its address and the word that it wrote, any other event nothing
unfoldable pub made_steps : Option ℕ → Event → List LogStep
made_steps r Issue = Issued ∷ []
made_steps r Exchange = exchange_step r
made_steps r (PpRead a) = ReadAt a ∷ []
made_steps r (PpWrite a v) = Wrote a v ∷ []
made_steps r _ = []

-- the request after a made event: a request leaves its own, and an exchange leaves none
unfoldable pub made_request : Option ℕ → Event → Option ℕ
made_request r (Ask n) = Some n
made_request r Exchange = None
made_request r _ = r

-- the steps that an event with this answer adds to the log; a refused event adds none
unfoldable pub steps_by : Result Done Refusal → Option ℕ → Event → List LogStep
steps_by (Ok done) r e = made_steps r e
steps_by (Err refusal) r e = []

-- the request after an event with this answer; a refused event leaves it unchanged
unfoldable pub request_by : Result Done Refusal → Option ℕ → Event → Option ℕ
request_by (Ok done) r e = made_request r e
request_by (Err refusal) r e = r

-- the instructions issued, and the exchanges and peripheral accesses made, in order
unfoldable pub logged : Option ℕ → List Event → List (Result Done Refusal) → List LogStep
logged r [] answers = []
logged r (e ∷ events) [] = []
logged r (e ∷ events) (a ∷ answers) = steps_by a r e ++ logged (request_by a r e) events answers

-- ---- the program's run ----

-- the step is an exchange
unfoldable pub is_exchanged : LogStep → Bool
is_exchanged (Exchanged n) = true
is_exchanged _ = false

-- there is no step, or the last one is an exchange
unfoldable pub ends_exchanged : List LogStep → Bool
ends_exchanged [] = true
ends_exchanged (x ∷ []) = is_exchanged x
ends_exchanged (x ∷ y ∷ xs) = ends_exchanged (y ∷ xs)

-- after a fault: the log since the last exchange is a beginning of the program's run, and includes the issue of the
-- instruction that first sets the fault. The run is what the log has since that exchange: the instructions, and the
-- peripheral accesses at their positions
pub record IsFaultedRun (log : List LogStep) (memory : List ℕ) (s : State) : Type 0 where
  -- the steps up to the last exchange lead from boot to the state in which the run starts
  pub before : List LogStep
  pub start : State
  pub ends : ends_exchanged before ≡ true
  pub starts : replay (boot memory) before ≡ Some start
  pub no_fault_at_start : start.fault ≡ false
  -- the steps since then lead from that state to the machine's state
  pub run : List LogStep
  pub log_is : log ≡ before ++ run
  pub no_exchange : list_any is_exchanged run ≡ false
  pub leads : replay start run ≡ Some s
  -- one of them is the instruction that sets the fault
  pub earlier : List LogStep
  pub later : List LogStep
  pub run_is : run ≡ earlier ++ Issued ∷ later
  -- before it, the fault is never set
  pub never_before : (front rest : List LogStep) → earlier ≡ front ++ rest → (t : State) → replay start front ≡ Some t
      → t.fault ≡ false
  -- after it, the fault is always set, whatever follows except an exchange
  pub always_after : (more : List LogStep) → list_any is_exchanged more ≡ false → (t : State)
      → replay start (earlier ++ Issued ∷ more) ≡ Some t → t.fault ≡ true

-- the event is an exchange
unfoldable pub is_exchange : Event → Bool
is_exchange Exchange = true
is_exchange _ = false

-- the event is an exchange, and was made
unfoldable pub exchanges : Event → Result Done Refusal → Bool
exchanges e (Ok done) = is_exchange e
exchanges e (Err refusal) = false

-- no exchange is made: each exchange among the events is refused
unfoldable pub makes_no_exchange : List Event → List (Result Done Refusal) → Bool
makes_no_exchange [] answers = true
makes_no_exchange (e ∷ events) [] = true
makes_no_exchange (e ∷ events) (a ∷ answers) = not (exchanges e a) && makes_no_exchange events answers

-- the step is a peripheral access
unfoldable pub is_access : LogStep → Bool
is_access (ReadAt a) = true
is_access (Wrote a w) = true
is_access _ = false

-- the second log is the first one followed by peripheral accesses, and nothing else
pub record GainsAccesses (old new : List LogStep) : Type 0 where
  pub more : List LogStep
  pub accesses : list_all is_access more ≡ true
  pub gained : new ≡ old ++ more

-- the refusal of an issue while the fault is set: E1, halted, if the machine has halted too, otherwise E2, faulted
unfoldable pub refusal_at_fault : Option Halt → Refusal
refusal_at_fault None = Faulted
refusal_at_fault (Some halt) = Halted halt

-- ---- the headline ----

-- the log of a run from boot
abbrev pub log_of : List Event → List (Result Done Refusal) → List LogStep
log_of events answers = logged None events answers

-- the promises about a machine to which these events with these answers lead from boot
pub record IsFaithful (memory : List ℕ) (events : List Event) (answers : List (Result Done Refusal))
    (w : Processor) : Type 0 where
  -- whenever it is drained, its whole state is the replay of what was issued, exchanged and accessed
  pub replays : w.pending ≡ [] → replay (boot memory) (log_of events answers) ≡ Some w.state
  -- its log is exactly that
  pub log : w.log ≡ log_of events answers
  -- its boot memory is the memory with which it was booted
  pub boot_memory : w.boot_memory ≡ memory
  -- drained or not, a word that a peripheral processor reads from it is that of the replay
  pub reads : (a : ℕ) → allowed w (PpRead a) ≡ None → (s : State)
      × (replay (boot memory) (log_of events answers) ≡ Some s)
      × (done_by w (PpRead a) ≡ Word (slice_index_or s.memory a 0))
  -- if it is drained with the fault set, its state lies on the program's run since the last exchange
  pub fault : w.pending ≡ [] → w.state.fault ≡ true → IsFaultedRun (log_of events answers) memory w.state
  -- while the fault is set nothing is issued, and only an exchange clears it
  pub held : w.state.fault ≡ true → (allowed w Issue ≡ Some (refusal_at_fault w.state.halt))
      × ((e : Event) → is_exchange e ≡ false → (after w e).state.fault ≡ true)
