-- One event: its answer, and the machine afterwards. Source: ours.
use Rattle.std.specs.Prelude.{◌≡◌, ℕ, true, [], ◌∷◌, Option, Result, Ok, IfErr, slice_index_or}
use Rattle.instructions.specs.declared.refusal.Refusal.{Refusal}
use Rattle.sequential.specs.Replay.{boot}
use Rattle.sequential.specs.UnitIssues.{taken}
use Rattle.program_order.specs.declared.event.Done.{Done}
use Rattle.program_order.specs.declared.event.Done.TheVariants.{Issued, Word}
use Rattle.program_order.specs.declared.event.Event.{Event}
use Rattle.program_order.specs.declared.event.Event.TheVariants.{PpRead}
use Rattle.program_order.specs.declared.event.Note.{Note}
use Rattle.program_order.specs.Processor.{Processor, completed}
use Rattle.program_order.specs.Reached.{GoesOn}
use Rattle.program_order.specs.Refusals.{may_refuse}
use Rattle.program_order.specs.Run.{IsAnswer, settled}
use Rattle.program_order.specs.Telling.{IsNoted, IsWhy}

-- the event, made or refused, has this answer and leads from the old machine to the new machine
pub record IsEvent (old : Processor) (event : Event) (result : Result Done Refusal) (new : Processor) : Type 0 where
  -- the event may have this answer
  pub answer : IsAnswer old event result
  -- the new machine is the old one after this answer; a refusal leaves it unchanged
  pub after : new ≡ settled old event result
  -- the event may have this refusal
  pub named : IfErr result (λ refusal. may_refuse event refusal ≡ true)
  -- the refusals `Halted`, `Faulted` and `MidWord` are true of the state to which the log led
  pub why : IfErr result (λ refusal. IsWhy (completed old) refusal)
  -- an issue returns a reservation if and only if the instruction to which the log led goes to a unit
  pub noted : (note : Option Note) → result ≡ Ok (Issued note)
      → IsNoted (completed old) (taken (boot new.boot_memory) new.log) note
  -- the word that a peripheral processor read is in the state to which the log leads
  pub word : (a : ℕ) → event ≡ PpRead a → (done : Done) → result ≡ Ok done
      → done ≡ Word (slice_index_or (completed new).memory a 0)
  -- the events that led to the old machine, and this event with this answer, lead to the new machine
  pub reached : GoesOn old (event ∷ []) (result ∷ []) new
