-- The machine under the lock, and the answers of the calls of the lock's holder. Source: ours.
use Rattle.std.specs.Prelude.{◌≡◌, ℕ, Bool, Option, Some, None, Result, Ok, Err}
use Rattle.instructions.specs.declared.refusal.Refusal.{Refusal}
use Rattle.program_order.specs.declared.event.Done.{Done}
use Rattle.program_order.specs.declared.event.Done.TheVariants.{Made}
use Rattle.program_order.specs.declared.event.Event.{Event}
use Rattle.program_order.specs.declared.event.Event.TheVariants.{Ask}
use Rattle.program_order.specs.Processor.{Processor}
use Rattle.program_order.specs.Run.{IsAnswer, settled}
use Rattle.machine.specs.OneEvent.{IsEvent}
use Rattle.machine_lock.specs.CallerKnowledge.{Known, booted_by}

-- the machine under the lock, and whether its users were told to end
pub record Kept : Type 0 where
  pub processor : Processor
  pub is_ended : Bool

-- the same, with this machine; whether its users were told to end is unchanged
abbrev pub with_processor : Kept → Processor → Kept
with_processor k w = record k { processor = w }

-- the caller has seen the machine's whole log
abbrev pub IsCurrent : Processor → Known → Type 0
IsCurrent w k = (k.booted ≡ booted_by w) × (k.log ≡ w.log)

-- the answer of an event, from that of a call that returns a part of it
abbrev pub answered : {T : Type 0} → (T → Done) → Result T Refusal → Result Done Refusal
answered done (Ok x) = Ok (done x)
answered done (Err refusal) = Err refusal

-- the answer of an event, from that of a call that returns only whether the event was made
abbrev pub made_or_refused : {T : Type 0} → Result T Refusal → Result Done Refusal
made_or_refused (Ok x) = Ok Made
made_or_refused (Err refusal) = Err refusal

-- the event with this answer leads from the old machine under the lock to the new one, and changes nothing else
pub record IsHeldEvent (old : Kept) (event : Event) (result : Result Done Refusal) (new : Kept) : Type 0 where
  pub machine : IsEvent old.processor event result new.processor
  pub rest : new ≡ with_processor old new.processor

-- what follows an exchange with this outcome: if it was made and there is a next package, that package is asked for at
-- once and this is the answer to that request; otherwise nothing more is done
abbrev pub IsAskedNext : Processor → Option ℕ → Result (Result (Unit {0}) Refusal) Refusal → Processor → Type 0
IsAskedNext w next (Err refusal) v = v ≡ w
IsAskedNext w None (Ok asked) v = (asked ≡ Ok tt) × (v ≡ w)
IsAskedNext w (Some at) (Ok asked) v =
    IsAnswer w (Ask at) (made_or_refused asked) × (v ≡ settled w (Ask at) (made_or_refused asked))
