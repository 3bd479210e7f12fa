-- The events since boot, with their answers, that lead to a machine, whichever calls made them. Source: ours.
use Rattle.std.specs.Prelude.{◌≡◌, ℕ, false, List, ◌++◌, Result, Ok, length, replicate}
use Rattle.instructions.specs.declared.refusal.Refusal.{Refusal}
use Rattle.program_order.specs.declared.event.Done.{Done}
use Rattle.program_order.specs.declared.event.Done.TheVariants.{Made}
use Rattle.program_order.specs.declared.event.Event.{Event}
use Rattle.program_order.specs.Run.{IsAnswered, settled_all}
use Rattle.program_order.specs.Processor.{Processor, boot_processor}
use Rattle.program_order.specs.Drain.{Accepts}

-- the machine as it would be if its seats weren't given out
abbrev pub without_seats : Processor → Processor
without_seats w = record w { seats_given = false }

-- these events with these answers lead from boot to the machine, whether or not its seats were given out
pub record IsReached (memory : List ℕ) (budget : ℕ) (events : List Event) (answers : List (Result Done Refusal))
    (w : Processor) : Type 0 where
  -- each event has one of its possible answers
  pub answered : IsAnswered (boot_processor memory budget) events answers
  -- these answers leave this machine, except for its seats
  pub left : without_seats w ≡ settled_all (boot_processor memory budget) events answers

-- whatever led to the first machine leads, with these further events and answers, to the second
abbrev pub GoesOn : Processor → List Event → List (Result Done Refusal) → Processor → Type 0
GoesOn w more given v =
    (memory : List ℕ) → (budget : ℕ) → (events : List Event) → (answers : List (Result Done Refusal))
    → IsReached memory budget events answers w → IsReached memory budget (events ++ more) (answers ++ given) v

-- whatever led to the first machine also leads to the second
abbrev pub StaysReached : Processor → Processor → Type 0
StaysReached w v =
    (memory : List ℕ) → (budget : ℕ) → (events : List Event) → (answers : List (Result Done Refusal))
    → IsReached memory budget events answers w → IsReached memory budget events answers v

-- these events and `count` more lead to the machine; each of the further events is made and works on what is pending
pub record IsReachedByWork (memory : List ℕ) (budget : ℕ) (events : List Event) (answers : List (Result Done Refusal))
    (count : ℕ) (w : Processor) : Type 0 where
  pub more : List Event
  -- from where the first events led, each further event is allowed and works on what is then pending
  pub work : Accepts (settled_all (boot_processor memory budget) events answers) more
  pub counted : length more ≡ count
  pub reached : IsReached memory budget (events ++ more) (answers ++ replicate count (Ok Made)) w

-- whatever led to the first machine leads, with `count` further events that work on what is pending, to the second
abbrev pub GoesOnByWork : Processor → ℕ → Processor → Type 0
GoesOnByWork w count v =
    (memory : List ℕ) → (budget : ℕ) → (events : List Event) → (answers : List (Result Done Refusal))
    → IsReached memory budget events answers w → IsReachedByWork memory budget events answers count v
