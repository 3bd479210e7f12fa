-- The next event if nothing is pending, as the answer to an exchange decides it.
use Rattle.std.specs.Prelude.{◌≡◌, Option, Some, None, Result, Ok, Err, is_none, if◌then◌else◌}
use Rattle.std.proofs.Common.{refl, sym, ap, ◌∙◌, true≢false, inl, inr}
use Rattle.instructions.specs.declared.refusal.Refusal.{Refusal}
use Rattle.program_order.specs.declared.event.Done.{Done}
use Rattle.program_order.specs.declared.event.Event.{Event}
use Rattle.program_order.specs.declared.event.Event.TheVariants.{Issue, Exchange}
use Rattle.program_order.specs.Events.{allowed}
use Rattle.program_order.specs.Processor.{Processor}
use Rattle.program_order.specs.Run.{IsAnswer, answer_by, answer_of, makes_room}
use Rattle.embedding.specs.Keeping.{idle_event}

is_made : Result Done Refusal → Event
is_made (Ok done) = Exchange
is_made (Err refusal) = Issue

-- the answer to an exchange decides whether an exchange or an issue is made
chosen : (done : Done) (o : Option Refusal) → (if is_none o then Exchange else Issue) ≡ is_made (answer_by done o)
unfolding answer_by is_made
chosen done None = refl
chosen done (Some refusal) = refl

pub idle_exchange : (w : Processor) (done : Done) → IsAnswer w Exchange (Ok done) → Exchange ≡ idle_event w
unfolding answer_of is_made makes_room
idle_exchange w done (inl same) = ap is_made same ∙ sym (chosen _ (allowed w Exchange))
idle_exchange w done (inr growth) = absurd (true≢false (sym growth.growing))

pub idle_issue : (w : Processor) (refusal : Refusal) → IsAnswer w Exchange (Err refusal) → Issue ≡ idle_event w
unfolding answer_of is_made makes_room
idle_issue w refusal (inl same) = ap is_made same ∙ sym (chosen _ (allowed w Exchange))
idle_issue w refusal (inr growth) = absurd (true≢false (sym growth.growing))
