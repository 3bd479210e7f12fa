use Rattle.std.proofs.Common.{◌≡◌, ℕ, ◌+◌, List, ◌++◌, Option, Ok, subst}
use Rattle.std.specs.Prelude.{Result}
use Rattle.std.specs.Io.KnownBytes.{Appends}
use Rattle.std.specs.List.{flat_map}
use Rattle.instructions.specs.declared.refusal.Refusal.{Refusal}
use Rattle.program_order.specs.declared.event.Done.{Done}
use Rattle.program_order.specs.declared.event.Event.{Event}
use Rattle.program_order.specs.Headline.{IsFaithful}
use Rattle.program_order.specs.Reached.{IsReached}
use Rattle.program_order.specs.Processor.{Processor}
use Rattle.job_deck.specs.AnswerText.{answer_line}
use Rattle.deck.specs.Deck.{Good, Reading, deck}
use Rattle.deck.specs.declared.deck.Deck.{Deck}
use Rattle.device_text.specs.Line.{lines_of}
use Rattle.job_deck.specs.Session.{Says}
use Rattle.job_deck.specs.SessionResult.{Performs, RunsSessionFromBoot}
use Rattle.device_text.proofs.Moving.{Moves-weaker}
use Rattle.text_tests.proofs.led_tests.faithful_session.Goals as goal

-- the theorem for a session that ran to its last line
abbrev IsFaithfulSession : Deck → ℕ → List ℕ → Option (List ℕ) → Option (List ℕ) → Type 0
IsFaithfulSession whole n after old new =
    (events : List Event) × ((answers : List (Result Done Refusal))
    × ((w : Processor) × ((left : List (List ℕ × List ℕ)) × ((text : List ℕ)
    × (Says (n + 1) events (lines_of after) left
    × (Appends old new (flat_map answer_line answers ++ text) × IsFaithful whole.image.memory events answers w))))))

-- the theorem about machines reached from boot
abbrev Law : Type 0
Law = (memory : List ℕ) → (budget : ℕ) → (events : List Event) → (answers : List (Result Done Refusal))
    → (w : Processor) → IsReached memory budget events answers w → IsFaithful memory events answers w

is_faithful_session : (law : Law) (x : Unit {0}) (budget : ℕ) (whole : Deck) (n : ℕ) (after rest : List ℕ)
    (old new : Option (List ℕ)) → RunsSessionFromBoot (Ok x) budget whole n after rest old new
    → IsFaithfulSession whole n after old new
is_faithful_session law x budget whole n after rest old new h =
    let s = h.0 in (
      s.events,
      (
        s.answers,
        (
          s.machine,
          (
            s.left,
            (
              h.1,
              (
                s.said,
                (
                  subst (λ t. Appends old new (t ++ h.1)) s.written h.5,
                  law whole.image.memory budget s.events s.answers s.machine s.led,
                ),
              ),
            ),
          ),
        ),
      ),
    )

faithful_session_there : (law : Law) (r : Result (Unit {0}) Refusal) (x : Unit {0}) (budget : ℕ) (reading : Reading)
    (rest : List ℕ) (old new : Option (List ℕ)) → r ≡ Ok x → Performs r budget reading rest old new → (whole : Deck)
    → (n : ℕ) → (after : List ℕ) → reading ≡ Good whole n after → IsFaithfulSession whole n after old new
faithful_session_there law r x budget reading rest old new ok told whole n after e =
    is_faithful_session law x budget whole n after rest old new
    (subst (λ k. Performs (Ok x) budget k rest old new) e
    (subst (λ k. Performs k budget reading rest old new) ok told))

pub returns : goal.returns
returns g c =
    let old = g.W.Write.contents c.args.writer.now in
    let new = g.W.Write.contents c.events.new.writer in
    Moves-weaker (g.R.Read.remaining c.args.reader.now) (g.R.Read.remaining c.events.new.reader)
    (λ xs rest. Performs c.events.result c.args.budget (deck xs) rest old new)
    (λ xs rest. (whole : Deck) → (n : ℕ) → (after : List ℕ) → deck xs ≡ Good whole n after
    → IsFaithfulSession whole n after old new)
    (λ xs rest told. faithful_session_there c.what_is_reached_is_faithful.ensures c.events.result c.in_default.field-0
    c.args.budget (deck xs) rest old new c.in_default.is told)
    c.events.ensures
