-- Handing out the seats changes neither an answer nor an event's effect.
use Rattle.std.proofs.Common.{arith, ◌≡◌, ℕ, Bool, List, [], ◌∷◌, Option, Some, None, refl, ap, ◌∙◌}
use Rattle.std.specs.Prelude.{Result, Ok, Err}
use Rattle.instructions.specs.declared.refusal.Refusal.{Refusal}
use Rattle.relocation.specs.declared.area.Access.{Access}
use Rattle.relocation.specs.declared.area.Access.TheVariants.{Load as LoadInto, Store as StoreWord}
use Rattle.sequential.specs.declared.fetching.Fetched.{Fetched}
use Rattle.in_flight.specs.declared.pending.Pending.{Pending}
use Rattle.program_order.specs.declared.event.Done.{Done}
use Rattle.program_order.specs.declared.event.Event.{Event}
use Rattle.in_flight.specs.declared.pending.Stage.{Stage}
use Rattle.hopper.specs.declared.reference.Reference.{Reference}
use Rattle.program_order.specs.Run.{IsAnswer, IsAnswered, answer_by, answer_of, done_by, note_by, settled, settled_all}
use Rattle.instructions.specs.Finding.{Found}
use Rattle.program_order.specs.Processor.{Processor}
use Rattle.program_order.specs.Events.{after, after_found, allowed, tests_of}
use Rattle.program_order.specs.Memory.{after_accept, after_return}
use Rattle.program_order.specs.Exchange.{after_exchange}
use Rattle.program_order.specs.Peripheral.{after_pp_read, after_pp_write, word_read}
use Rattle.program_order.specs.Units.{after_finish, after_read, after_store, after_work}
use Rattle.program_order.specs.Issue.{after_issue}
use Rattle.program_order.specs.Drain.{Accepts}

-- the machine with its seats handed out or not
abbrev pub seated : Bool → Processor → Processor
seated b w = record w { seats_given = b }

same_note : (b : Bool) (w : Processor) (f : Fetched) → note_by (seated b w) f ≡ note_by w f
unfolding note_by
same_note b w f = grind arith

same_done : (b : Bool) (w : Processor) (e : Event) → done_by (seated b w) e ≡ done_by w e
unfolding done_by word_read
same_done b w e = grind (arith, same_note)

same_allowed : (b : Bool) (w : Processor) (e : Event) → allowed (seated b w) e ≡ allowed w e
unfolding allowed tests_of
same_allowed b w e = grind arith

same_answer : (b : Bool) (w : Processor) (e : Event) → answer_of (seated b w) e ≡ answer_of w e
unfolding answer_of
same_answer b w e =
    ap (λ d. answer_by d (allowed (seated b w) e)) (same_done b w e) ∙ ap (answer_by (done_by w e)) (same_allowed b w e)

issue_after : (b : Bool) (w : Processor) (f : Fetched) → after_issue (seated b w) f ≡ seated b (after_issue w f)
unfolding after_issue
issue_after b w f = grind arith

-- the effect on the found instruction
found_after : {K : Type 0} (b : Bool) (w : Processor) (o : Option (Found Pending K))
    (f g : Found Pending K → Processor) → ((x : Found Pending K) → f x ≡ seated b (g x))
    → after_found (seated b w) o f ≡ seated b (after_found w o g)
unfolding after_found
found_after b w None f g h = refl
found_after b w (Some x) f g h = h x

store_after : (b : Bool) (w : Processor) (f : Found Pending Stage) (t : Stage)
    → after_store (seated b w) f t ≡ seated b (after_store w f t)
unfolding after_store after_work
store_after b w f t = grind arith

accept_after : (b : Bool) (w : Processor) (f : Found Pending Reference) (a : ℕ) (access : Access)
    → after_accept (seated b w) f a access ≡ seated b (after_accept w f a access)
unfolding after_accept
accept_after b w f a (LoadInto n) = refl
accept_after b w f a (StoreWord v) = refl

exchange_after : (b : Bool) (w : Processor) (r : Option ℕ)
    → after_exchange (seated b w) r ≡ seated b (after_exchange w r)
unfolding after_exchange
exchange_after b w None = refl
exchange_after b w (Some n) = refl

same_after : (b : Bool) (w : Processor) (e : Event) → after (seated b w) e ≡ seated b (after w e)
unfolding after after_read after_finish after_return after_pp_read after_pp_write
same_after b w e = grind (arith, issue_after, found_after, store_after, accept_after, exchange_after)

same_settled : (b : Bool) (w : Processor) (e : Event) (a : Result Done Refusal)
    → settled (seated b w) e a ≡ seated b (settled w e a)
unfolding settled
same_settled b w e (Ok d) = same_after b w e
same_settled b w e (Err k) = refl

pub same_run : (b : Bool) (w : Processor) (events : List Event) (answers : List (Result Done Refusal))
    → settled_all (seated b w) events answers ≡ seated b (settled_all w events answers)
unfolding settled_all
same_run b w [] answers = refl
same_run b w (e ∷ events) [] = refl
same_run b w (e ∷ events) (a ∷ answers) =
    ap (λ x. settled_all x events answers) (same_settled b w e a) ∙ same_run b (settled w e a) events answers

-- a possible answer is possible whether or not the seats were handed out
seated_answer : (b : Bool) (w : Processor) (e : Event) (a : Result Done Refusal) → IsAnswer w e a
    → IsAnswer (seated b w) e a
seated_answer b w e a h = grind (arith, same_answer, same_allowed)

pub seated_answers : (b : Bool) (w : Processor) (events : List Event) (answers : List (Result Done Refusal))
    → IsAnswered w events answers → IsAnswered (seated b w) events answers
seated_answers b w [] [] h = h
seated_answers b w [] (a ∷ answers) h = h
seated_answers b w (e ∷ events) [] h = h
seated_answers b w (e ∷ events) (a ∷ answers) h =
    search (arith, seated_answers b (settled w e a) events answers h.1, seated_answer, same_settled)

pub seated_accepts : (b : Bool) (w : Processor) (es : List Event) → Accepts w es → Accepts (seated b w) es
seated_accepts b w [] h = tt
seated_accepts b w (e ∷ es) h = grind (arith, seated_accepts b (after w e) es h.2, same_allowed, same_after)
