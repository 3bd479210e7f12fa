-- Reaching a machine, call by call.
use Rattle.std.proofs.Common.{◌≡◌, ℕ, true, false, List, [], ◌∷◌, ◌++◌, drop, length, replicate, append_assoc, None}
use Rattle.std.proofs.Common.{refl, sym, ap, ◌∙◌, subst, inl, arith}
use Rattle.std.proofs.Math.Seq.{drop-append_seam}
use Rattle.std.specs.Prelude.{Result, Ok}
use Rattle.instructions.specs.declared.refusal.Refusal.{Refusal}
use Rattle.program_order.specs.declared.event.Done.{Done}
use Rattle.program_order.specs.declared.event.Done.TheVariants.{Made}
use Rattle.program_order.specs.declared.event.Event.{Event}
use Rattle.program_order.specs.Headline.{GainsAccesses, makes_no_exchange}
use Rattle.program_order.specs.Reached.{GoesOn, GoesOnByWork, IsReached, without_seats}
use Rattle.program_order.specs.Run.{IsAnswer, IsAnswered, IsRun, answer_by, answer_of, done_by, settled, settled_all}
use Rattle.program_order.specs.Processor.{Processor, boot_processor}
use Rattle.program_order.specs.Events.{after, allowed}
use Rattle.program_order.specs.Drain.{Accepts, Works, leads_to}
use Rattle.program_order.proofs.draining.OnPending.{is_work, on_pending}
use Rattle.program_order.proofs.theorem.Headline.{fault_run}
use Rattle.program_order.proofs.reaching.Runs.{answered_append, answered_rest, settled_append}
use Rattle.program_order.proofs.reaching.Seats.{same_run, seated_accepts, seated_answers}

-- ---- one call ----

pub boot_reached : (memory : List ℕ) (budget : ℕ) (w : Processor) → w ≡ boot_processor memory budget
    → IsReached memory budget [] [] w
unfolding settled_all boot_processor
boot_reached memory budget w e = record { answered = tt; left = ap (λ x. without_seats x) e }

pub goes_on : (w v : Processor) (more : List Event) (given : List (Result Done Refusal)) → IsAnswered w more given
    → v ≡ settled_all w more given → GoesOn w more given v
goes_on w v more given h e memory budget events answers r =
    grind (arith, answered_append, seated_answers, same_run, settled_append)

pub event_goes_on : (w v : Processor) (e : Event) (a : Result Done Refusal) → IsAnswer w e a → v ≡ settled w e a
    → GoesOn w (e ∷ []) (a ∷ []) v
unfolding settled_all
event_goes_on w v e a h k = goes_on w v (e ∷ []) (a ∷ []) (h, tt) k

work_done : (w : Processor) (e : Event) → is_work e ≡ true → done_by w e ≡ Made
unfolding is_work done_by
work_done w e h = grind arith

-- an allowed event that serves a pending instruction answers `Made`
work_answer : (w : Processor) (e : Event) → is_work e ≡ true → allowed w e ≡ None → IsAnswer w e (Ok Made)
unfolding answer_of answer_by
work_answer w e i h = inl (ap Ok (sym (work_done w e i)) ∙ ap (answer_by (done_by w e)) (sym h))

pub work_goes_on : (w v : Processor) (e : Event) → is_work e ≡ true → allowed w e ≡ None → v ≡ after w e
    → GoesOn w (e ∷ []) (Ok Made ∷ []) v
unfolding settled
work_goes_on w v e i h k = event_goes_on w v e (Ok Made) (work_answer w e i h) k

pub run_goes_on : (w v : Processor) (events : List Event) (old new : List (Result Done Refusal))
    → IsRun w v events old new → GoesOn w events (drop (length old) new) v
run_goes_on w v events old new r =
    subst (λ given. GoesOn w events given v)
    (sym (drop-append_seam old r.given) ∙ ap (drop (length old)) (sym r.added))
    (goes_on w v events r.given r.answered r.left)

-- ---- a drain ----

accepted_answers : (w : Processor) (es : List Event) → Accepts w es → IsAnswered w es (replicate (length es) (Ok Made))
unfolding settled
accepted_answers w [] h = tt
accepted_answers w (e ∷ es) h = (work_answer w e (on_pending w.pending e h.1) h.0, accepted_answers (after w e) es h.2)

accepted_leads : (w : Processor) (es : List Event) → leads_to w es ≡ settled_all w es (replicate (length es) (Ok Made))
unfolding leads_to settled_all settled
accepted_leads w [] = refl
accepted_leads w (e ∷ es) = accepted_leads (after w e) es

pub works_go_on : (w v : Processor) (n : ℕ) → Works w v n → GoesOnByWork w n v
works_go_on w v n k memory budget events answers r =
    let leads = k.leads in
    grind (
      arith,
      seated_accepts false w k.events k.accepted,
      goes_on w v k.events (replicate (length k.events) (Ok Made)) (accepted_answers w k.events k.accepted) (leads ∙ accepted_leads w k.events) memory budget events answers r,
      accepted_answers w k.events k.accepted,
      accepted_leads w k.events,
    )

-- ---- one call after another ----

pub goes_on_then : (w x v : Processor) (es fs : List Event) (given more : List (Result Done Refusal))
    → GoesOn w es given x → GoesOn x fs more v → GoesOn w (es ++ fs) (given ++ more) v
goes_on_then w x v es fs given more g h memory budget events answers r = grind (arith, append_assoc)

-- ---- what was reached with the fault set ----

pub fault_reached : (memory : List ℕ) (budget : ℕ) (events more : List Event)
    (answers given : List (Result Done Refusal)) (w v : Processor) → IsReached memory budget events answers w
    → w.state.fault ≡ true → IsReached memory budget (events ++ more) (answers ++ given) v
    → makes_no_exchange more given ≡ true → GainsAccesses w.log v.log × (v.state.fault ≡ true)
fault_reached memory budget events more answers given w v r f s n =
    let first = settled_all (boot_processor memory budget) events answers in
    let k = fault_run first more given (ap (λ (x : Processor). x.state.fault) (sym r.left) ∙ f)
    (answered_rest (boot_processor memory budget) events more answers given r.answered s.answered) n in
    grind (arith, settled_append)
