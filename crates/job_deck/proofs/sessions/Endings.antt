-- How sessions end.
use Rattle.std.proofs.Common.{◌≡◌, ℕ, ◌+◌, Bool, true, false, List, [], Option, Some, Result, Ok, Err, inr, refl, sym}
use Rattle.std.proofs.Common.{ap, ◌∙◌, subst}
use Rattle.std.proofs.KnownBytes.{Appends-trans, Appends-kept}
use Rattle.sequential.specs.Log.{entries_of}
use Rattle.sequential.specs.Replay.{LogStep, replay, boot}
use Rattle.sequential.specs.declared.state.State.{State}
use Rattle.in_flight.specs.Lookup.{is_pending}
use Rattle.program_order.specs.Reached.{GoesOn, GoesOnByWork, IsReached}
use Rattle.program_order.specs.Drain.{Works}
use Rattle.program_order.specs.Processor.{Processor, boot_processor, replayed}
use Rattle.instructions.specs.declared.refusal.Refusal.{Refusal}
use Rattle.deck.specs.Deck.{Good, deck}
use Rattle.deck.specs.declared.deck.Show.{Show}
use Rattle.deck.specs.declared.deck.Deck.{Deck}
use Rattle.job_deck.specs.AnswerText.{answer_line}
use Rattle.device_text.specs.Device.{Moves}
use Rattle.job_deck.specs.Dump.{dump_text}
use Rattle.device_text.specs.Line.{lines_of}
use Rattle.job_deck.specs.Schedule.{line_says}
use Rattle.job_deck.specs.Session.{IsDump, IsLast, IsReply, Session}
use Rattle.job_deck.specs.inner.SessionParts.{Closes, AnswersLines, Dumps, last_line}
use Rattle.job_deck.specs.SessionResult.{Performs, RunsSession, RunsSessionFromBoot}
use Rattle.job_deck.specs.declared.schedule.ScheduleLine.{ScheduleLine}
use Rattle.instructions.specs.declared.refusal.Refusal.TheVariants as refusals
use Rattle.device_text.proofs.Moving.{Moves-trans, Moves-weaker}

-- the dump of a snapshot
pub is_dump : (w : Processor) (s state : State) (l log : List LogStep) (m : List ℕ) (shows : List Show)
    → is_pending w.pending ≡ false → s ≡ w.state → l ≡ w.log → m ≡ w.boot_memory → replay (boot m) l ≡ Some s
    → state ≡ s → log ≡ l → IsDump w shows (dump_text state (entries_of log) shows)
unfolding replayed
is_dump w s state l log m shows drained same_state same_log same_memory r e f =
    record {
      drained = drained;
      replay = ap (λ x. replay (boot x) w.log) (sym same_memory) ∙ ap (λ x. replay (boot m) x) (sym same_log) ∙ r
          ∙ ap Some same_state;
      dump = ap (λ x. dump_text x (entries_of log) shows) (e ∙ same_state)
          ∙ ap (λ x. dump_text w.state (entries_of x) shows) (f ∙ same_log);
    }

-- the dump of the drained machine ends a session that says `drain`
pub drain_closes : (r : Result (Unit {0}) Refusal) (drains : Bool) (w v : Processor) (count : ℕ)
    (shows : List Show) (old new : Option (List ℕ)) → drains ≡ true → Works w v count → GoesOnByWork w count v
    → Dumps r v shows old new → Closes r (last_line drains) w shows old new
drain_closes r drains w v count shows old new d a b h =
    subst (λ x. Closes r (last_line x) w shows old new) (sym d) (closes r h)
  where
    closes : (r : Result (Unit {0}) Refusal) → Dumps r v shows old new → Closes r (last_line true) w shows old new
    closes (Ok x) k = (k.0, (v, count, a, b, k.1), k.2)
    closes (Err refusals.OutOfMemory) k = k
    closes (Err refusals.Write) k = (k.0, (v, count, a, b, k.1), k.2)
    closes (Err other) k = absurd k

is_last : (drains : Bool) → IsLast (last_line drains)
is_last true = tt
is_last false = tt

-- the reply to the last line, by what the next line of the session says
reply_there : (said told : ScheduleLine) (w v : Processor) (shows : List Show) (text : List ℕ) → told ≡ said → w ≡ v
    → IsReply said v shows text → IsReply told w shows text
reply_there said told w v shows text e f h =
    subst (λ x. IsReply told x shows text) (sym f) (subst (λ x. IsReply x v shows text) (sym e) h)

closed_there : (r : Result (Unit {0}) Refusal) (drains : Bool) (w v : Processor) (n : ℕ) (shows : List Show)
    (xs ys : List ℕ) (old mid new : Option (List ℕ)) → AnswersLines (Ok drains) w v n xs ys old mid
    → Closes r (last_line drains) v shows mid new → RunsSession r (GoesOn w) w n shows xs ys old new
closed_there (Ok x) drains w v n shows xs ys old mid new h k = (
  h.0,
  k.0,
  subst IsLast (sym h.2) (is_last drains),
  reply_there (last_line drains) (line_says h.0.number h.0.left) h.0.machine v shows k.0 h.2 h.1 k.1,
  h.3,
  Appends-trans old mid new h.0.text k.0 h.4 k.2,
)
closed_there (Err refusals.OutOfMemory) drains w v n shows xs ys old mid new h k =
    (h.0, subst IsLast (sym h.2) (is_last drains), h.3, Appends-kept old mid new h.0.text h.4 k)
closed_there (Err refusals.Write) drains w v n shows xs ys old mid new h k =
    let cut = k.2 in (
      h.0,
      k.0,
      reply_there (last_line drains) (line_says h.0.number h.0.left) h.0.machine v shows k.0 h.2 h.1 k.1,
      h.3,
      (cut.1.0, cut.0, cut.1.1, Appends-trans old mid new h.0.text cut.1.0 h.4 cut.1.2),
    )
closed_there (Err other) drains w v n shows xs ys old mid new h k = absurd k

pub session_closed : (a b : Option (List ℕ)) (r : Result (Unit {0}) Refusal) (drains : Bool) (w v : Processor)
    (n : ℕ) (shows : List Show) (old mid new : Option (List ℕ))
    → Moves a b (λ xs ys. AnswersLines (Ok drains) w v n xs ys old mid) → Closes r (last_line drains) v shows mid new
    → Moves a b (λ xs ys. RunsSession r (GoesOn w) w n shows xs ys old new)
session_closed a b r drains w v n shows old mid new told closed =
    Moves-weaker a b (λ xs ys. AnswersLines (Ok drains) w v n xs ys old mid)
    (λ xs ys. RunsSession r (GoesOn w) w n shows xs ys old new)
    (λ xs ys h. closed_there r drains w v n shows xs ys old mid new h closed) told

stopped_there : (e : Refusal) (w v : Processor) (n : ℕ) (shows : List Show) (xs ys : List ℕ)
    (old new : Option (List ℕ)) → AnswersLines (Err e) w v n xs ys old new
    → RunsSession (Err e) (GoesOn w) w n shows xs ys old new
stopped_there (refusals.Deck m fault) w v n shows xs ys old new h = h
stopped_there refusals.Read w v n shows xs ys old new h = h
stopped_there refusals.Write w v n shows xs ys old new h = (
  h.0,
  answer_line h.2,
  subst (λ x. IsReply x h.0.machine shows (answer_line h.2)) (sym h.3) (h.2, h.4, refl),
  h.5,
  h.6,
)
stopped_there other w v n shows xs ys old new h = absurd h

pub session_stopped : (a b : Option (List ℕ)) (e : Refusal) (w v : Processor) (n : ℕ) (shows : List Show)
    (old new : Option (List ℕ)) → Moves a b (λ xs ys. AnswersLines (Err e) w v n xs ys old new)
    → Moves a b (λ xs ys. RunsSession (Err e) (GoesOn w) w n shows xs ys old new)
session_stopped a b e w v n shows old new told =
    Moves-weaker a b (λ xs ys. AnswersLines (Err e) w v n xs ys old new)
    (λ xs ys. RunsSession (Err e) (GoesOn w) w n shows xs ys old new)
    (λ xs ys h. stopped_there e w v n shows xs ys old new h) told

-- ---- the deck with its schedule

-- a session of a booted machine after no events is a session from boot
session_from_boot : (memory : List ℕ) (budget n : ℕ) (w : Processor) (lines : List (List ℕ × List ℕ))
    → IsReached memory budget [] [] w → Session (GoesOn w) w n lines → Session (IsReached memory budget) w n lines
session_from_boot memory budget n w lines booted s =
    record {
      events = s.events;
      left = s.left;
      said = s.said;
      answers = s.answers;
      answered = s.answered;
      machine = s.machine;
      leads = s.leads;
      led = s.led memory budget [] [] booted;
      number = s.number;
      numbered = s.numbered;
      text = s.text;
      written = s.written;
    }

runs_from_boot : (r : Result (Unit {0}) Refusal) (memory : List ℕ) (budget n : ℕ) (w : Processor)
    (shows : List Show) (xs ys : List ℕ) (old new : Option (List ℕ)) → IsReached memory budget [] [] w
    → RunsSession r (GoesOn w) w n shows xs ys old new → RunsSession r (IsReached memory budget) w n shows xs ys old new
unfolding session_from_boot
runs_from_boot (Ok x) memory budget n w shows xs ys old new booted h =
    (session_from_boot memory budget n w (lines_of xs) booted h.0, h.1, h.2, h.3, h.4, h.5)
runs_from_boot (Err (refusals.Deck m fault)) memory budget n w shows xs ys old new booted h =
    (session_from_boot memory budget n w (lines_of xs) booted h.0, h.1, h.2, h.3, h.4)
runs_from_boot (Err refusals.OutOfMemory) memory budget n w shows xs ys old new booted h =
    (session_from_boot memory budget n w (lines_of xs) booted h.0, h.1, h.2, h.3)
runs_from_boot (Err refusals.Read) memory budget n w shows xs ys old new booted h =
    (session_from_boot memory budget n w (lines_of xs) booted h.0, h.1, h.2, h.3, h.4)
runs_from_boot (Err refusals.Write) memory budget n w shows xs ys old new booted h =
    (session_from_boot memory budget n w (lines_of xs) booted h.0, h.1, h.2, h.3, h.4)
runs_from_boot (Err other) memory budget n w shows xs ys old new booted h = absurd h

performed_there : (r : Result (Unit {0}) Refusal) (budget n : ℕ) (d : Deck) (ys zs : List ℕ)
    (old new : Option (List ℕ)) → RunsSessionFromBoot r budget d n ys zs old new
    → Performs r budget (Good d n ys) zs old new
performed_there (Ok x) budget n d ys zs old new h = h
performed_there (Err (refusals.Deck m fault)) budget n d ys zs old new h = h
performed_there (Err refusals.OutOfMemory) budget n d ys zs old new h = inr h
performed_there (Err refusals.Read) budget n d ys zs old new h = inr h
performed_there (Err refusals.Write) budget n d ys zs old new h = h
performed_there (Err other) budget n d ys zs old new h = absurd h

pub performed : (a b c : Option (List ℕ)) (r : Result (Unit {0}) Refusal) (budget n : ℕ) (d : Deck)
    (w : Processor) (old new : Option (List ℕ)) → w ≡ boot_processor d.image.memory budget
    → IsReached d.image.memory budget [] [] w → Moves a b (λ xs ys. deck xs ≡ Good d n ys)
    → Moves b c (λ ys zs. RunsSession r (GoesOn w) w (n + 1) d.shows ys zs old new)
    → Moves a c (λ xs zs. Performs r budget (deck xs) zs old new)
performed a b c r budget n d w old new booted reached read told =
    Moves-trans a b c (λ xs ys. deck xs ≡ Good d n ys)
    (λ ys zs. RunsSession r (GoesOn w) w (n + 1) d.shows ys zs old new)
    (λ xs zs. Performs r budget (deck xs) zs old new) (λ xs ys zs h k.
    let from_boot = runs_from_boot r d.image.memory budget (n + 1) w d.shows ys zs old new reached k in
    subst (λ x. Performs r budget x zs old new) (sym h)
    (performed_there r budget n d ys zs old new
    (subst (λ x. RunsSession r (IsReached d.image.memory budget) x (n + 1) d.shows ys zs old new) booted
    from_boot))) read told
