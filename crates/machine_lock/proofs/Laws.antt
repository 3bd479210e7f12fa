-- An event under the lock: the log after it, the facts in its answer, and its caller's pass.
use Rattle.std.proofs.Common.{◌≡◌, ℕ, length, Bool, true, false, List, [], ◌∷◌, ◌++◌, Option, Some, None, refl, sym, ap}
use Rattle.std.proofs.Common.{◌∙◌, subst, get_or, inl, inr}
use Rattle.std.proofs.lemmas.List.{append-nil}
use Rattle.std.specs.Prelude.{Result, Ok, Err, MatchResult}
use Rattle.instructions.specs.declared.refusal.Refusal.{Refusal}
use Rattle.instructions.specs.declared.refusal.Refusal.TheVariants.{Budget, Nothing}
use Rattle.sequential.specs.Log.{issued}
use Rattle.program_order.specs.Invariant.{IsReplay, IsWithinBudget}
use Rattle.sequential.specs.Replay.{LogStep, Issued, Exchanged, ReadAt, Wrote, boot, replay}
use Rattle.sequential.specs.UnitIssues.{taken}
use Rattle.program_order.specs.declared.event.Done.{Done}
use Rattle.program_order.specs.declared.event.Done.TheVariants.{Issued as DoneIssue, Word, Made as DoneMade}
use Rattle.program_order.specs.declared.event.Event.{Event}
use Rattle.program_order.specs.declared.event.Event.TheVariants.{Issue, Read, Finish, Store, Accept, Return, BankFree}
use Rattle.program_order.specs.declared.event.Event.TheVariants.{Ask, Exchange, PpRead, PpWrite}
use Rattle.program_order.specs.declared.event.Note.{Note}
use Rattle.program_order.specs.Events.{after, allowed}
use Rattle.program_order.specs.Headline.{exchange_step, made_steps}
use Rattle.program_order.specs.Processor.{Processor, completed, replayed}
use Rattle.program_order.specs.Run.{IsAnswer, answer_by, answer_of, done_by, makes_room, settled}
use Rattle.program_order.specs.Telling.{IsNoted, IsWhy}
use Rattle.machine_lock.proofs.Budgets.{exchange_budget, issue_budget}
use Rattle.program_order.proofs.keeping.Numbering.{ok_done}
use Rattle.program_order.proofs.keeping.Telling.{exchange_asked}
use Rattle.program_order.proofs.theorem.Headline.{Books, books_after}
use Rattle.program_order.proofs.theorem.Theorem.{made_allowed}
use Rattle.atomic_table.specs.Seated.{TableId}
use Rattle.atomic_table.specs.Table.{Me}
use Rattle.atomic_table.specs.declared.shared.Seat.{Seat}
use Rattle.machine_lock.specs.CallerKnowledge.{Known, known, StartsWith, IsMade, Learnt, IsNoteOf, IsWhyOf, Booted}
use Rattle.machine_lock.specs.CallerKnowledge.{booted_by, booted_with, HasReplay, IsWordOf}
use Rattle.machine.specs.OneEvent.{IsEvent}
use Rattle.machine_lock.specs.Held.{IsCurrent, IsHeldEvent, Kept, with_processor}
use Rattle.machine_lock.specs.inner.LockInvariant.{IsLocked, IsLogged, last_step}
use Rattle.machine_lock.specs.inner.Rules.{History, Knowing, history, past, keeper, caller, Continues}

-- ---- what an answer has ----

-- the reservation in the answer to an issue, if there is one
abbrev pub note_in : Done → Option Note
note_in (DoneIssue note) = note
note_in (Word _) = None
note_in DoneMade = None

-- the word in the answer to a peripheral read, or +0
abbrev pub word_in : Done → ℕ
word_in (DoneIssue _) = 0
word_in (Word word) = word
word_in DoneMade = 0

-- ---- what an event leaves ----

pub last_step-push : (xs : List LogStep) (x : LogStep) → last_step (xs ++ x ∷ []) ≡ x
last_step-push [] x = refl
last_step-push (y ∷ []) x = refl
last_step-push (y ∷ z ∷ zs) x = last_step-push (z ∷ zs) x

-- the values given at boot are unchanged
booted_as : {r : Option ℕ} {xs : List LogStep} (w v : Processor) → Books w v r xs → booted_by v ≡ booted_by w
booted_as w v b i = booted_with (b.boot i) (b.budget i)

made_after : (w v : Processor) (e : Event) (a : Result Done Refusal) (d : Done) → v ≡ settled w e a → a ≡ Ok d
    → v ≡ after w e
unfolding settled
made_after w v e a d s o = s ∙ ap (settled w e) o

pub refused_same : (w v : Processor) (e : Event) (a : Result Done Refusal) (k : Refusal) → v ≡ settled w e a → a ≡ Err k
    → v ≡ w
unfolding settled
refused_same w v e a k s o = s ∙ ap (settled w e) o

-- a refused event leaves the log unchanged
pub refused_past : (w v : Processor) (e : Event) (a : Result Done Refusal) (k : Refusal) → v ≡ settled w e a
    → a ≡ Err k → past v ≡ past w
refused_past w v e a k s o = ap past (refused_same w v e a k s o)

-- whether an event isn't logged
abbrev pub is_quiet : Event → Bool
is_quiet Issue = false
is_quiet Exchange = false
is_quiet (PpRead a) = false
is_quiet (PpWrite a v) = false
is_quiet _ = true

quiet_steps : (r : Option ℕ) (e : Event) → is_quiet e ≡ true → made_steps r e ≡ []
unfolding made_steps
quiet_steps r Issue h = absurd (cc)
quiet_steps r (Read u) h = refl
quiet_steps r (Finish u) h = refl
quiet_steps r (Store u) h = refl
quiet_steps r (Accept p) h = refl
quiet_steps r (Return c) h = refl
quiet_steps r (BankFree b) h = refl
quiet_steps r (Ask n) h = refl
quiet_steps r Exchange h = absurd (cc)
quiet_steps r (PpRead a) h = absurd (cc)
quiet_steps r (PpWrite a v) h = absurd (cc)

-- such an event leaves the log unchanged
quiet : (w v : Processor) (e : Event) → is_quiet e ≡ true → v ≡ after w e → past v ≡ past w
quiet w v e q h =
    let b = books_after w e in
    ap past h
    ∙ ap (λ m. history m (after w e).log) (booted_as w (after w e) b)
    ∙ ap (history (booted_by w)) (b.log ∙ ap (λ l. w.log ++ l) (quiet_steps w.request e q) ∙ append-nil w.log)

-- such an event leaves the log unchanged, whatever its answer
pub quiet_settled : (w v : Processor) (e : Event) (a : Result Done Refusal) → is_quiet e ≡ true → v ≡ settled w e a
    → past v ≡ past w
unfolding settled
quiet_settled w v e (Ok d) q s = quiet w v e q s
quiet_settled w v e (Err k) q s = ap past s

-- ---- the last step of the log ----

pub record LastStep (w v : Processor) (x : LogStep) : Type 0 where
  pub last : last_step v.log ≡ x
  pub longer : past v ≡ history (booted_by w) (w.log ++ last_step v.log ∷ [])

last_is : (w v : Processor) (x : LogStep) → past v ≡ history (booted_by w) (w.log ++ x ∷ []) → LastStep w v x
last_is w v x p =
    let l : last_step v.log ≡ x = ap (λ (h : History). last_step h.log) p ∙ last_step-push w.log x in
    record { last = l; longer = p ∙ ap (λ y. history (booted_by w) (w.log ++ y ∷ [])) (sym l) }

seen_of : (w : Processor) (p : Me ℕ Knowing) → p ≡ (keeper (past w), []) → p.0.seen ≡ past w
seen_of w p e = ap (λ (y : Me ℕ Knowing). y.0.seen) e

-- the history known to the machine's pass has grown by that step
logged : (w v : Processor) (x : LogStep) (p : Me ℕ Knowing) → p ≡ (keeper (past w), []) → LastStep w v x
    → past v ≡ history p.0.seen.booted (p.0.seen.log ++ last_step v.log ∷ [])
logged w v x p e l =
    l.longer ∙ ap (λ (h : History). history h.booted (h.log ++ last_step v.log ∷ [])) (sym (seen_of w p e))

-- the history known to the machine's pass is unchanged
unlogged : (w v : Processor) (e : Event) (k : Refusal) (p : Me ℕ Knowing) → p ≡ (keeper (past w), [])
    → v ≡ settled w e (Err k) → past v ≡ p.0.seen
unlogged w v e k p ep s = refused_past w v e (Err k) k s refl ∙ sym (seen_of w p ep)

pub logged_one_more : (h : History) (v : Processor) (a : Result Done Refusal) (d : Done) → a ≡ Ok d → IsLogged a h v
    → past v ≡ history h.booted (h.log ++ last_step v.log ∷ [])
logged_one_more h v a d o l = subst (λ (x : Result Done Refusal). IsLogged x h v) o l

pub logged_no_more : (h : History) (v : Processor) (a : Result Done Refusal) (k : Refusal) → a ≡ Err k → IsLogged a h v
    → past v ≡ h
logged_no_more h v a k o l = subst (λ (x : Result Done Refusal). IsLogged x h v) o l

pub seen_refused : (old new : Known) (x : LogStep) (a : Result Done Refusal) (k : Refusal) → a ≡ Err k → Learnt old new
    → MatchResult a (λ d. IsMade x old new) (λ r. Learnt old new)
seen_refused old new x a k o l =
    subst (λ (y : Result Done Refusal). MatchResult y (λ d. IsMade x old new) (λ r. Learnt old new)) (sym o) l

-- the machine's pass knows the machine's log if that is the history that it knew
pub kept_by : (h : History) (v : Processor) (p : Me ℕ Knowing) → p ≡ (keeper h, []) → past v ≡ h
    → p ≡ (keeper (past v), [])
kept_by h v p e i = e ∙ ap (λ x. (keeper x, [])) (sym i)

-- a caller that has seen the whole log knows the machine's history
at_present : (v : Processor) (k : Known) → IsCurrent v k → history k.booted k.log ≡ past v
at_present v k c i = history (c.0 i) (c.1 i)

-- ---- what a call that tells a part of an answer tells ----

-- whether an event's answer says only that it was made
abbrev pub is_plain : Event → Bool
is_plain Issue = false
is_plain (PpRead a) = false
is_plain _ = true

plain_made : (w : Processor) (e : Event) → is_plain e ≡ true → done_by w e ≡ DoneMade
unfolding done_by
plain_made w Issue h = absurd (cc)
plain_made w (Read u) h = refl
plain_made w (Finish u) h = refl
plain_made w (Store u) h = refl
plain_made w (Accept p) h = refl
plain_made w (Return c) h = refl
plain_made w (BankFree b) h = refl
plain_made w (Ask n) h = refl
plain_made w Exchange h = refl
plain_made w (PpRead a) h = absurd (cc)
plain_made w (PpWrite a v) h = refl

-- the event of the machine under the lock, with its answer
pub held_event : (k w : Kept) (n : Processor) (e : Event) (a b : Result Done Refusal) → k ≡ w
    → IsEvent k.processor e a n → a ≡ b → IsHeldEvent w e b (with_processor k n)
held_event k w n e a b s h o =
    subst (λ x. IsHeldEvent x e b (with_processor k n)) s
    (record { machine = subst (λ x. IsEvent k.processor e x n) o h; rest = refl })

-- the same if the answer says only that the event was made
pub held_plain : (k w : Kept) (n : Processor) (e : Event) (a : Result Done Refusal) (d : Done) → is_plain e ≡ true
    → k ≡ w → IsEvent k.processor e a n → a ≡ Ok d → IsHeldEvent w e (Ok DoneMade) (with_processor k n)
held_plain k w n e a d p s h o =
    let i : IsAnswer k.processor e (Ok d) = subst (IsAnswer k.processor e) o h.answer in
    held_event k w n e a (Ok DoneMade) s h
    (o ∙ ap Ok (ok_done k.processor e d i (made_allowed k.processor e d i) ∙ plain_made k.processor e p))

-- the same with the word that a peripheral processor read
pub held_read : (k w : Kept) (n : Processor) (at : ℕ) (a : Result Done Refusal) (d : Done) → k ≡ w
    → IsEvent k.processor (PpRead at) a n → a ≡ Ok d → IsHeldEvent w (PpRead at) (Ok (Word (word_in d))) (with_processor k n)
held_read k w n at a d s h o =
    let e = h.word at refl d o in
    held_event k w n (PpRead at) a (Ok (Word (word_in d))) s h
    (o ∙ ap Ok (e ∙ ap (λ x. Word (word_in x)) (sym e)))

-- ---- an issue ----

pub issued_past : (w v : Processor) (a : Result Done Refusal) (d : Done) → v ≡ settled w Issue a → a ≡ Ok d
    → past v ≡ history (booted_by w) (w.log ++ Issued ∷ [])
unfolding made_steps
issued_past w v a d s o =
    let h = made_after w v Issue a d s o in
    let b = books_after w Issue in
    ap past h
    ∙ ap (λ m. history m (after w Issue).log) (booted_as w (after w Issue) b)
    ∙ ap (history (booted_by w)) b.log

-- no answer to an issue is an answer to another event
done_issue : (w : Processor) (a : Result Done Refusal) (d : Done) → IsAnswer w Issue a → a ≡ Ok d
    → d ≡ DoneIssue (note_in d)
unfolding answer_of answer_by done_by
done_issue w a d (inl h) o = by_refusal d (allowed w Issue) (sym o ∙ h)
  where
    by_refusal : (x : Done) (r : Option Refusal) → Ok x ≡ answer_by (done_by w Issue) r → x ≡ DoneIssue (note_in x)
    by_refusal (DoneIssue n) r k = refl
    by_refusal (Word word) None k = cc
    by_refusal (Word word) (Some x) k = cc
    by_refusal DoneMade None k = cc
    by_refusal DoneMade (Some x) k = cc
done_issue w a d (inr h) o = let k = sym o ∙ h.want in cc

-- the issue with the reservation in its answer
pub held_issue : (k w : Kept) (n : Processor) (a : Result Done Refusal) (d : Done) → k ≡ w
    → IsEvent k.processor Issue a n → a ≡ Ok d → IsHeldEvent w Issue (Ok (DoneIssue (note_in d))) (with_processor k n)
held_issue k w n a d s h o =
    held_event k w n Issue a (Ok (DoneIssue (note_in d))) s h (o ∙ ap Ok (done_issue k.processor a d h.answer o))

-- the answer is the one to an issue in the state that the log leads to
pub note_of : (w v : Processor) (a : Result Done Refusal) (d : Done) (k : Known) → replayed w ≡ Some (completed w)
    → IsEvent w Issue a v → a ≡ Ok d → history k.booted k.log ≡ history (booted_by w) (w.log ++ Issued ∷ [])
    → IsNoteOf k (note_in d)
unfolding replayed
note_of w v a d k r e o h =
    let p = issued_past w v a d e.after o in
    let is = o ∙ ap Ok (done_issue w a d e.answer o) in
    let m : k.booted ≡ booted_by w = ap (λ (x : History). x.booted) h in (
      w.log,
      ap (λ (x : History). x.log) h,
      completed w,
      ap (λ (x : Booted). replay (boot x.memory) w.log) m ∙ r,
      subst (λ (x : History). IsNoted (completed w) (taken (boot x.booted.memory) x.log) (note_in d)) (p ∙ sym h)
          (e.noted (note_in d) is),
    )

pub why_of : (w : Processor) (k : Known) (refusal : Refusal) → replayed w ≡ Some (completed w)
    → history k.booted k.log ≡ past w → IsWhy (completed w) refusal → (refusal ≡ Budget → issued w.log ≡ w.budget)
    → IsWhyOf k refusal
unfolding replayed
why_of w k refusal r h y b = record {
  state = completed w;
  led = ap (λ (x : History). replay (boot x.booted.memory) x.log) h ∙ r;
  why = y;
  budget = λ e. ap (λ (x : History). issued x.log) h ∙ b e ∙ sym (ap (λ (x : History). x.booted.budget) h);
}

pub issue_logged : (w v : Processor) (a : Result Done Refusal) (p : Me ℕ Knowing) → p ≡ (keeper (past w), [])
    → v ≡ settled w Issue a → IsLogged a p.0.seen v
issue_logged w v (Ok d) p ep s =
    logged w v Issued p ep (last_is w v Issued (issued_past w v (Ok d) d s refl))
issue_logged w v (Err k) p ep s = unlogged w v Issue k p ep s

-- the caller's knowledge after the issue
pub issue_seen : (w v : Processor) (a : Result Done Refusal) (old new : Known) → replayed w ≡ Some (completed w)
    → IsEvent w Issue a v → IsWithinBudget v → IsCurrent v new
    → MatchResult a (λ d. IsMade (last_step v.log) old new) (λ k. Learnt old new)
    → MatchResult a (λ d. IsMade Issued old new × IsNoteOf new (note_in d)) (λ k. Learnt old new × IsWhyOf new k)
issue_seen w v (Ok d) old new r e b c m =
    let p = issued_past w v (Ok d) d e.after refl in (
      subst (λ x. IsMade x old new) (last_is w v Issued p).last m,
      note_of w v (Ok d) d new r e refl (at_present v new c ∙ p),
    )
issue_seen w v (Err k) old new r e b c m = (
  m,
  why_of w new k r (at_present v new c ∙ refused_past w v Issue (Err k) k e.after refl) e.why
      (issue_budget w k e.answer (subst IsWithinBudget (refused_same w v Issue (Err k) k e.after refl) b)),
)

-- the same after a made issue, whose answer has the reservation
pub issue_made : (w v : Processor) (a : Result Done Refusal) (d : Done) (answered : Option Note) (old new : Known)
    → replayed w ≡ Some (completed w) → IsEvent w Issue a v → IsWithinBudget v → IsCurrent v new
    → MatchResult a (λ x. IsMade (last_step v.log) old new) (λ k. Learnt old new) → a ≡ Ok d → answered ≡ note_in d
    → IsMade Issued old new × IsNoteOf new answered
issue_made w v a d answered old new r e b c m o h =
    let x = subst (λ (z : Result Done Refusal). MatchResult z
    (λ q. IsMade Issued old new × IsNoteOf new (note_in q)) (λ k. Learnt old new × IsWhyOf new k)) o
    (issue_seen w v a old new r e b c m) in
    (x.0, subst (λ (z : Option Note). IsNoteOf new z) (sym h) x.1)

-- the same after a refused issue
pub issue_why : (w v : Processor) (a : Result Done Refusal) (k : Refusal) (old new : Known)
    → replayed w ≡ Some (completed w) → IsEvent w Issue a v → IsWithinBudget v → IsCurrent v new
    → MatchResult a (λ x. IsMade (last_step v.log) old new) (λ r. Learnt old new) → a ≡ Err k
    → Learnt old new × IsWhyOf new k
issue_why w v a k old new r e b c m o =
    subst (λ (z : Result Done Refusal). MatchResult z
    (λ q. IsMade Issued old new × IsNoteOf new (note_in q)) (λ x. Learnt old new × IsWhyOf new x)) o
    (issue_seen w v a old new r e b c m)

-- ---- an exchange ----

exchanged_past : (w v : Processor) (a : Result Done Refusal) (d : Done) (n : ℕ) → w.request ≡ Some n
    → v ≡ settled w Exchange a → a ≡ Ok d → past v ≡ history (booted_by w) (w.log ++ Exchanged n ∷ [])
unfolding made_steps exchange_step
exchanged_past w v a d n q s o =
    let h = made_after w v Exchange a d s o in
    let b = books_after w Exchange in
    ap past h
    ∙ ap (λ m. history m (after w Exchange).log) (booted_as w (after w Exchange) b)
    ∙ ap (history (booted_by w)) (b.log ∙ ap (λ r. w.log ++ exchange_step r) q)

-- the last step of the log is the exchange that was requested
record LastExchange (w v : Processor) : Type 0 where
  pub n : ℕ
  pub request : w.request ≡ Some n
  pub step : LastStep w v (Exchanged n)

last_exchange : (w v : Processor) (d : Done) → IsAnswer w Exchange (Ok d) → v ≡ settled w Exchange (Ok d)
    → LastExchange w v
last_exchange w v d i s =
    let r = exchange_asked w (made_allowed w Exchange d i) in
    record {
      n = r.0;
      request = r.1;
      step = last_is w v (Exchanged r.0) (exchanged_past w v (Ok d) d r.0 r.1 s refl);
    }

pub exchange_logged : (w v : Processor) (a : Result Done Refusal) (p : Me ℕ Knowing) → p ≡ (keeper (past w), [])
    → IsEvent w Exchange a v → IsLogged a p.0.seen v
exchange_logged w v (Ok d) p ep e =
    let l = last_exchange w v d e.answer e.after in logged w v (Exchanged l.n) p ep l.step
exchange_logged w v (Err k) p ep e = unlogged w v Exchange k p ep e.after

-- the caller's knowledge after the exchange
pub exchange_seen : (w v : Processor) (asked : Option ℕ) (a : Result Done Refusal) (old new : Known)
    → asked ≡ w.request → replayed w ≡ Some (completed w) → IsEvent w Exchange a v → IsCurrent v new
    → MatchResult a (λ d. IsMade (last_step v.log) old new) (λ k. Learnt old new)
    → MatchResult a (λ d. (n : ℕ) × (asked ≡ Some n) × IsMade (Exchanged n) old new)
    (λ k. Learnt old new × IsWhyOf new k)
exchange_seen w v asked (Ok d) old new q r e c m =
    let l = last_exchange w v d e.answer e.after in (l.n, q ∙ l.request, subst (λ x. IsMade x old new) l.step.last m)
exchange_seen w v asked (Err k) old new q r e c m = (
  m,
  why_of w new k r (at_present v new c ∙ refused_past w v Exchange (Err k) k e.after refl) e.why
      (exchange_budget w k e.named),
)

-- the same after a made exchange
pub exchange_made : (w v : Processor) (asked : Option ℕ) (a : Result Done Refusal) (d : Done) (old new : Known)
    → asked ≡ w.request → replayed w ≡ Some (completed w) → IsEvent w Exchange a v → IsCurrent v new
    → MatchResult a (λ x. IsMade (last_step v.log) old new) (λ k. Learnt old new) → a ≡ Ok d
    → (n : ℕ) × (asked ≡ Some n) × IsMade (Exchanged n) old new
exchange_made w v asked a d old new q r e c m o =
    subst (λ (z : Result Done Refusal). MatchResult z
    (λ x. (n : ℕ) × (asked ≡ Some n) × IsMade (Exchanged n) old new) (λ k. Learnt old new × IsWhyOf new k)) o
    (exchange_seen w v asked a old new q r e c m)

-- the same after a refused exchange
pub exchange_why : (w v : Processor) (asked : Option ℕ) (a : Result Done Refusal) (k : Refusal) (old new : Known)
    → asked ≡ w.request → replayed w ≡ Some (completed w) → IsEvent w Exchange a v → IsCurrent v new
    → MatchResult a (λ x. IsMade (last_step v.log) old new) (λ r. Learnt old new) → a ≡ Err k
    → Learnt old new × IsWhyOf new k
exchange_why w v asked a k old new q r e c m o =
    subst (λ (z : Result Done Refusal). MatchResult z
    (λ x. (n : ℕ) × (asked ≡ Some n) × IsMade (Exchanged n) old new) (λ x. Learnt old new × IsWhyOf new x)) o
    (exchange_seen w v asked a old new q r e c m)

-- ---- a peripheral access ----

abbrev pub is_access : Event → Bool
is_access (PpRead a) = true
is_access (PpWrite a v) = true
is_access _ = false

-- the step that a peripheral access adds to the log
abbrev pub access_step : Event → LogStep
access_step (PpRead a) = ReadAt a
access_step (PpWrite a v) = Wrote a v
access_step _ = Issued

access_steps : (r : Option ℕ) (e : Event) → is_access e ≡ true → made_steps r e ≡ access_step e ∷ []
unfolding made_steps
access_steps r Issue h = absurd (cc)
access_steps r (Read u) h = absurd (cc)
access_steps r (Finish u) h = absurd (cc)
access_steps r (Store u) h = absurd (cc)
access_steps r (Accept p) h = absurd (cc)
access_steps r (Return c) h = absurd (cc)
access_steps r (BankFree b) h = absurd (cc)
access_steps r (Ask n) h = absurd (cc)
access_steps r Exchange h = absurd (cc)
access_steps r (PpRead a) h = refl
access_steps r (PpWrite a v) h = refl

accessed_past : (w v : Processor) (e : Event) (a : Result Done Refusal) (d : Done) → is_access e ≡ true
    → v ≡ settled w e a → a ≡ Ok d → past v ≡ history (booted_by w) (w.log ++ access_step e ∷ [])
accessed_past w v e a d q s o =
    let h = made_after w v e a d s o in
    let b = books_after w e in
    ap past h
    ∙ ap (λ m. history m (after w e).log) (booted_as w (after w e) b)
    ∙ ap (history (booted_by w)) (b.log ∙ ap (λ l. w.log ++ l) (access_steps w.request e q))

last_access : (w v : Processor) (e : Event) (d : Done) → is_access e ≡ true → v ≡ settled w e (Ok d)
    → LastStep w v (access_step e)
last_access w v e d q s = last_is w v (access_step e) (accessed_past w v e (Ok d) d q s refl)

pub access_logged : (w v : Processor) (e : Event) (a : Result Done Refusal) (p : Me ℕ Knowing)
    → p ≡ (keeper (past w), []) → is_access e ≡ true → v ≡ settled w e a → IsLogged a p.0.seen v
access_logged w v e (Ok d) p ep q s = logged w v (access_step e) p ep (last_access w v e d q s)
access_logged w v e (Err k) p ep q s = unlogged w v e k p ep s

-- the caller's knowledge after the access
pub access_seen : (w v : Processor) (e : Event) (a : Result Done Refusal) (old new : Known) → is_access e ≡ true
    → v ≡ settled w e a → MatchResult a (λ d. IsMade (last_step v.log) old new) (λ k. Learnt old new)
    → MatchResult a (λ d. IsMade (access_step e) old new) (λ k. Learnt old new)
access_seen w v e (Ok d) old new q s m = subst (λ x. IsMade x old new) (last_access w v e d q s).last m
access_seen w v e (Err k) old new q s m = m

-- the same after a made access
pub access_made : (w v : Processor) (e : Event) (a : Result Done Refusal) (d : Done) (old new : Known)
    → is_access e ≡ true → v ≡ settled w e a
    → MatchResult a (λ x. IsMade (last_step v.log) old new) (λ k. Learnt old new) → a ≡ Ok d
    → IsMade (access_step e) old new
access_made w v e a d old new q s m o =
    subst (λ (z : Result Done Refusal). MatchResult z (λ x. IsMade (access_step e) old new) (λ k. Learnt old new)) o
    (access_seen w v e a old new q s m)

-- the word in the answer is the word that the replay reads
pub word_of : (v : Processor) (k : Known) (a : ℕ) (r : Result Done Refusal) (d : Done)
    → replayed v ≡ Some (completed v) → IsCurrent v k
    → ((done : Done) → r ≡ Ok done → done ≡ Word (get_or (completed v).memory a 0)) → r ≡ Ok d → IsWordOf k a (word_in d)
unfolding replayed
word_of v k a r d h c told o = (
  completed v,
  ap (λ (x : History). replay (boot x.booted.memory) x.log) (at_present v k c) ∙ h,
  ap word_in (told d o),
)

-- ---- what the caller's pass has then ----

abbrev pub known_by : Me ℕ Knowing → Known
known_by m = known m.0.seen.booted m.0.seen.log m.0.mine

abbrev pub past_by : Me ℕ Knowing → History
past_by m = history m.0.seen.booted m.0.seen.log

-- a step was recorded
pub record Recorded (v : Processor) (x : LogStep) (old : Known) (n : Me ℕ Knowing) : Type 0 where
  pub present : past_by n ≡ past v
  pub made : IsMade x old (known_by n)

pub recorded : (h : History) (v : Processor) (x : LogStep) (m n : Me ℕ Knowing) (old : Known) → known_by m ≡ old
    → past v ≡ history h.booted (h.log ++ x ∷ [])
    → n ≡ (caller (history h.booted (h.log ++ x ∷ [])) (m.0.mine ++ length h.log ∷ []), [])
    → Continues h m.0.seen → Recorded v x old n
recorded h v x m n old em ev en begins =
    record {
      present = ap past_by en ∙ sym ev;
      made = (
        h.log,
        subst (λ (k : Known). StartsWith h.log k.log) em begins.1,
        ap known_by en
            ∙ ap (λ b. known b (h.log ++ x ∷ []) (m.0.mine ++ length h.log ∷ [])) (sym begins.0)
            ∙ ap (λ (k : Known). known k.booted (h.log ++ x ∷ []) (k.mine ++ length h.log ∷ [])) em,
      );
    }

-- the log was compared
pub record Compared (v : Processor) (old : Known) (n : Me ℕ Knowing) : Type 0 where
  pub present : past_by n ≡ past v
  pub learnt : Learnt old (known_by n)

pub compared : (v : Processor) (p m n : Me ℕ Knowing) (old : Known) → p ≡ (keeper (past v), []) → known_by m ≡ old
    → n ≡ (caller p.0.seen m.0.mine, []) → Continues p.0.seen m.0.seen → Compared v old n
compared v p m n old ep em en begins =
    let s = seen_of v p ep in
    let g : Continues (past v) m.0.seen = subst (λ h. Continues h m.0.seen) s begins in
    let same : past_by n ≡ past v = ap past_by en ∙ s in
    record {
      present = same;
      learnt = (
        subst (λ (l : List LogStep). StartsWith l old.log) (sym (ap (λ (h : History). h.log) same))
            (subst (λ (k : Known). StartsWith v.log k.log) em g.1),
        ap (λ b. known b n.0.seen.log n.0.mine)
            (ap (λ (h : History). h.booted) same ∙ sym g.0 ∙ ap (λ (k : Known). k.booted) em)
            ∙ ap (λ l. known old.booted n.0.seen.log l)
            (ap (λ (y : Me ℕ Knowing). y.0.mine) en ∙ ap (λ (k : Known). k.mine) em),
      );
    }

pub kept_same : (w v : Processor) (p q : Me ℕ Knowing) → p ≡ (keeper (past w), []) → past v ≡ past w → q ≡ p
    → q ≡ (keeper (past v), [])
kept_same w v p q ep ev eq = eq ∙ ep ∙ ap (λ h. (keeper h, [])) (sym ev)

-- an event that isn't logged keeps what the lock protects right
pub quiet_kept : {table : TableId} (w v : Processor) (pass : Seat ℕ Knowing) (e : Event) (a : Result Done Refusal)
    → is_quiet e ≡ true → IsEvent w e a v → IsLocked table w pass → IsReplay v → IsLocked table v pass
quiet_kept w v pass e a q h k r = record {
  replay = r;
  seen = (k.seen.0, kept_same w v pass.me pass.me k.seen.1 (quiet_settled w v e a q h.after) refl);
}

-- the caller has seen the log of a machine whose state is kept equal to its replay
pub replay_by : (v : Processor) (n : Me ℕ Knowing) → replayed v ≡ Some (completed v) → past_by n ≡ past v
    → HasReplay (known_by n)
unfolding replayed
replay_by v n r p =
    (completed v, ap (λ (x : History). replay (boot x.booted.memory) x.log) p ∙ r)

-- a caller that has seen the whole log learns nothing if the log is unchanged
pub same_seen : (w v : Processor) (old new : Known) → IsCurrent w old → IsCurrent v new → past v ≡ past w
    → Learnt old new → new ≡ old
same_seen w v old new o n p l =
    l.1 ∙ ap (λ x. known old.booted x old.mine) (n.1 ∙ ap (λ (h : History). h.log) p ∙ sym o.1)

-- ---- the events of tokens ----

pub token_kept : {A B : Type 0} (w v : Processor) (e : Event) (p : Me ℕ Knowing) (r : Result A B)
    → is_quiet e ≡ true → p ≡ (keeper (past w), []) → MatchResult r (λ x. v ≡ after w e) (λ y. v ≡ w)
    → p ≡ (keeper (past v), [])
token_kept w v e p (Ok x) q ep h = kept_same w v p p ep (quiet w v e q h) refl
token_kept w v e p (Err y) q ep h = kept_same w v p p ep (ap past h) refl

-- ---- an event with a number out of range ----

-- whether memory makes the event
abbrev pub is_of_memory : Event → Bool
is_of_memory (Accept p) = true
is_of_memory (Return c) = true
is_of_memory (BankFree b) = true
is_of_memory _ = false

makes_no_room : (e : Event) → is_of_memory e ≡ true → makes_room e ≡ false
unfolding makes_room
makes_no_room Issue h = refl
makes_no_room (Read u) h = refl
makes_no_room (Finish u) h = refl
makes_no_room (Store u) h = refl
makes_no_room (Accept p) h = refl
makes_no_room (Return c) h = refl
makes_no_room (BankFree b) h = refl
makes_no_room (Ask n) h = absurd (cc)
makes_no_room Exchange h = refl
makes_no_room (PpRead a) h = absurd (cc)
makes_no_room (PpWrite a v) h = absurd (cc)

-- an event of memory that finds nothing to act on has no other answer
pub only_nothing : (w : Processor) (e : Event) (a : Result Done Refusal) → is_of_memory e ≡ true
    → allowed w e ≡ Some Nothing → IsAnswer w e a → a ≡ Err Nothing
unfolding answer_of answer_by
only_nothing w e a q n (inl h) = h ∙ ap (answer_by (done_by w e)) n
only_nothing w e a q n (inr h) = let k = sym (makes_no_room e q) ∙ h.growing in cc
