-- The progress of a session.
use Rattle.std.proofs.Common.{◌≡◌, ℕ, ◌+◌, ◌<◌, true, false, ltb, List, [], ◌∷◌, ◌++◌, append-nil, length, append_assoc}
use Rattle.std.proofs.Common.{length-append, Option, Result, Ok, Err, refl, sym, ap, ◌∙◌, subst, subst₂, arith}
use Rattle.std.proofs.lemmas.Bool.{lt-ltb}
use Rattle.std.proofs.lemmas.List.{flat_map_more}
use Rattle.std.proofs.KnownBytes.{Appends-trans, Appends-nil}
use Rattle.std.specs.Io.KnownBytes.{Appends}
use Rattle.std.specs.List.{flat_map}
use Rattle.instructions.specs.declared.refusal.DeckFault.{DeckFault}
use Rattle.instructions.specs.declared.refusal.DeckFault.TheVariants as faults
use Rattle.instructions.specs.declared.refusal.Refusal.{Refusal}
use Rattle.program_order.specs.declared.event.Done.{Done}
use Rattle.program_order.specs.declared.event.Event.{Event}
use Rattle.program_order.specs.Reached.{GoesOn, IsReached}
use Rattle.program_order.specs.Run.{IsAnswer, IsAnswered, settled, settled_all}
use Rattle.program_order.specs.Processor.{Processor}
use Rattle.program_order.proofs.reaching.Reached.{goes_on_then}
use Rattle.job_deck.specs.AnswerText.{answer_line}
use Rattle.device_text.specs.Device.{Moves, WritesFront}
use Rattle.device_text.specs.Line.{ReadsPart, lines_of}
use Rattle.job_deck.specs.Schedule.{line_says, left_after_line}
use Rattle.job_deck.specs.Session.{Says, Session}
use Rattle.job_deck.specs.SessionResult.{IsRefused}
use Rattle.job_deck.specs.inner.SessionParts.{AnswersLines, ReadsScheduleLine}
use Rattle.job_deck.specs.declared.schedule.ScheduleLine.{ScheduleLine}
use Rattle.job_deck.specs.declared.schedule.ScheduleLine.TheVariants.{Makes, Ends, Drains, Faulty}
use Rattle.instructions.specs.declared.refusal.Refusal.TheVariants as refusals
use Rattle.device_text.proofs.Moving.{Moves-refl, Moves-trans, Moves-weaker}

-- ---- one more event

says_more : (n : ℕ) (events : List Event) (lines left : List (List ℕ × List ℕ)) (m : ℕ) (e : Event)
    (line : List ℕ × List ℕ) (more : List (List ℕ × List ℕ)) → Says n events lines left → m ≡ n + length events
    → left ≡ line ∷ more → line_says m left ≡ Makes e → Says n (events ++ e ∷ []) lines more
says_more n [] lines left m e line more s k t h =
    let here : m ≡ n = omega (arith, k) in
    rw (s, t) (subst (λ i. line_says i (line ∷ more) ≡ Makes e) here (subst (λ l. line_says m l ≡ Makes e) t h), refl)
says_more n (x ∷ events) [] left m e line more s k t h = absurd s
says_more n (x ∷ events) (y ∷ lines) left m e line more s k t h =
    (s.0, says_more (n + 1) events lines left m e line more s.1 (omega (arith, k)) t h)

answered_more : (w : Processor) (es : List Event) (given : List (Result Done Refusal)) (e : Event)
    (a : Result Done Refusal) → IsAnswered w es given → IsAnswer (settled_all w es given) e a
    → IsAnswered w (es ++ e ∷ []) (given ++ a ∷ [])
unfolding settled_all
answered_more w [] [] e a h k = (k, tt)
answered_more w [] (x ∷ given) e a h k = absurd h
answered_more w (y ∷ es) [] e a h k = absurd h
answered_more w (y ∷ es) (x ∷ given) e a h k = (h.0, answered_more (settled w y x) es given e a h.1 k)

settled_more : (w : Processor) (es : List Event) (given : List (Result Done Refusal)) (e : Event)
    (a : Result Done Refusal) → IsAnswered w es given
    → settled (settled_all w es given) e a ≡ settled_all w (es ++ e ∷ []) (given ++ a ∷ [])
unfolding settled_all
settled_more w [] [] e a h = refl
settled_more w [] (x ∷ given) e a h = absurd h
settled_more w (y ∷ es) [] e a h = absurd h
settled_more w (y ∷ es) (x ∷ given) e a h = settled_more (settled w y x) es given e a h.1

one_more_line : (text : List ℕ) (given : List (Result Done Refusal)) (a : Result Done Refusal)
    → text ≡ flat_map answer_line given → text ++ answer_line a ≡ flat_map answer_line (given ++ a ∷ [])
one_more_line text given a h = ap (λ t. t ++ answer_line a) h ∙ flat_map_more answer_line [] given a

-- no further events leave the machine as it is
stays : (w : Processor) → GoesOn w [] [] w
stays w memory budget events answers r =
    subst₂ (λ xs ys. IsReached memory budget xs ys w) (sym (append-nil events)) (sym (append-nil answers)) r

-- ---- the session from the bytes xs on, as far as the bytes ys

module _ (w : Processor) (n : ℕ) (old : Option (List ℕ)) where
  -- the session has reached line m and the machine v, and the bytes ys are left
  abbrev pub Has : ℕ → Processor → Option (List ℕ) → List ℕ → List ℕ → Type 0
  Has m v new xs ys = (s : Session (GoesOn w) w n (lines_of xs)) × (s.left ≡ lines_of ys) × (s.number ≡ m)
      × (s.machine ≡ v) × Appends old new s.text × ((read : List ℕ) × (xs ≡ read ++ ys))

  begun : (xs : List ℕ) → Has n w old xs xs
  unfolding settled_all
  begun xs = (
    record {
      events = [];
      left = lines_of xs;
      said = refl;
      answers = [];
      answered = tt;
      machine = w;
      leads = refl;
      led = stays w;
      number = n;
      numbered = omega arith;
      text = [];
      written = refl;
    },
    refl,
    refl,
    refl,
    Appends-nil old,
    ([], refl),
  )

  pub session_begun : (a : Option (List ℕ)) → Moves a a (Has n w old)
  session_begun a = Moves-refl a (Has n w old) begun

  gone_on : (m : ℕ) (v x : Processor) (mid new : Option (List ℕ)) (xs ys zs : List ℕ) (e : Event)
      (a : Result Done Refusal) → Has m v mid xs ys → ReadsScheduleLine m (Makes e) ys zs → IsAnswer v e a
      → x ≡ settled v e a
      → GoesOn v (e ∷ []) (a ∷ []) x → Appends mid new (answer_line a) → Has (m + 1) x new xs zs
  gone_on m v x mid new xs ys zs e a h k answer left on wrote =
      let s = h.0 in
      let same = h.3 in
      let at = h.2 in
      let number = s.numbered in
      let more = length-append s.events (e ∷ []) in
      let here : IsAnswer (settled_all w s.events s.answers) e a =
      subst (λ y. IsAnswer y e a) (sym same ∙ s.leads) answer in
      let says : line_says s.number s.left ≡ Makes e =
      ap (λ l. line_says s.number l) h.1 ∙ ap (λ i. line_says i (lines_of ys)) at ∙ k.0 in (
        record {
          events = s.events ++ e ∷ [];
          left = lines_of zs;
          said = says_more n s.events (lines_of xs) s.left s.number e (k.1.0, zs) (lines_of zs) s.said number
              (h.1 ∙ k.1.1) says;
          answers = s.answers ++ a ∷ [];
          answered = answered_more w s.events s.answers e a s.answered here;
          machine = x;
          leads =
              left ∙ ap (λ y. settled y e a) (sym same ∙ s.leads) ∙ settled_more w s.events s.answers e a s.answered;
          led = goes_on_then w s.machine x s.events (e ∷ []) s.answers (a ∷ []) s.led
              (subst (λ y. GoesOn y (e ∷ []) (a ∷ []) x) (sym same) on);
          number = m + 1;
          numbered = omega (arith, at, number, more);
          text = s.text ++ answer_line a;
          written = one_more_line s.text s.answers a s.written;
        },
        refl,
        refl,
        refl,
        Appends-trans old mid new s.text (answer_line a) h.4 wrote,
        (h.5.0 ++ k.2.0, h.5.1 ∙ ap (λ l. h.5.0 ++ l) k.2.1 ∙ sym (append_assoc h.5.0 k.2.0 zs)),
      )

  pub session_on : (a b c mid new : Option (List ℕ)) (m : ℕ) (v x : Processor) (e : Event) → Moves a b (Has m v mid)
      → Moves b c (ReadsScheduleLine m (Makes e))
      → ((answer : Result Done Refusal) × IsAnswer v e answer × (x ≡ settled v e answer)
      × GoesOn v (e ∷ []) (answer ∷ []) x × Appends mid new (answer_line answer)) → Moves a c (Has (m + 1) x new)
  session_on a b c mid new m v x e told taken made =
      Moves-trans a b c (Has m v mid) (ReadsScheduleLine m (Makes e)) (Has (m + 1) x new)
      (λ xs ys zs h k. gone_on m v x mid new xs ys zs e made.0 h k made.1 made.2 made.3 made.4) told taken

  -- what the next line says
  says_next : (m : ℕ) (v : Processor) (new : Option (List ℕ)) (xs ys : List ℕ) (said : ScheduleLine)
      (h : Has m v new xs ys)
      → line_says m (lines_of ys) ≡ said → line_says h.0.number h.0.left ≡ said
  says_next m v new xs ys said h k =
      ap (λ l. line_says h.0.number l) h.1 ∙ ap (λ i. line_says i (lines_of ys)) h.2 ∙ k

  pub session_cut : (a b c mid new : Option (List ℕ)) (m : ℕ) (v x : Processor) (e : Event) → Moves a b (Has m v mid)
      → Moves b c (ReadsScheduleLine m (Makes e))
      → ((answer : Result Done Refusal) × IsAnswer v e answer × (x ≡ settled v e answer)
      × GoesOn v (e ∷ []) (answer ∷ []) x
      × WritesFront mid new (answer_line answer)) → Moves a c (λ xs zs. AnswersLines (Err refusals.Write) w x n xs zs
      old new)
  session_cut a b c mid new m v x e told taken made =
      Moves-trans a b c (Has m v mid) (ReadsScheduleLine m (Makes e))
      (λ xs zs. AnswersLines (Err refusals.Write) w x n xs zs old new)
      (λ xs ys zs h k.
      let cut = made.4 in (
        h.0,
        e,
        made.0,
        says_next m v mid xs ys (Makes e) h k.0,
        subst (λ y. IsAnswer y e made.0) (sym h.3) made.1,
        (k.1.0, h.1 ∙ k.1.1),
        (cut.1.0, cut.0, cut.1.1, Appends-trans old mid new h.0.text cut.1.0 h.4 cut.1.2),
      )) told taken

  pub session_ends : (a b c new : Option (List ℕ)) (m : ℕ) (v : Processor) → Moves a b (Has m v new)
      → Moves b c (ReadsScheduleLine m Ends) → Moves a c (λ xs zs. AnswersLines (Ok false) w v n xs zs old new)
  session_ends a b c new m v told taken =
      Moves-trans a b c (Has m v new) (ReadsScheduleLine m Ends) (λ xs zs. AnswersLines (Ok false) w v n xs zs old new)
      (λ xs ys zs h k.
      (h.0, h.3, says_next m v new xs ys Ends h k.0, (k.1.0, h.1 ∙ k.1.1), h.4)) told taken

  pub session_drains : (a b c new : Option (List ℕ)) (m : ℕ) (v : Processor) → Moves a b (Has m v new)
      → Moves b c (ReadsScheduleLine m Drains) → Moves a c (λ xs zs. AnswersLines (Ok true) w v n xs zs old new)
  session_drains a b c new m v told taken =
      Moves-trans a b c (Has m v new) (ReadsScheduleLine m Drains) (λ xs zs. AnswersLines (Ok true) w v n xs zs old new)
      (λ xs ys zs h k.
      (h.0, h.3, says_next m v new xs ys Drains h k.0, (k.1.0, h.1 ∙ k.1.1), h.4)) told taken

  -- the next line was refused, and these bytes are left
  refused_there : (m : ℕ) (v : Processor) (new : Option (List ℕ)) (xs ys zs : List ℕ) (h : Has m v new xs ys)
      → zs ≡ left_after_line m ys (lines_of ys) → IsRefused h.0.number h.0.left xs zs
  refused_there m v new xs ys zs h k = (
    h.5.0,
    ys,
    h.5.1,
    h.1,
    k ∙ ap (left_after_line m ys) (sym h.1) ∙ ap (λ i. left_after_line i ys h.0.left) (sym h.2),
  )

  pub session_refused : (a b c new : Option (List ℕ)) (m : ℕ) (v : Processor) (fault : DeckFault)
      → Moves a b (Has m v new) → Moves b c (ReadsScheduleLine m (Faulty fault))
      → Moves a c (λ xs zs. AnswersLines (Err (refusals.Deck m fault)) w v n xs zs old new)
  session_refused a b c new m v fault told taken =
      Moves-trans a b c (Has m v new) (ReadsScheduleLine m (Faulty fault))
      (λ xs zs. AnswersLines (Err (refusals.Deck m fault)) w v n xs zs old new) (λ xs ys zs h k.
      (h.0, sym h.2, says_next m v new xs ys (Faulty fault) h k.0, refused_there m v new xs ys zs h k.1, h.4)) told
      taken

  pub session_unread : (a b c new : Option (List ℕ)) (m : ℕ) (v : Processor) → Moves a b (Has m v new)
      → Moves b c ReadsPart → Moves a c (λ xs zs. AnswersLines (Err refusals.Read) w v n xs zs old new)
  session_unread a b c new m v told taken =
      Moves-trans a b c (Has m v new) ReadsPart (λ xs zs. AnswersLines (Err refusals.Read) w v n xs zs old new)
      (λ xs ys zs h k.
      (h.0, k.0, k.1, h.1 ∙ ap lines_of k.2, h.4)) told taken

  past_all : (m : ℕ) (lines : List (List ℕ × List ℕ)) → 10000000 < m → line_says m lines ≡ Faulty faults.Lines
  past_all m [] h = let past : ltb 10000000 m ≡ true = lt-ltb _ _ h in rw past refl
  past_all m (line ∷ lines) h = let past : ltb 10000000 m ≡ true = lt-ltb _ _ h in rw past refl

  past_left : (m : ℕ) (bytes : List ℕ) (lines : List (List ℕ × List ℕ)) → 10000000 < m
      → bytes ≡ left_after_line m bytes lines
  past_left m bytes [] h = refl
  past_left m bytes (line ∷ lines) h = let past : ltb 10000000 m ≡ true = lt-ltb _ _ h in rw past refl

  pub session_over : (a b new : Option (List ℕ)) (m : ℕ) (v : Processor) → m ≡ 10000001 → Moves a b (Has m v new)
      → Moves a b (λ xs zs. AnswersLines (Err (refusals.Deck 10000001 faults.Lines)) w v n xs zs old new)
  session_over a b new m v e told =
      Moves-weaker a b (Has m v new)
      (λ xs zs. AnswersLines (Err (refusals.Deck 10000001 faults.Lines)) w v n xs zs old new)
      (λ xs ys h. (
        h.0,
        sym (h.2 ∙ e),
        says_next m v new xs ys (Faulty faults.Lines) h
            (past_all m (lines_of ys) (omega (arith, e))),
        refused_there m v new xs ys ys h (past_left m ys (lines_of ys) (omega (arith, e))),
        h.4,
      )) told
