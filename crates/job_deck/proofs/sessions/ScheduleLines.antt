-- The next line of a schedule, by the bytes that reading it takes.
use Rattle.std.proofs.Common.{◌≡◌, ℕ, ◌≤◌, true, false, ltb, List, [], ◌∷◌, ◌++◌, length, drop, Option, refl, sym}
use Rattle.std.proofs.Common.{ap, ◌∙◌, append_assoc, append-nil, inl, inr}
use Rattle.std.proofs.lemmas.Bool.{lt-ltb, le-ltb}
use Rattle.instructions.specs.declared.refusal.DeckFault.TheVariants as faults
use Rattle.device_text.specs.Device.{Moves}
use Rattle.device_text.specs.Line.{IsText, LineTaken, lines_of}
use Rattle.job_deck.specs.Schedule.{line_says, left_after_line, schedule_line}
use Rattle.job_deck.specs.inner.SessionParts.{ReadsScheduleLine}
use Rattle.device_text.specs.declared.line.LineRead.TheVariants.{Whole, Long, Nothing}
use Rattle.job_deck.specs.declared.schedule.ScheduleLine.{ScheduleLine}
use Rattle.job_deck.specs.declared.schedule.ScheduleLine.TheVariants.{Makes, Ends, Drains, Faulty}
use Rattle.device_text.proofs.Lines.{FirstHas, lines_whole, lines_first_long}
use Rattle.device_text.proofs.Moving.{Moves-weaker}
use Rattle.deck.proofs.DeckLines.{long_taken}

whole_line : (n : ℕ) (text ys : List ℕ) → n ≤ 10000000 → length text ≤ 200
    → line_says n ((text, ys) ∷ lines_of ys) ≡ schedule_line text
whole_line n text ys low short =
    let within : ltb 10000000 n ≡ false = le-ltb _ _ low in
    let fits : ltb 200 (length text) ≡ false = le-ltb _ _ short in
    rw (within, fits) refl

-- a whole line is a prefix of the bytes
whole_part : (text xs ys : List ℕ) → LineTaken Whole text xs ys → (part : List ℕ) × (xs ≡ part ++ ys)
whole_part text xs ys (inl e) = (text ++ 10 ∷ [], e ∙ sym (append_assoc text (10 ∷ []) ys))
whole_part text xs ys (inr e) = (text, e.1 ∙ sym (append-nil text) ∙ ap (λ l. text ++ l) (sym e.2))

-- reading a line that isn't too long leaves the bytes after it
whole_left : (n : ℕ) (text xs ys : List ℕ) → n ≤ 10000000 → length text ≤ 200
    → ys ≡ left_after_line n xs ((text, ys) ∷ lines_of ys)
whole_left n text xs ys low short =
    let within : ltb 10000000 n ≡ false = le-ltb _ _ low in
    let fits : ltb 200 (length text) ≡ false = le-ltb _ _ short in
    rw (within, fits) refl

reads_taken : (n : ℕ) (s : ScheduleLine) (xs ys text : List ℕ) → line_says n (lines_of xs) ≡ s
    → lines_of xs ≡ (text, ys) ∷ lines_of ys → (part : List ℕ) × (xs ≡ part ++ ys)
    → ys ≡ left_after_line n xs (lines_of xs) → ReadsScheduleLine n s xs ys
reads_taken n (Makes e) xs ys text h t p l = (h, (text, t), p)
reads_taken n Ends xs ys text h t p l = (h, (text, t))
reads_taken n Drains xs ys text h t p l = (h, (text, t))
reads_taken n (Faulty fault) xs ys text h t p l = (h, l)

pub reads_whole : (a b : Option (List ℕ)) (n : ℕ) (text : List ℕ) (s : ScheduleLine) → n ≤ 10000000 → IsText text
    → length text ≤ 200 → s ≡ schedule_line text → Moves a b (LineTaken Whole text) → Moves a b (ReadsScheduleLine n s)
reads_whole a b n text s low is short said m =
    Moves-weaker a b (LineTaken Whole text) (ReadsScheduleLine n s) (λ xs ys q.
    let t = lines_whole text xs ys is q in
    reads_taken n s xs ys text (ap (line_says n) t ∙ whole_line n text ys low short ∙ sym said) t
    (whole_part text xs ys q) (whole_left n text xs ys low short ∙ ap (left_after_line n xs) (sym t))) m

long_line : (n : ℕ) (lines : List (List ℕ × List ℕ)) → n ≤ 10000000 → FirstHas 201 lines
    → line_says n lines ≡ Faulty faults.Long
long_line n [] low h = absurd h
long_line n (line ∷ lines) low h =
    let within : ltb 10000000 n ≡ false = le-ltb _ _ low in
    let long : ltb 200 (length line.0) ≡ true = lt-ltb _ _ h in
    rw (within, long) refl

-- reading a line that is too long takes 201 bytes
long_left : (n : ℕ) (bytes : List ℕ) (lines : List (List ℕ × List ℕ)) → n ≤ 10000000 → FirstHas 201 lines
    → drop 201 bytes ≡ left_after_line n bytes lines
long_left n bytes [] low h = absurd h
long_left n bytes (line ∷ lines) low h =
    let within : ltb 10000000 n ≡ false = le-ltb _ _ low in
    let long : ltb 200 (length line.0) ≡ true = lt-ltb _ _ h in
    rw (within, long) refl

pub reads_long : (a b : Option (List ℕ)) (n : ℕ) (text : List ℕ) → n ≤ 10000000 → IsText text → length text ≡ 201
    → Moves a b (LineTaken Long text) → Moves a b (ReadsScheduleLine n (Faulty faults.Long))
reads_long a b n text low is long m =
    Moves-weaker a b (LineTaken Long text) (ReadsScheduleLine n (Faulty faults.Long))
    (λ xs ys q.
    let first = lines_first_long text xs ys is long q in
    (long_line n (lines_of xs) low first, long_taken text xs ys long q ∙ long_left n xs (lines_of xs) low first)) m

pub reads_nothing : (a b : Option (List ℕ)) (n : ℕ) (text : List ℕ) → n ≤ 10000000
    → Moves a b (LineTaken Nothing text) → Moves a b (ReadsScheduleLine n (Faulty faults.NoEnd))
reads_nothing a b n text low m =
    Moves-weaker a b (LineTaken Nothing text) (ReadsScheduleLine n (Faulty faults.NoEnd)) (λ xs ys q.
    let within : ltb 10000000 n ≡ false = le-ltb _ _ low in
    rw (q.0, q.1, within) (refl, refl)) m
