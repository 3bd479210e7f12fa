-- The line of a log that is read field by field: its steps, and the bytes left unread.
use Rattle.std.proofs.Common.{◌≡◌, ◌≢◌, ℕ, ◌<◌, Bool, true, false, cond, eqb, List, [], ◌∷◌, ◌++◌, length, All}
use Rattle.std.proofs.Common.{Option, Some, None, refl, sym, ap, ◌∙◌, subst, arith, ◌⊎◌, inl, inr, append_assoc}
use Rattle.std.proofs.Common.{append-nil, length-append}
use Rattle.std.proofs.lemmas.Bool.{ne_eqb}
use Rattle.std.proofs.lemmas.List.Elements.{All-head, All-tail, All-append, All-cons}
use Rattle.std.proofs.lemmas.List.Splits.{slice_split_at, slice_split_none, length-slice_split}
use Rattle.std.proofs.lemmas.Slice.Eq.{bytes_eq-Decides}
use Rattle.std.specs.Prelude.{codes, option_and_then, MatchResult, OnErr, Result, Ok, Err}
use Rattle.instructions.specs.declared.refusal.Refusal.{Refusal}
use Rattle.device_text.specs.Device.{Moves}
use Rattle.device_text.proofs.Moving.{Moves-refl, Moves-trans, Moves-weaker}
use Rattle.std.specs.Str.{bytes_eq}
use Rattle.sequential.specs.Log.{steps_of}
use Rattle.sequential.specs.declared.log.Log.{Log}
use Rattle.sequential.specs.Replay.{LogStep}
use Rattle.device_text.specs.Line.{IsTaken, IsText, ReadsPart, lines_of, onto}
use Rattle.device_text.specs.Text.{fields_of}
use Rattle.device_text.proofs.Lines.{lines_whole}
use Rattle.log_text.specs.FollowingLog.{LeavesAfterText, ReadsLogLine, first_text, following_line}
use Rattle.log_text.specs.inner.LogLineParts.{FieldTaken, IsInField, ReadsEntries, ReadsSomeEntries, is_none_line}
use Rattle.log_text.specs.LogText.{AddsField, LogHas, entry_in, log_in, put_steps, spent, steps_in, whole_allowance}
use Rattle.log_text.specs.declared.following_log.FieldEnd.{FieldEnd}
use Rattle.log_text.specs.declared.following_log.FieldEnd.TheVariants.{Space, Line, Long}
use Rattle.log_text.specs.declared.logs.Allowance.{Allowance}
use Rattle.log_text.proofs.FieldLengths.{entry_long, steps_long}
use Rattle.log_text.proofs.LogReading.{before_none, field_on}

-- the progress in the line: its bytes from this field on, its steps so far, and the bytes before the field
pub record IsReadTo (after : List ℕ) (steps : List LogStep) (left : Allowance) (end : FieldEnd) (text ys : List ℕ)
    : Type 0 where
  pub now : List ℕ
  pub taken : FieldTaken end text now ys
  pub told : steps_in whole_allowance (fields_of (following_line after))
      ≡ put_steps steps (steps_in left (fields_of (following_line now)))
  pub part : ReadsPart after now

abbrev pub Finds : Option Log → List ℕ → List ℕ → Type 0
Finds found after ys =
    LogHas found (steps_in whole_allowance (fields_of (following_line after)))
    × LeavesAfterText (steps_in whole_allowance (fields_of (following_line after))) after ys

no_bytes : IsText []
no_bytes = λ k d h. absurd (omega (arith, h))

pub read_to_first : (after : List ℕ) (end : FieldEnd) (text ys : List ℕ) → FieldTaken end text after ys
    → IsReadTo after [] whole_allowance end text ys
read_to_first after end text ys t = record {
  now = after;
  taken = t;
  told = before_none (steps_in whole_allowance (fields_of (following_line after)));
  part = ([], no_bytes, refl);
}

-- ---- lines ----

onto_first_text : (b : ℕ) (lines : List (List ℕ × List ℕ)) → first_text (onto b lines) ≡ b ∷ first_text lines
onto_first_text b [] = refl
onto_first_text b (line ∷ lines) = refl

line_on : (b : ℕ) (bytes : List ℕ) → b ≢ 10 → following_line (b ∷ bytes) ≡ b ∷ following_line bytes
line_on b bytes h =
    ap (λ v. first_text (cond v (([], bytes) ∷ lines_of bytes) (onto b (lines_of bytes)))) (ne_eqb b 10 h)
    ∙ onto_first_text b (lines_of bytes)

line_after : (text ys : List ℕ) → IsText text → following_line (text ++ ys) ≡ text ++ following_line ys
line_after [] ys h = refl
line_after (b ∷ text) ys h =
    line_on b (text ++ ys) (All-head (λ c. c ≢ 10) b text h)
    ∙ ap (λ l. b ∷ l) (line_after text ys (All-tail (λ c. c ≢ 10) b text h))

-- the last field of a line is the rest of the line
last_line : (text now ys : List ℕ) → IsText text → FieldTaken Line text now ys → following_line now ≡ text
last_line text now ys h (inl e) = ap following_line e ∙ line_after text (10 ∷ ys) h ∙ append-nil text
last_line text now ys h (inr e) =
    ap following_line (e.0 ∙ sym (append-nil text)) ∙ line_after text [] h ∙ append-nil text

space_line : (text now ys : List ℕ) → IsText text → FieldTaken Space text now ys
    → following_line now ≡ text ++ 32 ∷ following_line ys
space_line text now ys h e =
    ap following_line e ∙ line_after text (32 ∷ ys) h ∙ ap (λ l. text ++ l) (line_on 32 ys (λ z. absurd (omega (arith, z))))

no_space : (text : List ℕ) → All (λ b. b ≢ 32) text → All (λ b. eqb b 32 ≡ false) text
no_space text h = λ k d l. ne_eqb _ 32 (h k d l)

one_field : (text : List ℕ) → All (λ b. b ≢ 32) text → fields_of text ≡ text ∷ []
one_field text h = slice_split_none (λ b. eqb b 32) text (no_space text h)

more_fields : (text more : List ℕ) → All (λ b. b ≢ 32) text → fields_of (text ++ 32 ∷ more) ≡ text ∷ fields_of more
more_fields text more h = slice_split_at (λ b. eqb b 32) text 32 more (no_space text h) refl

last_fields : (text now ys : List ℕ) → IsInField text → FieldTaken Line text now ys
    → fields_of (following_line now) ≡ text ∷ []
last_fields text now ys h t = ap fields_of (last_line text now ys h.0 t) ∙ one_field text h.1

space_fields : (text now ys : List ℕ) → IsInField text → FieldTaken Space text now ys
    → fields_of (following_line now) ≡ text ∷ fields_of (following_line ys)
space_fields text now ys h t = ap fields_of (space_line text now ys h.0 t) ∙ more_fields text (following_line ys) h.1

-- ---- bytes ----

space_text : IsText (32 ∷ [])
space_text = All-cons (λ b. b ≢ 10) 32 [] (λ z. absurd (omega (arith, z))) no_bytes

space_part : (after text now ys : List ℕ) → IsText text → FieldTaken Space text now ys → ReadsPart after now
    → ReadsPart after ys
space_part after text now ys h t p = (
  p.0 ++ (text ++ 32 ∷ []),
  All-append (λ b. b ≢ 10) p.0 (text ++ 32 ∷ []) p.1 (All-append (λ b. b ≢ 10) text (32 ∷ []) h space_text),
  p.2 ∙ ap (λ l. p.0 ++ l) (t ∙ sym (append_assoc text (32 ∷ []) ys)) ∙ sym (append_assoc p.0 (text ++ 32 ∷ []) ys),
)

text_part : (after text now ys : List ℕ) → IsText text → now ≡ text ++ ys → ReadsPart after now → ReadsPart after ys
text_part after text now ys h t p = (
  p.0 ++ text,
  All-append (λ b. b ≢ 10) p.0 text p.1 h,
  p.2 ∙ ap (λ l. p.0 ++ l) t ∙ sym (append_assoc p.0 text ys),
)

ended_line : (after text now ys : List ℕ) → IsText text → now ≡ text ++ 10 ∷ ys → ReadsPart after now
    → IsTaken (lines_of after) ys
ended_line after text now ys h t p = (
  p.0 ++ text,
  lines_whole (p.0 ++ text) after ys (All-append (λ b. b ≢ 10) p.0 text p.1 h)
      (inl (p.2 ∙ ap (λ l. p.0 ++ l) t ∙ sym (append_assoc p.0 text (10 ∷ ys)))),
)

cut_line : (after text now ys : List ℕ) → IsText text → 0 < length text → now ≡ text → ys ≡ [] → ReadsPart after now
    → IsTaken (lines_of after) ys
cut_line after text now ys h some t e p = (
  p.0 ++ text,
  lines_whole (p.0 ++ text) after ys (All-append (λ b. b ≢ 10) p.0 text p.1 h)
      (inr (
        subst (λ (n : ℕ). 0 < n) (sym (length-append p.0 text)) (omega (arith, some)),
        p.2 ∙ ap (λ l. p.0 ++ l) t,
        e,
      )),
)

-- after a field that is no entry
refused_left : (end : FieldEnd) (after text now ys : List ℕ) → IsText text → FieldTaken end text now ys
    → ReadsPart after now → IsTaken (lines_of after) ys ⊎ ReadsPart after ys
refused_left Space after text now ys h t p = inr (space_part after text now ys h t p)
refused_left Line after text now ys h (inl e) p = inl (ended_line after text now ys h e p)
refused_left Line after text now ys h (inr e) p =
    inr (text_part after text now ys h (e.0 ∙ sym (append-nil text) ∙ ap (λ l. text ++ l) (sym e.1)) p)
refused_left Long after text now ys h t p = inr (text_part after text now ys h t.1 p)

no_steps : (left : Allowance) (field : List ℕ) (fields : List (List ℕ)) → entry_in left field ≡ None
    → steps_in left (field ∷ fields) ≡ None
no_steps left field fields none =
    ap (option_and_then (λ entry. put_steps (steps_of (entry ∷ [])) (steps_in (spent left entry) fields))) none

refused_steps : (left : Allowance) (end : FieldEnd) (text now ys : List ℕ) → IsInField text → FieldTaken end text now ys
    → entry_in left text ≡ None → steps_in left (fields_of (following_line now)) ≡ None
refused_steps left Space text now ys h t none =
    ap (steps_in left) (space_fields text now ys h t) ∙ no_steps left text (fields_of (following_line ys)) none
refused_steps left Line text now ys h t none =
    ap (steps_in left) (last_fields text now ys h t) ∙ no_steps left text [] none
refused_steps left Long text now ys h t none =
    ap (λ l. steps_in left (fields_of l)) (ap following_line t.1 ∙ line_after text ys h.0)
    ∙ steps_long left text (following_line ys) h.1 (omega (arith, t.0))

finds_none : (after ys : List ℕ) → steps_in whole_allowance (fields_of (following_line after)) ≡ None
    → IsTaken (lines_of after) ys ⊎ ReadsPart after ys → Finds None after ys
finds_none after ys e p = (e, subst (λ s. LeavesAfterText s after ys) (sym e) p)

pub refused_on : (after : List ℕ) (steps : List LogStep) (left : Allowance) (end : FieldEnd) (text ys : List ℕ)
    → IsInField text → entry_in left text ≡ None → IsReadTo after steps left end text ys → Finds None after ys
refused_on after steps left end text ys h none r =
    finds_none after ys (r.told ∙ ap (put_steps steps) (refused_steps left end text r.now ys h r.taken none))
    (refused_left end after text r.now ys h.0 r.taken r.part)

pub long_on : (after : List ℕ) (steps : List LogStep) (left : Allowance) (text ys : List ℕ)
    → IsInField text → IsReadTo after steps left Long text ys → Finds None after ys
long_on after steps left text ys h r =
    refused_on after steps left Long text ys h (entry_long left text (omega (arith, r.taken.0))) r

-- after the last entry of the line
last_steps : (before steps : List LogStep) (left more : Allowance) (text now ys : List ℕ) → IsInField text
    → FieldTaken Line text now ys → AddsField (Some more) left text before steps
    → put_steps before (steps_in left (fields_of (following_line now))) ≡ Some steps
last_steps before steps left more text now ys h t a =
    ap (λ fields. put_steps before (steps_in left fields)) (last_fields text now ys h t)
    ∙ field_on before steps left more text [] a ∙ ap Some (append-nil steps)

not_empty : (left more : Allowance) (text : List ℕ) (before steps : List LogStep)
    → AddsField (Some more) left text before steps → 0 < length text
not_empty left more [] before steps a = absurd (cc (a.1))
not_empty left more (b ∷ text) before steps a = omega arith

last_taken : (after text now ys : List ℕ) → IsText text → 0 < length text → FieldTaken Line text now ys
    → ReadsPart after now → IsTaken (lines_of after) ys
last_taken after text now ys h some (inl e) p = ended_line after text now ys h e p
last_taken after text now ys h some (inr e) p = cut_line after text now ys h some e.0 e.1 p

finds_steps : (after ys : List ℕ) (log : Log) → steps_in whole_allowance (fields_of (following_line after)) ≡ Some log.steps
    → IsTaken (lines_of after) ys → Finds (Some log) after ys
finds_steps after ys log e p = (e, subst (λ s. LeavesAfterText s after ys) (sym e) p)

pub last_on : (after : List ℕ) (before : List LogStep) (log : Log) (left more : Allowance) (text ys : List ℕ)
    → IsInField text → AddsField (Some more) left text before log.steps → IsReadTo after before left Line text ys
    → Finds (Some log) after ys
last_on after before log left more text ys h a r =
    finds_steps after ys log (r.told ∙ last_steps before log.steps left more text r.now ys h r.taken a)
    (last_taken after text r.now ys h.0 (not_empty left more text before log.steps a) r.taken r.part)

-- after an entry and a space
pub next_on : (after : List ℕ) (before steps : List LogStep) (left more : Allowance) (end : FieldEnd)
    (text next ys zs : List ℕ) → IsInField text → AddsField (Some more) left text before steps
    → IsReadTo after before left Space text ys → FieldTaken end next ys zs → IsReadTo after steps more end next zs
next_on after before steps left more end text next ys zs h a r t = record {
  now = ys;
  taken = t;
  told = r.told ∙ ap (λ fields. put_steps before (steps_in left fields)) (space_fields text r.now ys h r.taken)
      ∙ field_on before steps left more text (fields_of (following_line ys)) a;
  part = space_part after text r.now ys h.0 r.taken r.part;
}

-- ---- the whole line ----

none_line : (text now ys : List ℕ) → IsText text → bytes_eq text (codes "none") ≡ true → FieldTaken Line text now ys
    → log_in (following_line now) ≡ Some []
unfolding log_in
none_line text now ys h n t =
    ap log_in (last_line text now ys h t) ∙ ap (λ b. cond b (Some []) (steps_in whole_allowance (fields_of text))) n

none_not_empty : (text : List ℕ) → bytes_eq text (codes "none") ≡ true → 0 < length text
none_not_empty [] h = cc
none_not_empty (b ∷ text) h = omega arith

reads_steps : (after ys : List ℕ) (log : Log) → log_in (following_line after) ≡ Some log.steps
    → IsTaken (lines_of after) ys → ReadsLogLine (Some log) after ys
reads_steps after ys log e p = (e, subst (λ s. LeavesAfterText s after ys) (sym e) p)

pub reads_none : (end : FieldEnd) (log : Log) (text after ys : List ℕ) → IsInField text → log.steps ≡ []
    → is_none_line end text ≡ true → FieldTaken end text after ys → ReadsLogLine (Some log) after ys
reads_none Space log text after ys h l n t = cc
reads_none Long log text after ys h l n t = cc
reads_none Line log text after ys h l n t =
    reads_steps after ys log (none_line text after ys h.0 n t ∙ ap Some (sym l))
    (last_taken after text after ys h.0 (none_not_empty text n) t ([], no_bytes, refl))

-- a line with a second field, or with a longer field, isn't `none`
two_fields : (text more : List ℕ) → All (λ b. b ≢ 32) text → text ++ 32 ∷ more ≡ codes "none" → ⊥
two_fields text more h e =
    let fields = sym (ap length (more_fields text more h)) ∙ ap (λ l. length (fields_of l)) e in
    absurd (omega (arith, fields, length-slice_split (λ b. eqb b 32) more))

differs : (v : Bool) (xs ys : List ℕ) → bytes_eq xs ys ≡ v → (xs ≡ ys → ⊥) → v ≡ false
differs true xs ys e h = absurd (h ((bytes_eq-Decides xs ys).0 e))
differs false xs ys e h = refl

not_none : (end : FieldEnd) (text after ys : List ℕ) → IsInField text → is_none_line end text ≡ false
    → FieldTaken end text after ys → bytes_eq (following_line after) (codes "none") ≡ false
not_none Line text after ys h n t = ap (λ l. bytes_eq l (codes "none")) (last_line text after ys h.0 t) ∙ n
not_none Space text after ys h n t =
    differs _ (following_line after) (codes "none") refl
    (λ e. two_fields text (following_line ys) h.1 (sym (space_line text after ys h.0 t) ∙ e))
not_none Long text after ys h n t =
    differs _ (following_line after) (codes "none") refl
    (λ e. let l = ap length (sym (line_after text ys h.0) ∙ sym (ap following_line t.1) ∙ e) in
    absurd (omega (arith, l, t.0, length-append text (following_line ys))))

pub reads_found : (end : FieldEnd) (found : Option Log) (text after ys zs : List ℕ) → IsInField text
    → is_none_line end text ≡ false → FieldTaken end text after ys → Finds found after zs
    → ReadsLogLine found after zs
unfolding log_in
reads_found end found text after ys zs h n t f =
    let same : log_in (following_line after) ≡ steps_in whole_allowance (fields_of (following_line after)) =
    ap (λ b. cond b (Some []) (steps_in whole_allowance (fields_of (following_line after))))
    (not_none end text after ys h n t) in
    (subst (LogHas found) (sym same) f.0, subst (λ s. LeavesAfterText s after zs) (sym same) f.1)

-- ---- the bytes of an input ----

-- before this field the bytes xs were left, after it the bytes ys
abbrev pub ReadsOn : FieldEnd → List ℕ → List LogStep → Allowance → FieldEnd → List ℕ → List ℕ → List ℕ → Type 0
ReadsOn first start steps left end text xs ys =
    (after : List ℕ) → FieldTaken first start after xs → IsReadTo after steps left end text ys

pub begun : (a : Option (List ℕ)) (first : FieldEnd) (text : List ℕ) (steps : List LogStep) (left : Allowance)
    → steps ≡ [] → left ≡ whole_allowance → Moves a a (ReadsOn first text steps left first text)
begun a first text steps left s l =
    rw (s, l) (Moves-refl a (ReadsOn first text [] whole_allowance first text)
    (λ xs after t. read_to_first after first text xs t))

pub refused : (a b : Option (List ℕ)) (first end : FieldEnd) (start text : List ℕ) (steps : List LogStep)
    (left : Allowance) → IsInField text → entry_in left text ≡ None
    → Moves a b (ReadsOn first start steps left end text) → Moves a b (ReadsEntries None first start)
refused a b first end start text steps left h none m =
    Moves-weaker a b (ReadsOn first start steps left end text) (ReadsEntries None first start)
    (λ xs ys r after t. refused_on after steps left end text ys h none (r after t)) m

pub too_long : (a b : Option (List ℕ)) (first end : FieldEnd) (start text : List ℕ) (steps : List LogStep)
    (left : Allowance) → IsInField text → end ≡ Long
    → Moves a b (ReadsOn first start steps left end text) → Moves a b (ReadsEntries None first start)
too_long a b first end start text steps left h is m =
    Moves-weaker a b (ReadsOn first start steps left Long text) (ReadsEntries None first start)
    (λ xs ys r after t. long_on after steps left text ys h (r after t))
    (subst (λ e. Moves a b (ReadsOn first start steps left e text)) is m)

pub last : (a b : Option (List ℕ)) (first end : FieldEnd) (start text : List ℕ) (before : List LogStep) (log : Log)
    (left more : Allowance) → IsInField text → end ≡ Line → AddsField (Some more) left text before log.steps
    → Moves a b (ReadsOn first start before left end text) → Moves a b (ReadsEntries (Some log) first start)
last a b first end start text before log left more h is added m =
    Moves-weaker a b (ReadsOn first start before left Line text) (ReadsEntries (Some log) first start)
    (λ xs ys r after t. last_on after before log left more text ys h added (r after t))
    (subst (λ e. Moves a b (ReadsOn first start before left e text)) is m)

pub next : (a b c : Option (List ℕ)) (first end then : FieldEnd) (start text now : List ℕ)
    (before steps : List LogStep) (left more : Allowance) → IsInField text → end ≡ Space
    → AddsField (Some more) left text before steps → Moves a b (ReadsOn first start before left end text)
    → Moves b c (FieldTaken then now) → Moves a c (ReadsOn first start steps more then now)
next a b c first end then start text now before steps left more h is added m t =
    Moves-trans a b c (ReadsOn first start before left Space text) (FieldTaken then now)
    (ReadsOn first start steps more then now)
    (λ xs ys zs r taken after f. next_on after before steps left more then text now ys zs h added (r after f) taken)
    (subst (λ e. Moves a b (ReadsOn first start before left e text)) is m) t

pub is_none : (a b : Option (List ℕ)) (end : FieldEnd) (log : Log) (text : List ℕ) → IsInField text
    → log.steps ≡ [] → is_none_line end text ≡ true → Moves a b (FieldTaken end text)
    → Moves a b (ReadsLogLine (Some log))
is_none a b end log text h l n m =
    Moves-weaker a b (FieldTaken end text) (ReadsLogLine (Some log))
    (λ xs ys t. reads_none end log text xs ys h l n t) m

pub has_entries : (a b c : Option (List ℕ)) (end : FieldEnd) (result : Result (Option Log) Refusal) (text : List ℕ)
    (Q : Refusal → Type 0) → IsInField text → is_none_line end text ≡ false → Moves a b (FieldTaken end text)
    → MatchResult result (λ found. Moves b c (ReadsEntries found end text)) Q
    → MatchResult result (λ found. Moves a c (ReadsLogLine found)) Q
has_entries a b c end (Ok found) text Q h n m r =
    Moves-trans a b c (FieldTaken end text) (ReadsEntries found end text) (ReadsLogLine found)
    (λ xs ys zs t f. reads_found end found text xs ys zs h n t (f xs t)) m r
has_entries a b c end (Err refusal) text Q h n m r = r

-- ---- an error ----

pub at_error : {T E P : Type 0} (result : Result T E) → P → OnErr result P
at_error (Ok x) p = tt
at_error (Err e) p = p

pub some_entries : (a b : Option (List ℕ)) (first end : FieldEnd) (start text : List ℕ) (steps : List LogStep)
    (left : Allowance) → IsInField text → Moves a b (ReadsOn first start steps left end text)
    → Moves a b (ReadsSomeEntries first start)
some_entries a b first end start text steps left h m =
    Moves-weaker a b (ReadsOn first start steps left end text) (ReadsSomeEntries first start)
    (λ xs ys r after t.
    refused_left end after text (r after t).now ys h.0 (r after t).taken (r after t).part) m

pub entries_and_part : (a b c : Option (List ℕ)) (first end : FieldEnd) (start text now : List ℕ)
    (steps : List LogStep) (left : Allowance) → IsInField text → end ≡ Space → IsInField now
    → Moves a b (ReadsOn first start steps left end text) → Moves b c (λ xs ys. xs ≡ now ++ ys)
    → Moves a c (ReadsSomeEntries first start)
entries_and_part a b c first end start text now steps left h is part m t =
    Moves-trans a b c (ReadsOn first start steps left Space text) (λ xs ys. xs ≡ now ++ ys)
    (ReadsSomeEntries first start)
    (λ xs ys zs r e after f. inr (text_part after now ys zs part.0 e
    (space_part after text (r after f).now ys h.0 (r after f).taken (r after f).part)))
    (subst (λ e. Moves a b (ReadsOn first start steps left e text)) is m) t
