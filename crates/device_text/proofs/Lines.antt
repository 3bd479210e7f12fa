-- The lines of a text, by the bytes that reading one line takes.
use Rattle.std.proofs.Common.{◌≡◌, ◌≢◌, ℕ, suc, ◌<◌, ◌≤◌, false, cond, eqb, List, [], ◌∷◌, ◌++◌, length, refl, sym, ap}
use Rattle.std.proofs.Common.{◌∙◌, subst, arith, All, inl, inr}
use Rattle.std.proofs.lemmas.Bool.{ne_eqb}
use Rattle.std.proofs.lemmas.List.Elements.{All-head, All-tail}
use Rattle.device_text.specs.Line.{IsText, LineTaken, lines_of, onto}
use Rattle.device_text.specs.declared.line.LineRead.TheVariants.{Whole}

-- a property of all elements holds for the first one and for the others
All-uncons : {X : Type 0} (P : X → Type 0) (x : X) (xs : List X) → All P (x ∷ xs) → P x × All P xs
All-uncons P x xs h = (All-head P x xs h, All-tail P x xs h)

no_end : (b : ℕ) → b ≢ 10 → eqb b 10 ≡ false
no_end b h = ne_eqb b 10 h

-- a line that ends in a line end, followed by the lines of the rest
lines_ended : (text ys : List ℕ) → IsText text → lines_of (text ++ 10 ∷ ys) ≡ (text, ys) ∷ lines_of ys
lines_ended [] ys h = refl
lines_ended (b ∷ text) ys h =
    let p = All-uncons (λ b. b ≢ 10) b text h in
    rw (no_end b p.0, lines_ended text ys p.1) refl

-- a last line without a line end
lines_cut : (b : ℕ) (text : List ℕ) → IsText (b ∷ text) → lines_of (b ∷ text) ≡ (b ∷ text, []) ∷ []
lines_cut b [] h = rw (no_end b (All-uncons (λ b. b ≢ 10) b [] h).0) refl
lines_cut b (c ∷ text) h =
    let p = All-uncons (λ b. b ≢ 10) b (c ∷ text) h in
    ap (λ v. cond v (([], c ∷ text) ∷ lines_of (c ∷ text)) (onto b (lines_of (c ∷ text)))) (no_end b p.0)
    ∙ ap (onto b) (lines_cut c text p.1)

cut : (text : List ℕ) → IsText text → 0 < length text → lines_of text ≡ (text, []) ∷ lines_of []
cut [] h p = absurd (omega arith)
cut (b ∷ text) h p = lines_cut b text h

pub lines_whole : (text xs ys : List ℕ) → IsText text → LineTaken Whole text xs ys → lines_of xs ≡ (text, ys)
    ∷ lines_of ys
lines_whole text xs ys h (inl e) = rw e (lines_ended text ys h)
lines_whole text xs ys h (inr e) = rw (e.1, e.2) (cut text h e.0)

-- the first line has n bytes or more
abbrev pub FirstHas : ℕ → List (List ℕ × List ℕ) → Type 0
FirstHas n [] = ⊥
FirstHas n (line ∷ more) = n ≤ length line.0

onto_has_one : (b : ℕ) (lines : List (List ℕ × List ℕ)) → FirstHas 1 (onto b lines)
onto_has_one b [] = omega arith
onto_has_one b (line ∷ lines) = omega arith

onto_has : (n b : ℕ) (lines : List (List ℕ × List ℕ)) → FirstHas n lines → FirstHas (suc n) (onto b lines)
onto_has n b [] h = absurd h
onto_has n b (line ∷ lines) h = omega arith

pub lines_long : (b : ℕ) (text ys : List ℕ) → IsText (b ∷ text)
    → FirstHas (suc (length text)) (lines_of (b ∷ (text ++ ys)))
lines_long b [] ys h = rw (no_end b (All-uncons (λ b. b ≢ 10) b [] h).0) (onto_has_one b (lines_of ys))
lines_long b (c ∷ text) ys h =
    let p = All-uncons (λ b. b ≢ 10) b (c ∷ text) h in
    subst (λ v. FirstHas (suc (suc (length text)))
    (cond v (([], c ∷ (text ++ ys)) ∷ lines_of (c ∷ (text ++ ys))) (onto b (lines_of (c ∷ (text ++ ys)))))) (sym
    (no_end b p.0)) (onto_has (suc (length text)) b (lines_of (c ∷ (text ++ ys))) (lines_long c text ys p.1))

first_long : (text ys : List ℕ) → IsText text → length text ≡ 201 → FirstHas 201 (lines_of (text ++ ys))
first_long [] ys h e = absurd (omega arith)
first_long (b ∷ text) ys h e = subst (λ n. FirstHas n (lines_of (b ∷ (text ++ ys)))) e (lines_long b text ys h)

pub lines_first_long : (text xs ys : List ℕ) → IsText text → length text ≡ 201 → xs ≡ text ++ ys
    → FirstHas 201 (lines_of xs)
lines_first_long text xs ys h n e = rw e (first_long text ys h n)
