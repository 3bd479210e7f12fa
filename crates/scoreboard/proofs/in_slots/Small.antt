-- Lists of registers and of writers, element by element.
use Rattle.std.proofs.Common.{◌≡◌, ◌<◌, ◌≤◌, ◌+◌, ℕ, zero, suc, true, false, cond, List, [], ◌∷◌, ◌++◌}
use Rattle.std.proofs.Common.{Option, Some, None, length, get_or, set, map, take, drop, refl, sym, ap, ◌∙◌, arith}
use Rattle.std.specs.Prelude.{is_some, slice_get, IfSome, find, zip, option_map}
use Rattle.std.specs.List.{list_any}
use Rattle.std.proofs.lemmas.List.{set-get_or}
use denote.Enum.Declared.{tag_of}
use Rattle.instructions.specs.contracts.instr.Unit.{the_type}
use Rattle.instructions.specs.declared.instr.Unit.{Unit as FunctionalUnit}
use Rattle.instructions.specs.declared.instr.Unit.TheVariants.{Branch, Boolean, Shift, Add, LongAdd, Multiply1}
use Rattle.instructions.specs.declared.instr.Unit.TheVariants.{Multiply2, Divide, Increment1, Increment2}
use Rattle.scoreboard.specs.Units.{unit_number}
use Rattle.instructions.specs.declared.instr.Reg.{Reg}
use Rattle.scoreboard.specs.declared.writer.Writer.{Writer}
use Rattle.scoreboard.specs.declared.issued.Issued.{Issued}
use Rattle.instructions.specs.Each.{Each}
use Rattle.scoreboard.specs.inner.Fields.{forget_in_taken, first_produced}
use Rattle.scoreboard.specs.inner.View.{AreProducers}
use Rattle.scoreboard.specs.Writers.{IsRegister, writer_if, is_expected, forget}

-- ---- a change of each element, in position ----

mapped_at : {K : Type 0} (f : K → K) (xs : List K) (i : ℕ) (d z : K) → i < length xs
    → z ≡ f (get_or (map f (take i xs) ++ drop i xs) i d)
    → set (map f (take i xs) ++ drop i xs) i z ≡ map f (take (suc i) xs) ++ drop (suc i) xs
mapped_at f [] i d z h k = absurd (omega arith)
mapped_at f (x ∷ xs) zero d z h k = ap (λ v. v ∷ xs) k
mapped_at f (x ∷ xs) (suc i) d z h k = ap (λ l. f x ∷ l) (mapped_at f xs i d z (omega arith) k)

pub mapped_more : {K : Type 0} (f : K → K) (xs ys : List K) (i : ℕ) (d z : K) → i < length xs → ys ≡ map f (take i xs)
    ++ drop i xs → z ≡ f (get_or ys i d) → set ys i z ≡ map f (take (i + 1) xs) ++ drop (i + 1) xs
mapped_more f xs ys i d z h e k = grind (arith, mapped_at)

-- an element that the function leaves unchanged
pub mapped_same : {K : Type 0} (f : K → K) (xs ys : List K) (i : ℕ) (d : K) → i < length xs → ys ≡ map f (take i xs)
    ++ drop i xs → get_or ys i d ≡ f (get_or ys i d) → ys ≡ map f (take (i + 1) xs) ++ drop (i + 1) xs
mapped_same f xs ys i d h e k = sym (set-get_or ys i d) ∙ mapped_more f xs ys i d (get_or ys i d) h e k

pub expected_goes : (w : Writer) (o : Option Writer) → is_expected w o ≡ true → None ≡ forget w o
unfolding is_expected forget
expected_goes w None h = refl
expected_goes w (Some v) h = sym (ap (λ b. cond b None (Some v)) h)

pub other_stays : (w : Writer) (o : Option Writer) → is_expected w o ≡ false → o ≡ forget w o
unfolding is_expected forget
other_stays w None h = refl
other_stays w (Some v) h = sym (ap (λ b. cond b None (Some v)) h)

-- ---- the producers of the units that are taken ----

pub taken_more : (w : Writer) (os : List (Option Issued)) (pss qss : List (List (Option Writer))) (i : ℕ)
    (o : Option Issued) (ps : List (Option Writer)) → i < length os → i < length pss → o ≡ get_or os i o
    → is_some o ≡ true → qss ≡ forget_in_taken w (take i os) pss → ps ≡ map (forget w) (get_or qss i [])
    → set qss i ps ≡ forget_in_taken w (take (i + 1) os) pss
unfolding forget_in_taken
taken_more w os pss qss i o ps h l g t e k =
    let s : suc i ≡ i + 1 = omega arith in
    ap (λ m. set m i ps) e
    ∙ step os pss i o ps h l g t (k ∙ ap (λ m. map (forget w) (get_or m i [])) e)
    ∙ ap (λ n. forget_in_taken w (take n os) pss) s
  where
    step : (os : List (Option Issued)) (pss : List (List (Option Writer))) (i : ℕ) (o : Option Issued)
        (ps : List (Option Writer)) → i < length os → i < length pss → o ≡ get_or os i o → is_some o ≡ true
        → ps ≡ map (forget w) (get_or (forget_in_taken w (take i os) pss) i [])
        → set (forget_in_taken w (take i os) pss) i ps ≡ forget_in_taken w (take (suc i) os) pss
    step [] pss i o ps h l g t k = absurd (omega arith)
    step (x ∷ os) [] i o ps h l g t k = absurd (omega arith)
    step (None ∷ os) (qs ∷ pss) zero o ps h l g t k = let q : is_some o ≡ false = ap is_some g in cc
    step (Some x ∷ os) (qs ∷ pss) zero o ps h l g t k = ap (λ m. m ∷ pss) k
    step (None ∷ os) (qs ∷ pss) (suc i) o ps h l g t k =
        ap (λ m. qs ∷ m) (step os pss i o ps (omega arith) (omega arith) g t k)
    step (Some x ∷ os) (qs ∷ pss) (suc i) o ps h l g t k =
        ap (λ m. map (forget w) qs ∷ m) (step os pss i o ps (omega arith) (omega arith) g t k)

pub free_more : (w : Writer) (os : List (Option Issued)) (pss qss : List (List (Option Writer))) (i : ℕ)
    (o : Option Issued) → i < length os → i < length pss → o ≡ get_or os i o → is_some o ≡ false
    → qss ≡ forget_in_taken w (take i os) pss → qss ≡ forget_in_taken w (take (i + 1) os) pss
unfolding forget_in_taken
free_more w os pss qss i o h l g t e =
    let s : suc i ≡ i + 1 = omega arith in
    e ∙ step os pss i o h l g t ∙ ap (λ n. forget_in_taken w (take n os) pss) s
  where
    step : (os : List (Option Issued)) (pss : List (List (Option Writer))) (i : ℕ) (o : Option Issued) → i < length os
        → i < length pss → o ≡ get_or os i o → is_some o ≡ false
        → forget_in_taken w (take i os) pss ≡ forget_in_taken w (take (suc i) os) pss
    step [] pss i o h l g t = absurd (omega arith)
    step (x ∷ os) [] i o h l g t = absurd (omega arith)
    step (None ∷ os) (qs ∷ pss) zero o h l g t = refl
    step (Some x ∷ os) (qs ∷ pss) zero o h l g t = let q : is_some o ≡ true = ap is_some g in cc
    step (None ∷ os) (qs ∷ pss) (suc i) o h l g t = ap (λ m. qs ∷ m) (step os pss i o (omega arith) (omega arith) g t)
    step (Some x ∷ os) (qs ∷ pss) (suc i) o h l g t =
        ap (λ m. map (forget w) qs ∷ m) (step os pss i o (omega arith) (omega arith) g t)

-- ---- the first register with a producer ----

-- the first register with a producer, searched among the pairs of both
pub produced_in_zip : (rs : List Reg) (ps : List (Option Writer)) (o : Option (Reg × Option Writer))
    → o ≡ find (λ p. is_some p.1) (zip rs ps) → option_map (λ p. p.0) o ≡ first_produced rs ps
unfolding first_produced
produced_in_zip rs ps o e = ap (option_map (λ p. p.0)) e ∙ by_pairs rs ps
  where
    by_pairs : (rs : List Reg) (ps : List (Option Writer))
        → option_map (λ p. p.0) (find (λ p. is_some p.1) (zip rs ps)) ≡ first_produced rs ps
    by_pairs [] ps = refl
    by_pairs (r ∷ rs) [] = refl
    by_pairs (r ∷ rs) (None ∷ ps) = by_pairs rs ps
    by_pairs (r ∷ rs) (Some w ∷ ps) = refl

-- without a writer, no register is found
pub none_produced : (rs : List Reg) (ps : List (Option Writer)) → list_any is_some ps ≡ false
    → None ≡ first_produced rs ps
unfolding first_produced
none_produced [] ps h = refl
none_produced (r ∷ rs) [] h = refl
none_produced (r ∷ rs) (None ∷ ps) h = none_produced rs ps h
none_produced (r ∷ rs) (Some w ∷ ps) h = cc

-- ---- the writers of at most three registers ----

pub three_writers : (f : Reg → Option Writer) (rs : List Reg) (a b c : Option Writer) → length rs ≤ 3
    → a ≡ writer_if f (slice_get rs 0) → b ≡ writer_if f (slice_get rs 1) → c ≡ writer_if f (slice_get rs 2)
    → AreProducers f rs (a ∷ b ∷ c ∷ [])
unfolding writer_if
three_writers f [] a b c h e g k = tt
three_writers f (r ∷ []) a b c h e g k = (e, tt)
three_writers f (r ∷ s ∷ []) a b c h e g k = (e, (g, tt))
three_writers f (r ∷ s ∷ t ∷ []) a b c h e g k = (e, (g, (k, tt)))
three_writers f (r ∷ s ∷ t ∷ u ∷ rs) a b c h e g k = absurd (omega arith)

pub three_registers : (rs : List Reg) → length rs ≤ 3 → IfSome (slice_get rs 0) IsRegister
    → IfSome (slice_get rs 1) IsRegister → IfSome (slice_get rs 2) IsRegister → Each IsRegister rs
three_registers [] h e g k = tt
three_registers (r ∷ []) h e g k = (e, tt)
three_registers (r ∷ s ∷ []) h e g k = (e, (g, tt))
three_registers (r ∷ s ∷ t ∷ []) h e g k = (e, (g, (k, tt)))
three_registers (r ∷ s ∷ t ∷ u ∷ rs) h e g k = absurd (omega arith)

-- ---- the index of a unit ----

-- a unit as an index, which is its number
abbrev pub index_of : FunctionalUnit → ℕ
index_of u = tag_of the_type u

pub index_is : (u : FunctionalUnit) → index_of u ≡ unit_number u
index_is Branch = refl
index_is Boolean = refl
index_is Shift = refl
index_is Add = refl
index_is LongAdd = refl
index_is Multiply1 = refl
index_is Multiply2 = refl
index_is Divide = refl
index_is Increment1 = refl
index_is Increment2 = refl

pub index_below : (u : FunctionalUnit) → index_of u < 10
index_below Branch = omega arith
index_below Boolean = omega arith
index_below Shift = omega arith
index_below Add = omega arith
index_below LongAdd = omega arith
index_below Multiply1 = omega arith
index_below Multiply2 = omega arith
index_below Divide = omega arith
index_below Increment1 = omega arith
index_below Increment2 = omega arith
