-- Laws of `Moves`: the effect of consecutive calls on known bytes.
use Rattle.std.proofs.Common.{◌≡◌, ℕ, List, [], ◌++◌, Option, None, Some, subst, sym, ap, ◌∙◌, append_assoc, refl}
use Rattle.std.proofs.Common.{append-nil, Result, Ok, Err, ◌-◌, ◌+◌, length, take, drop, ◌<◌, suc, get_or, add-one}
use Rattle.std.specs.List.{flat_map}
use Rattle.std.proofs.lemmas.List.Concat.{flat_map-cons}
use Rattle.std.proofs.Math.Seq.{take-add, drop-cons}
use Rattle.std.proofs.lemmas.List.{take_rest}
use Rattle.std.proofs.KnownBytes.{Appends-trans, Appends-nil, Appends-kept}
use Rattle.std.specs.Io.KnownBytes.{Keeps, Appends}
use Rattle.device_text.specs.Device.{Moves, Writes, WritesFront, WritesAllBut}

pub Moves-refl : (a : Option (List ℕ)) (P : List ℕ → List ℕ → Type 0) → ((xs : List ℕ) → P xs xs) → Moves a a P
Moves-refl None P h = tt
Moves-refl (Some xs) P h = h xs

pub Moves-trans : (a b c : Option (List ℕ)) (P Q R : List ℕ → List ℕ → Type 0)
    → ((xs ys zs : List ℕ) → P xs ys → Q ys zs → R xs zs) → Moves a b P → Moves b c Q → Moves a c R
Moves-trans None b c P Q R h p q = tt
Moves-trans (Some xs) None c P Q R h p q = absurd p
Moves-trans (Some xs) (Some ys) None P Q R h p q = absurd q
Moves-trans (Some xs) (Some ys) (Some zs) P Q R h p q = h xs ys zs p q

pub Moves-weaker : (a b : Option (List ℕ)) (P Q : List ℕ → List ℕ → Type 0) → ((xs ys : List ℕ) → P xs ys → Q xs ys)
    → Moves a b P → Moves a b Q
Moves-weaker None b P Q h p = tt
Moves-weaker (Some xs) None P Q h p = absurd p
Moves-weaker (Some xs) (Some ys) P Q h p = h xs ys p

-- the writer has taken the first w bytes, and now takes n more
pub written : (a b c : Option (List ℕ)) (bytes : List ℕ) (w n : ℕ) → Appends a b (take w bytes)
    → Appends b c (take n (take (length bytes - w) (drop w bytes))) → Appends a c (take (w + n) bytes)
written a b c bytes w n p q =
    subst (Appends a c) (sym (take-add w n bytes))
    (Appends-trans a b c _ _ p (subst (λ l. Appends b c (take n l)) (take_rest bytes w) q))

-- ---- texts in pieces

pub nothing_written : (a : Option (List ℕ)) (all : List ℕ) → WritesAllBut all a a all
nothing_written a all = ([], refl, Appends-nil a)

-- after one more piece was written
pub piece_written : (a b c : Option (List ℕ)) (piece rest all : List ℕ) → WritesAllBut (piece ++ rest) a b all
    → Appends b c piece → WritesAllBut rest a c all
piece_written a b c piece rest all h p =
    (h.0 ++ piece, h.1 ∙ sym (append_assoc h.0 piece rest), Appends-trans a b c h.0 piece h.2 p)

-- a write fails within a piece
pub piece_cut : (a b c : Option (List ℕ)) (piece rest all : List ℕ) → WritesAllBut (piece ++ rest) a b all
    → WritesFront b c piece → WritesFront a c all
piece_cut a b c piece rest all h p = (
  p.0 ++ rest,
  (
    h.0 ++ p.1.0,
    h.1 ∙ ap (λ l. h.0 ++ l) (ap (λ l. l ++ rest) p.1.1 ∙ append_assoc p.1.0 p.0 rest)
        ∙ sym (append_assoc h.0 p.1.0 (p.0 ++ rest)),
    Appends-trans a b c h.0 p.1.0 h.2 p.1.2,
  ),
)

-- ---- a text for each item of a list

pub each_left : {X : Type 0} (f : X → List ℕ) (xs : List X) (i : ℕ) (d : X) → i < length xs
    → flat_map f (drop i xs) ≡ f (get_or xs i d) ++ flat_map f (drop (i + 1) xs)
each_left f xs i d h = ap (flat_map f) (drop-cons xs i d h) ∙ flat_map-cons f (get_or xs i d) (drop (suc i) xs)
    ∙ ap (λ j. f (get_or xs i d) ++ flat_map f (drop j xs)) (sym (add-one i))

-- ---- texts one after another, as calls with `?` write them

-- a write fails within the first text
pub cut_in : (a b : Option (List ℕ)) (t rest : List ℕ) → WritesFront a b t → WritesFront a b (t ++ rest)
cut_in a b t rest w = (w.0 ++ rest, (w.1.0, ap (λ l. l ++ rest) w.1.1 ∙ append_assoc w.1.0 w.0 rest, w.1.2))

-- a write fails after the first text
pub cut_after : (a b c : Option (List ℕ)) (t rest : List ℕ) → Appends a b t → WritesFront b c rest
    → WritesFront a c (t ++ rest)
cut_after a b c t rest p w =
    (w.0, (t ++ w.1.0, ap (λ l. t ++ l) w.1.1 ∙ sym (append_assoc t w.1.0 w.0), Appends-trans a b c t w.1.0 p w.1.2))

pub writes_after : {E : Type 0} (r : Result (Unit {0}) E) (a b c : Option (List ℕ)) (t rest : List ℕ) → Appends a b t
    → Writes r b c rest → Writes r a c (t ++ rest)
writes_after (Ok x) a b c t rest p w = Appends-trans a b c t rest p w
writes_after (Err e) a b c t rest p w = cut_after a b c t rest p w

-- the last text, in the form that `concat` gives it
pub writes_last : {E : Type 0} (r : Result (Unit {0}) E) (a b : Option (List ℕ)) (t : List ℕ) → Writes r a b t
    → Writes r a b (t ++ [])
writes_last r a b t w = subst (Writes r a b) (sym (append-nil t)) w

-- a flush after everything was written
pub flushed : {E : Type 0} (r : Result (Unit {0}) E) (a b c : Option (List ℕ)) (all : List ℕ) → Appends a b all
    → Keeps b c → Writes r a c all
flushed (Ok x) a b c all p k = Appends-kept a b c all p k
flushed (Err e) a b c all p k = ([], (all, sym (append-nil all), Appends-kept a b c all p k))
