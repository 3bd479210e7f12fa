-- Tests over joined lists.
use Rattle.std.proofs.Common.{◌≡◌, Bool, true, false, List, [], ◌∷◌, ◌++◌, refl, ap, ◌∙◌, arith}
use Rattle.std.specs.Prelude.{◌||◌}
use Rattle.std.proofs.lemmas.Bool.{or_parts, or_from}
use Rattle.std.specs.List.{list_any}
use Rattle.instructions.specs.Each.{Each, Pairs}

pub or_false : (b : Bool) → (b || false) ≡ b
or_false true = refl
or_false false = refl

pub any_same : {X : Type 0} (f g : X → Bool) → ((x : X) → f x ≡ g x) → (xs : List X) → list_any f xs ≡ list_any g xs
any_same f g h [] = refl
any_same f g h (x ∷ xs) = ap (λ b. b || list_any f xs) (h x) ∙ ap (λ b. g x || b) (any_same f g h xs)

pub any_left : {X : Type 0} (f : X → Bool) (xs ys : List X) → list_any f (xs ++ ys) ≡ false → list_any f xs ≡ false
any_left f [] ys h = refl
any_left f (x ∷ xs) ys h =
    let p = or_parts (f x) (list_any f (xs ++ ys)) h in
    or_from (f x) (list_any f xs) p.0 (any_left f xs ys p.1)

pub any_right : {X : Type 0} (f : X → Bool) (xs ys : List X) → list_any f (xs ++ ys) ≡ false → list_any f ys ≡ false
any_right f [] ys h = h
any_right f (x ∷ xs) ys h = any_right f xs ys (or_parts (f x) (list_any f (xs ++ ys)) h).1

-- if a test fails everywhere, the property holds for each element
pub each_of_any : {X : Type 0} (f : X → Bool) (P : X → Type 0) → ((x : X) → f x ≡ false → P x) → (xs : List X)
    → list_any f xs ≡ false → Each P xs
each_of_any f P step [] h = tt
each_of_any f P step (x ∷ xs) h =
    let p = or_parts (f x) (list_any f xs) h in
    (step x p.0, each_of_any f P step xs p.1)

pub any_of_each : {X : Type 0} (f : X → Bool) (P : X → Type 0) → ((x : X) → P x → f x ≡ false) → (xs : List X)
    → Each P xs → list_any f xs ≡ false
any_of_each f P step [] h = refl
any_of_each f P step (x ∷ xs) h = or_from (f x) (list_any f xs) (step x h.0) (any_of_each f P step xs h.1)

pub each_map : {X : Type 0} (P Q : X → Type 0) → ((x : X) → P x → Q x) → (xs : List X) → Each P xs → Each Q xs
each_map P Q step [] h = tt
each_map P Q step (x ∷ xs) h = (step x h.0, each_map P Q step xs h.1)

pub each_both : {X : Type 0} (P Q R : X → Type 0) → ((x : X) → P x → Q x → R x) → (xs : List X) → Each P xs → Each Q xs
    → Each R xs
each_both P Q R step [] h k = tt
each_both P Q R step (x ∷ xs) h k = (step x h.0 k.0, each_both P Q R step xs h.1 k.1)

pub each_left : {X : Type 0} (P : X → Type 0) (xs ys : List X) → Each P (xs ++ ys) → Each P xs
each_left P [] ys h = tt
each_left P (x ∷ xs) ys h = (h.0, each_left P xs ys h.1)

pub each_right : {X : Type 0} (P : X → Type 0) (xs ys : List X) → Each P (xs ++ ys) → Each P ys
each_right P [] ys h = h
each_right P (x ∷ xs) ys h = each_right P xs ys h.1

pub each_append : {X : Type 0} (P : X → Type 0) (xs ys : List X) → Each P xs → Each P ys → Each P (xs ++ ys)
each_append P [] ys h k = k
each_append P (x ∷ xs) ys h k = (h.0, each_append P xs ys h.1 k)

-- each element before a position is related to the element there
pub pairs_before : {X : Type 0} (R : X → X → Type 0) (xs : List X) (y : X) (ys : List X) → Pairs R (xs ++ y ∷ ys)
    → Each (λ x. R x y) xs
pairs_before R [] y ys h = tt
pairs_before R (x ∷ xs) y ys h = ((each_right (R x) xs (y ∷ ys) h.0).0, pairs_before R xs y ys h.1)

pub pairs_right : {X : Type 0} (R : X → X → Type 0) (xs ys : List X) → Pairs R (xs ++ ys) → Pairs R ys
pairs_right R [] ys h = h
pairs_right R (x ∷ xs) ys h = pairs_right R xs ys h.1

-- the list without an element
pub pairs_without : {X : Type 0} (R : X → X → Type 0) (xs : List X) (y : X) (ys : List X) → Pairs R (xs ++ y ∷ ys)
    → Pairs R (xs ++ ys)
pairs_without R [] y ys h = h.1
pairs_without R (x ∷ xs) y ys h = (
  each_append (R x) xs ys (each_left (R x) xs (y ∷ ys) h.0) (each_right (R x) xs (y ∷ ys) h.0).1,
  pairs_without R xs y ys h.1,
)

-- the list with one element replaced
pub pairs_with : {X : Type 0} (R : X → X → Type 0) (xs : List X) (y z : X) (ys : List X) → Pairs R (xs ++ y ∷ ys)
    → Each (λ x. R x z) xs → ((x : X) → R y x → R z x) → Pairs R (xs ++ z ∷ ys)
pairs_with R [] y z ys h k step = (each_map (R y) (R z) step ys h.0, h.1)
pairs_with R (x ∷ xs) y z ys h k step = (
  each_append (R x) xs (z ∷ ys) (each_left (R x) xs (y ∷ ys) h.0) (k.0, (each_right (R x) xs (y ∷ ys) h.0).1),
  pairs_with R xs y z ys h.1 k.1 step,
)

-- the list with one more element
pub pairs_insert : {X : Type 0} (R : X → X → Type 0) (xs : List X) (y : X) (ys : List X) → Pairs R (xs ++ ys)
    → Each (λ x. R x y) xs → Each (R y) ys → Pairs R (xs ++ y ∷ ys)
pairs_insert R [] y ys h k l = (l, h)
pairs_insert R (x ∷ xs) y ys h k l = grind (arith, pairs_insert R xs y ys h.1 k.1 l, each_append, each_left, each_right)

pub pairs_push : {X : Type 0} (R : X → X → Type 0) (xs : List X) (y : X) → Pairs R xs → Each (λ x. R x y) xs
    → Pairs R (xs ++ y ∷ [])
pairs_push R [] y h k = (tt, tt)
pairs_push R (x ∷ xs) y h k = (each_append (R x) xs (y ∷ []) h.0 (k.0, tt), pairs_push R xs y h.1 k.1)
