-- Searching a list.
use Rattle.std.proofs.Common.{◌≡◌, List, [], ◌∷◌, ◌++◌, Option, Some, None, refl, ap, ◌∙◌, subst}
use Rattle.std.proofs.lemmas.Option.{same_Some}
use Rattle.instructions.specs.Each.{Each}
use Rattle.instructions.specs.Finding.{Found, found_further, found_here, seek, put_back, replaced}

-- the found element is in the list, the answer is about it, and no earlier element answers
abbrev pub Splits : {M K : Type 0} → (M → Option K) → List M → Found M K → Type 0
Splits f ms x = (ms ≡ x.earlier ++ x.item ∷ x.later) × (f x.item ≡ Some x.answer) × Each (λ e. f e ≡ None) x.earlier

pub seek_splits : {M K : Type 0} (f : M → Option K) (ms : List M) (x : Found M K) → seek f ms ≡ Some x → Splits f ms x
unfolding seek found_here found_further
seek_splits f [] x h = cc
seek_splits {M} {K} f (m ∷ ms) x h = here (seek_splits f ms) (f m) refl (seek f ms) refl h
  where
    here : ((y : Found M K) → seek f ms ≡ Some y → Splits f ms y) → (o : Option K) → f m ≡ o
        → (rest : Option (Found M K)) → seek f ms ≡ rest → found_here o m ms rest ≡ Some x → Splits f (m ∷ ms) x
    here ih (Some y) e rest er k = subst (Splits f (m ∷ ms)) (same_Some _ x k) (refl, e, tt)
    here ih None e None er k = cc
    here ih None e (Some y) er k =
        let p = ih y er in
        subst (Splits f (m ∷ ms)) (same_Some _ x k) (ap (λ l. m ∷ l) p.0, p.1, (e, p.2))

-- the search finds an element if no earlier element answers
pub seek_around : {M K : Type 0} (f : M → Option K) (es : List M) (m : M) (x : K) (ls : List M)
    → Each (λ e. f e ≡ None) es → f m ≡ Some x
    → seek f (es ++ m ∷ ls) ≡ Some (record { earlier = es; item = m; answer = x; later = ls })
unfolding seek found_here found_further
seek_around f [] m x ls h e = ap (λ o. found_here o m ls (seek f ls)) e
seek_around f (y ∷ es) m x ls h e = ap (λ o. found_here o y (es ++ m ∷ ls) (seek f (es ++ m ∷ ls))) h.0
    ∙ ap (found_further y) (seek_around f es m x ls h.1 e)

pub seek_nobody : {M K : Type 0} (f : M → Option K) (ms : List M) → Each (λ m. f m ≡ None) ms → seek f ms ≡ None
unfolding seek found_here found_further
seek_nobody f [] h = refl
seek_nobody f (m ∷ ms) h = ap (λ o. found_here o m ms (seek f ms)) h.0 ∙ ap (found_further m) (seek_nobody f ms h.1)

-- replacing the found element by others
pub replaced_around : {M K : Type 0} (f : M → Option K) (g : M → List M) (es : List M) (m : M) (x : K) (ls : List M)
    → Each (λ e. f e ≡ None) es → f m ≡ Some x → replaced (seek f (es ++ m ∷ ls)) (es ++ m ∷ ls) g ≡ es ++ (g m ++ ls)
unfolding replaced put_back
replaced_around f g es m x ls h e = ap (λ o. replaced o (es ++ m ∷ ls) g) (seek_around f es m x ls h e)

pub replaced_nobody : {M K : Type 0} (f : M → Option K) (g : M → List M) (ms : List M) → Each (λ m. f m ≡ None) ms
    → replaced (seek f ms) ms g ≡ ms
unfolding replaced
replaced_nobody f g ms h = ap (λ o. replaced o ms g) (seek_nobody f ms h)
