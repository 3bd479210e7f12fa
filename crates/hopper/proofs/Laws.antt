-- A hopper's answers, and the hopper after each call.
use Rattle.std.proofs.Common.{◌≡◌, ◌≢◌, ◌<◌, ℕ, suc, Bool, true, false, cond, List, [], ◌∷◌, ◌++◌, Option}
use Rattle.std.proofs.Common.{Some, None, refl, sym, ap, ◌∙◌, subst, get_or, set, take, drop, length, arith}
use Rattle.std.specs.Prelude.{Err, Ok}
use Rattle.std.specs.List.{list_any, position, position_or_len, remove}
use Rattle.std.proofs.lemmas.Bool.{eqb-true, ltb-false}
use Rattle.std.proofs.lemmas.List.{get_or-take, length-take-le, take-append-drop}
use Rattle.std.proofs.lemmas.List.Quantifiers.{position-Some}
use Rattle.std.proofs.lemmas.List.Sums.{fails_before_first}
use Rattle.std.proofs.Math.Seq.{drop-cons}
use Rattle.instructions.specs.declared.refusal.Refusal.TheVariants.{BankBusy, OlderAtAddress}
use Rattle.instructions.specs.Each.{Each}
use Rattle.instructions.specs.Finding.{Found, seek, put_back}
use Rattle.instructions.proofs.Finding.{seek_around, seek_nobody}
use Rattle.instructions.proofs.Lists.{each_append, pairs_push}
use Rattle.hopper.specs.declared.entered.Entered.{Entered}
use Rattle.hopper.specs.declared.reference.Reference.{Reference}
use Rattle.hopper.specs.Hopper.{bank_of}
use Rattle.hopper.specs.Queue.{stands_at, reference_at, place_for, holds_back, accept_answer, accepted}
use Rattle.hopper.specs.inner.Found.{found_at}
use Rattle.hopper.specs.inner.View.{IsRight}
use Rattle.hopper.proofs.Standing.{place_free}

-- ---- one enters ----

pub entered_right : (es : List Entered) (busy : List Bool) (p : ℕ) (reference : Reference) → IsRight es busy
    → place_for es ≡ Some p → IsRight (es ++ record { place = p; reference = reference } ∷ []) busy
entered_right es busy p reference r h =
    let k = place_free es p h in
    record {
      all_banks = r.all_banks;
      placed = each_append (λ e. e.place < 4) es _ r.placed (k.0, tt);
      apart = pairs_push (λ d e. d.place ≢ e.place) es (record { place = p; reference = reference }) r.apart k.1;
    }

-- ---- the one that is looked for ----

each_at : (P : Entered → Type 0) (es : List Entered) (d : Entered) → ((k : ℕ) → k < length es → P (get_or es k d))
    → Each P es
each_at P [] d h = tt
each_at P (e ∷ es) d h = (h 0 (omega arith), each_at P es d (λ k l. h (suc k) (omega (arith, l))))

elsewhere : (p : ℕ) (e : Entered) → stands_at p e ≡ false → reference_at p e ≡ None
unfolding stands_at reference_at
elsewhere p e h = ap (λ b. cond b (Some e.reference) None) h

pub nothing_found : (p : ℕ) (es : List Entered) → position (stands_at p) es ≡ None → seek (reference_at p) es ≡ None
nothing_found p [] h = seek_nobody (reference_at p) [] tt
nothing_found p (e ∷ es) h =
    seek_nobody (reference_at p) (e ∷ es)
    (each_at (λ x. reference_at p x ≡ None) (e ∷ es) e
    (λ k l. elsewhere p (get_or (e ∷ es) k e) (fails_before_first (stands_at p) (e ∷ es) k e (all k l))))
  where
    past : (b : Bool) (n : ℕ) → cond b (Some n) None ≡ None → b ≡ false
    past true n g = cc
    past false n g = refl

    all : (k : ℕ) → k < length (e ∷ es) → k < position_or_len (stands_at p) (e ∷ es)
    all k l =
        let q = ltb-false (position_or_len (stands_at p) (e ∷ es)) (length (e ∷ es)) (past _ _ h) in
        omega (arith, q, l)

parted : (es : List Entered) (i : ℕ) (e : Entered) → i < length es → e ≡ get_or es i e
    → es ≡ take i es ++ e ∷ drop (suc i) es
parted es i e l h = grind (arith, take-append-drop, drop-cons)

here_found : (p : ℕ) (e : Entered) → stands_at p e ≡ true
    → (e.place ≡ p) × (reference_at p e ≡ Some e.reference)
unfolding stands_at reference_at
here_found p e h = (eqb-true e.place p h, ap (λ b. cond b (Some e.reference) None) h)

pub one_found : (p : ℕ) (es : List Entered) (i : ℕ) (e : Entered) → position (stands_at p) es ≡ Some i
    → e ≡ get_or es i e → (i < length es)
    × (seek (reference_at p) es ≡ Some (found_at es p i (get_or es i e).reference))
one_found p es i e h k =
    let s = position-Some (stands_at p) es i e h in
    let here = here_found p e (ap (stands_at p) k ∙ s.1) in (
      s.0,
      ap (seek (reference_at p)) (parted es i e s.0 k)
          ∙ seek_around (reference_at p) (take i es) e e.reference (drop (suc i) es) (others s.0 s.2) here.1
          ∙ ap (λ q. Some (record {
            earlier = take i es;
            item = record { place = q; reference = e.reference };
            answer = e.reference;
            later = drop (suc i) es;
          })) here.0
          ∙ ap (λ x. Some (found_at es p i x.reference)) k,
    )
  where
    within : i < length es → (j : ℕ) → j < length (take i es) → j < i
    within l j m = let q = length-take-le i es (omega (arith, l)) in omega (arith, q, m)

    others : i < length es → ((j : ℕ) → j < i → stands_at p (get_or es j e) ≡ false)
        → Each (λ x. reference_at p x ≡ None) (take i es)
    others l f = each_at (λ x. reference_at p x ≡ None) (take i es) e (λ j m.
        subst (λ x. reference_at p x ≡ None) (sym (get_or-take i es j e (within l j m)))
        (elsewhere p (get_or es j e) (f j (within l j m))))

-- ---- what is answered ----

pub bank_refused : (busy : List Bool) (o : Option (Found Entered Reference)) (f : Found Entered Reference) (bank : ℕ)
    → o ≡ Some f → bank ≡ bank_of f.answer.address → get_or busy bank false ≡ true
    → accept_answer busy o ≡ Err (BankBusy bank)
unfolding accept_answer
bank_refused busy o f bank e b h = cc

pub order_judged : (busy : List Bool) (o : Option (Found Entered Reference)) (f : Found Entered Reference) (bank : ℕ)
    (held : Bool) → o ≡ Some f → bank ≡ bank_of f.answer.address → get_or busy bank false ≡ false
    → list_any (holds_back f.answer) f.earlier ≡ held
    → accept_answer busy o ≡ cond held (Err OlderAtAddress) (Ok f.answer)
unfolding accept_answer
order_judged busy o f bank held e b h k = cc

-- ---- one leaves ----

pub accepted_view : (es : List Entered) (busy : List Bool) (p i bank : ℕ) (reference : Reference)
    (o : Option (Found Entered Reference)) → o ≡ Some (found_at es p i reference) → bank ≡ bank_of reference.address
    → record { entered = remove es i; busy = set busy bank true } ≡ accepted (record { entered = es; busy = busy }) o
unfolding accepted put_back
accepted_view es busy p i bank reference o e b = cc
