-- Each move keeps the rule of the progress word.
use Rattle.std.proofs.Common.{◌≡◌, ◌≢◌, ℕ, zero, suc, ◌+◌, ◌<◌, ◌%◌, ◌^◌, Bool, true, false, true≢false, List, [], ◌∷◌}
use Rattle.std.proofs.Common.{◌++◌, length, set, take, get_or, refl, sym, ap, ◌∙◌, subst, ⊎_elim, arith, length-append}
use Rattle.std.specs.Prelude.{slice_index}
use mathlib.Core.Option.{some, some-ne-none, some-injective}
use lib.ListN.{get_elem?}
use Rattle.atomic_table.specs.Table.{Me, keeps, Allows, Splits, Joins, opening}
use Rattle.atomic_table.proofs.Lists.{at_set, set_again}
use Rattle.sequential.specs.Replay.{LogStep}
use Rattle.sequential.specs.Log.{steps_of}
use Rattle.sequential.specs.declared.log.Entry.{Entry}
use Rattle.machine_lock.specs.CallerKnowledge.{Booted, is_in, AreApart}
use Rattle.machine_lock.specs.inner.Rules.{History, Knowing, history, nothing, fresh, spent, Continues, knowing, keeper}
use Rattle.machine_lock.specs.inner.Rules.{caller, with_told, kept_back, handed_back, shared_out, BelongTo, Fits}
use Rattle.machine_lock.specs.inner.Rules.{IsCounted, Added, Looked}
use Rattle.machine_lock.proofs.Lists.{starts_all, starts_more, at_snoc, in_append, in_one, give, give_in}
use Rattle.machine_lock.proofs.Lists.{give_out, steps_of-more}

off : false ≡ true → ⊥
off e = true≢false (sym e)

goes_on_self : (h : History) → Continues h h
goes_on_self h = (refl, starts_all h.log)

-- one view is replaced
fits_set : (keeper_at : ℕ) (begun : Bool) (h : History) (owner : ℕ → ℕ) (views : List Knowing) (by : ℕ) (w : Knowing)
    → Fits keeper_at begun h owner by w
    → ((j : ℕ) (u : Knowing) → j ≢ by → get_elem? views j ≡ some u → Fits keeper_at begun h owner j u)
    → (j : ℕ) (u : Knowing) → get_elem? (set views by w) j ≡ some u → Fits keeper_at begun h owner j u
fits_set keeper_at begun h owner views by w mine others j u e =
    ⊎_elim
    (λ (x : (j ≡ by) × (w ≡ u)). subst (λ (y : ℕ × Knowing). Fits keeper_at begun h owner y.0 y.1)
    (λ i. (sym x.0 i, x.1 i))
    mine)
    (λ (x : (j ≢ by) × (get_elem? views j ≡ some u)). others j u x.0 x.1)
    (at_set views by j w u e)

-- a view is appended
fits_snoc : (keeper_at : ℕ) (begun : Bool) (h : History) (owner : ℕ → ℕ) (views : List Knowing) (w : Knowing)
    → Fits keeper_at begun h owner (length views) w
    → ((j : ℕ) (u : Knowing) → get_elem? views j ≡ some u → Fits keeper_at begun h owner j u) → (j : ℕ) (u : Knowing)
    → get_elem? (views ++ w ∷ []) j ≡ some u → Fits keeper_at begun h owner j u
fits_snoc keeper_at begun h owner views w mine others j u e =
    ⊎_elim
    (λ (x : get_elem? views j ≡ some u). others j u x)
    (λ (x : (j ≡ length views) × (w ≡ u)). subst (λ (y : ℕ × Knowing). Fits keeper_at begun h owner y.0 y.1)
    (λ i. (sym x.0 i, x.1 i)) mine)
    (at_snoc views w u j e)

-- an empty list of positions
none_of : (owner : ℕ → ℕ) (by : ℕ) (log : List LogStep) → BelongTo owner by log []
none_of owner by log p e = absurd (off e)

-- a pass without knowledge
blank : (keeper_at : ℕ) (begun : Bool) (h : History) (owner : ℕ → ℕ) (by : ℕ) → Fits keeper_at begun h owner by spent
blank keeper_at begun h owner by = record {
  keeps = λ e. absurd (off e);
  knows = λ e. absurd (off e);
  mine = none_of owner by h.log;
  theirs = none_of owner by h.log;
  apart = λ p a b. off a;
}

-- the other passes' knowledge stays true when positions of one pass change hands
kept_by_others : (keeper_at : ℕ) (begun : Bool) (k : History) (owner : ℕ → ℕ) (positions : List ℕ) (from to j : ℕ)
    (u : Knowing) → ((p : ℕ) → is_in p positions ≡ true → owner p ≡ from) → j ≢ from → Fits keeper_at begun k owner j u
    → Fits keeper_at begun k (give owner positions to) j u
kept_by_others keeper_at begun k owner positions from to j u of apart h = record {
  keeps = h.keeps;
  knows = h.knows;
  mine = λ p e. (
    (h.mine p e).0,
    give_out owner positions to p (λ i. apart (sym (h.mine p e).1 ∙ of p i))
        ∙ (h.mine p e).1,
  );
  theirs = λ p e. (
    (h.theirs p e).0,
    give_out owner positions to p (λ i. apart (sym (h.theirs p e).1 ∙ of p i))
        ∙ (h.theirs p e).1,
  );
  apart = h.apart;
}

pub begins : IsCounted (opening (0 ∷ []) [] fresh)
begins = record {
  keeper_at = 0;
  begun = false;
  h = nothing;
  owner = λ p. 0;
  word = refl;
  empty = λ _. refl;
  fits = one;
}
  where
    first : Fits 0 false nothing (λ p. 0) 0 fresh
    first = record {
      keeps = λ _. (refl, refl, λ e. absurd (off e));
      knows = λ e. absurd (off e);
      mine = none_of (λ p. 0) 0 [];
      theirs = none_of (λ p. 0) 0 [];
      apart = λ p a b. off a;
    }

    one : (by : ℕ) (v : Knowing) → get_elem? (fresh ∷ []) by ≡ some v → Fits 0 false nothing (λ p. 0) by v
    one zero v e = subst (Fits 0 false nothing (λ p. 0) 0) (some-injective _ _ e) first
    one (suc by) v e = absurd (some-ne-none v (sym e))

pub shares : (id : ℕ) (v : Knowing) → Splits IsCounted id v v (shared_out v)
shares id v s h at =
    let vs : List Knowing = set s.views id v in
    let same : vs ≡ s.views = set_again s.views id v at in
    let mine = h.fits id v at in
    record {
      keeper_at = h.keeper_at;
      begun = h.begun;
      h = h.h;
      owner = h.owner;
      word = h.word;
      empty = h.empty;
      fits = fits_snoc h.keeper_at h.begun h.h h.owner vs (shared_out v)
          (record {
            keeps = λ e. absurd (off e);
            knows = λ k. let m = mine.knows k in (m.0, m.1, m.1);
            mine = none_of h.owner (length vs) h.h.log;
            theirs = none_of h.owner (length vs) h.h.log;
            apart = λ p a b. off a;
          })
          (λ j u e. h.fits j u (subst (λ l. get_elem? l j ≡ some u) same e));
    }

pub hands_over : (id : ℕ) (k : History) (positions : List ℕ) → Splits IsCounted id (caller k positions) spent
    (caller k positions)
hands_over id k positions s h at =
    let v : Knowing = caller k positions in
    let vs : List Knowing = set s.views id spent in
    let n = length vs in
    let mine = h.fits id v at in
    let owner = give h.owner positions n in
    record {
      keeper_at = h.keeper_at;
      begun = h.begun;
      h = h.h;
      owner = owner;
      word = h.word;
      empty = h.empty;
      fits = fits_snoc h.keeper_at h.begun h.h owner vs v
          (record {
            keeps = λ e. absurd (off e);
            knows = mine.knows;
            mine = λ p e. ((mine.mine p e).0, give_in h.owner positions n p e);
            theirs = none_of owner n h.h.log;
            apart = λ p a b. off b;
          })
          (fits_set h.keeper_at h.begun h.h owner s.views id spent (blank h.keeper_at h.begun h.h owner id)
          (λ j u apart e. kept_by_others h.keeper_at h.begun h.h h.owner positions id n j u
          (λ p i. (mine.mine p i).1) apart
          (h.fits j u e)));
    }

pub hands_back : (id : ℕ) (v : Knowing) → Splits IsCounted id v (kept_back v) (handed_back v)
hands_back id v s h at =
    let left : Knowing = kept_back v in
    let right : Knowing = handed_back v in
    let vs : List Knowing = set s.views id left in
    let n = length vs in
    let mine = h.fits id v at in
    let owner = give h.owner v.theirs n in
    record {
      keeper_at = h.keeper_at;
      begun = h.begun;
      h = h.h;
      owner = owner;
      word = h.word;
      empty = h.empty;
      fits = fits_snoc h.keeper_at h.begun h.h owner vs right
          (record {
            keeps = λ e. absurd (off e);
            knows = λ k. let m = mine.knows k in (m.0, m.1, m.1);
            mine = λ p e. ((mine.theirs p e).0, give_in h.owner v.theirs n p e);
            theirs = none_of owner n h.h.log;
            apart = λ p a b. off b;
          })
          (fits_set h.keeper_at h.begun h.h owner s.views id left
          (record {
            keeps = mine.keeps;
            knows = λ k. let m = mine.knows k in (m.0, m.1, m.1);
            mine = λ p e.
                ((mine.mine p e).0, give_out h.owner v.theirs n p (λ i. mine.apart p e i) ∙ (mine.mine p e).1);
            theirs =
                none_of owner id h.h.log;
            apart = λ p a b. off b;
          })
          (λ j u apart e. kept_by_others h.keeper_at h.begun h.h h.owner v.theirs id n j u (λ p i. (mine.theirs p i).1)
          apart (h.fits j u e)));
    }

pub takes_in : (id : ℕ) (v : Knowing) (other : ℕ) (w : Knowing) → w.knows ≡ true → Joins IsCounted id v other w
    (with_told v w) spent
takes_in id v other w is s h at two at' =
    let both : Knowing = with_told v w in
    let vs : List Knowing = set s.views id both in
    let was : get_elem? s.views other ≡ some w = ⊎_elim (λ x. absurd (two x.0)) (λ x. x.1)
    (at_set s.views id other both w at') in
    let mine = h.fits id v at in
    let theirs = h.fits other w was in
    let owner = give h.owner w.mine id in
    let apart : AreApart v.mine w.mine = λ p a b. two (sym (theirs.mine p b).1 ∙ (mine.mine p a).1) in
    record {
      keeper_at = h.keeper_at;
      begun = h.begun;
      h = h.h;
      owner = owner;
      word = h.word;
      empty = h.empty;
      fits = fits_set h.keeper_at h.begun h.h owner vs other spent (blank h.keeper_at h.begun h.h owner other)
          (λ j u apart_other e. fits_but h.keeper_at h.begun h.h owner s.views id both other
          (record {
            keeps = mine.keeps;
            knows = λ k. let m = mine.knows k in (m.0, m.1, (theirs.knows is).1);
            mine =
                λ p a. ((mine.mine p a).0, give_out h.owner w.mine id p (λ i. apart p a i) ∙ (mine.mine p a).1);
            theirs =
                λ p b. ((theirs.mine p b).0, give_in h.owner w.mine id p b);
            apart = apart;
          })
          (λ j u _ apart_other e. kept_by_others h.keeper_at h.begun h.h h.owner w.mine other id j u
          (λ p i. (theirs.mine p i).1) apart_other (h.fits j u e))
          j u apart_other e);
    }
  where
    fits_but : (keeper_at : ℕ) (begun : Bool) (h : History) (owner : ℕ → ℕ) (views : List Knowing) (by : ℕ)
        (x : Knowing)
        (but : ℕ) → Fits keeper_at begun h owner by x
        → ((j : ℕ) (u : Knowing) → j ≢ by → j ≢ but → get_elem? views j ≡ some u → Fits keeper_at begun h owner j u)
        → (j : ℕ) (u : Knowing) → j ≢ but → get_elem? (set views by x) j ≡ some u → Fits keeper_at begun h owner j u
    fits_but keeper_at begun h owner views by x but mine others j u apart e =
        ⊎_elim
        (λ (t : (j ≡ by) × (x ≡ u)). subst (λ (y : ℕ × Knowing). Fits keeper_at begun h owner y.0 y.1)
        (λ i. (sym t.0 i, t.1 i)) mine)
        (λ (t : (j ≢ by) × (get_elem? views j ≡ some u)). others j u t.0 apart t.1)
        (at_set views by j x u e)

-- the word is unchanged
same_word : (ws : List ℕ) (n : ℕ) → ws ≡ n ∷ [] → set ws 0 (slice_index ws 0) ≡ n ∷ []
same_word ws n e = subst (λ (l : List ℕ). set l 0 (slice_index l 0) ≡ n ∷ []) (sym e) refl

more_word : (ws : List ℕ) (n k : ℕ) → ws ≡ n ∷ [] → set ws 0 ((slice_index ws 0 + k) % 2 ^ 64) ≡ ((n + k) % 2 ^ 64) ∷ []
more_word ws n k e = subst (λ (l : List ℕ). set l 0 ((slice_index l 0 + k) % 2 ^ 64) ≡ ((n + k) % 2 ^ 64) ∷ [])
    (sym e) refl

pub looks : (slots id : ℕ) (me : Me ℕ Knowing) → me.0.knows ≡ true → Allows IsCounted slots id me 0 (λ n. n)
    (λ n w. (w.1 ≡ me.1) × Looked me.0 w.0)
looks slots id me is s h _ at _ =
    let v = me.0 in
    let mine = h.fits id v at in
    let m = mine.knows is in
    let w : Knowing = knowing v.keeps v.knows h.h v.mine v.told v.theirs in (
      w,
      keeps,
      tt,
      record {
        keeper_at = h.keeper_at;
        begun = h.begun;
        h = h.h;
        owner = h.owner;
        word = same_word s.words _ h.word;
        empty = h.empty;
        fits = fits_set h.keeper_at h.begun h.h h.owner s.views id w
            (record {
              keeps = λ k. ((mine.keeps k).0, (mine.keeps k).1, λ _. refl);
              knows = λ _. (m.0, goes_on_self h.h, m.2);
              mine = mine.mine;
              theirs = mine.theirs;
              apart = mine.apart;
            })
            (λ j u _ e. h.fits j u e);
      },
      (refl, (refl, m.1, m.2, λ k. sym ((mine.keeps k).2 m.0), mine.apart)),
    )

pub adds : (slots id : ℕ) (me : Me ℕ Knowing) (x : LogStep) → me.0.keeps ≡ true → me.0.knows ≡ true
    → Allows IsCounted slots id me 0 (λ n. (n + 1) % 2 ^ 64) (λ n w. (w.1 ≡ me.1) × Added x me.0 w.0)
adds slots id me x is kn s h _ at _ =
    let v = me.0 in
    let mine = h.fits id v at in
    let m = mine.knows kn in
    let here : v.seen ≡ h.h = (mine.keeps is).2 m.0 in
    let log = h.h.log in
    let position = length log in
    let now : History = history h.h.booted (log ++ x ∷ []) in
    let longer : length now.log ≡ position + 1 = omega (arith, length-append log (x ∷ [])) in
    let owner = give h.owner (position ∷ []) id in
    let old : (p : ℕ) → p < position → give h.owner (position ∷ []) id p ≡ h.owner p = λ p less. give_out h.owner
    (position ∷ []) id p (λ i. let e = in_one p position i in omega arith) in
    let at_place : length v.seen.log ≡ position = ap (λ (y : History). length y.log) here in
    let w : Knowing = knowing v.keeps v.knows (history v.seen.booted (v.seen.log ++ x ∷ [])) v.mine v.told
    (v.theirs ++ length v.seen.log ∷ []) in
    let mine_of : BelongTo owner id now.log v.mine = λ p e. let t = mine.mine p e in (omega arith, old p t.0 ∙ t.1) in
    let theirs_of : BelongTo owner id now.log (v.theirs ++ length v.seen.log ∷ []) = λ p e.
    ⊎_elim (λ (a : is_in p v.theirs ≡ true). let t = mine.theirs p a in
    (let less = t.0 in omega arith, old p t.0 ∙ t.1))
    (λ (b : is_in p (length v.seen.log ∷ []) ≡ true). let q : p ≡ position = in_one p (length v.seen.log) b
    ∙ at_place in
    (omega arith, give_in h.owner (position ∷ []) id p (ap (λ k. is_in p (k ∷ [])) (sym at_place) ∙ b)))
    (in_append p v.theirs (length v.seen.log ∷ []) e) in
    let apart_now : AreApart v.mine (v.theirs ++ length v.seen.log ∷ []) = λ p a e.
    ⊎_elim (λ (b : is_in p v.theirs ≡ true). mine.apart p a b)
    (λ (b : is_in p (length v.seen.log ∷ []) ≡ true). let q : p ≡ position = in_one p (length v.seen.log) b
    ∙ at_place in let less = (mine.mine p a).0 in omega arith)
    (in_append p v.theirs (length v.seen.log ∷ []) e) in (
      w,
      keeps,
      tt,
      record {
        keeper_at = h.keeper_at;
        begun = h.begun;
        h = now;
        owner = owner;
        word = more_word s.words _ 1 h.word ∙ ap (λ n. n ∷ []) (let l = longer in omega arith);
        empty = λ e. absurd (true≢false (sym m.0 ∙ e));
        fits = fits_set h.keeper_at h.begun now owner s.views id w
            (record {
              keeps = λ k. (
                (mine.keeps k).0,
                (mine.keeps k).1,
                λ _. ap (λ (y : History). history y.booted (y.log ++ x ∷ [])) here,
              );
              knows = λ _. (
                m.0,
                subst (λ (y : History). Continues now (history y.booted (y.log ++ x ∷ [])))
                    (sym here) (goes_on_self now),
                (m.2.0, starts_more log (x ∷ []) v.told.log m.2.1),
              );
              mine = mine_of;
              theirs = theirs_of;
              apart = apart_now;
            })
            (λ j u apart e. let o = h.fits j u e in
            record {
              keeps = λ k. absurd (apart ((o.keeps k).0 ∙ sym (mine.keeps is).0));
              knows = λ k. let t = o.knows k in (
                t.0,
                (t.1.0, starts_more log (x ∷ []) u.seen.log t.1.1),
                (t.2.0, starts_more log (x ∷ []) u.told.log t.2.1),
              );
              mine = λ p a. let t = o.mine p a in (let less = t.0 in omega arith, old p t.0 ∙ t.1);
              theirs = λ p a. let t = o.theirs p a in (let less = t.0 in omega arith, old p t.0 ∙ t.1);
              apart = o.apart;
            });
      },
      (refl, (refl, subst (λ (y : History). Continues y v.told) (sym here) m.2)),
    )

-- the first pass begins a history before it knows one
pub starts : (slots id : ℕ) (boot : Booted) → Allows IsCounted slots id (fresh, []) 0 (λ n. n)
    (λ n w. (w.1 ≡ []) × (w.0 ≡ keeper (history boot [])))
starts slots id boot s h _ at _ =
    let mine = h.fits id fresh at in
    let me = mine.keeps refl in
    let not_begun : h.begun ≡ false = sym me.1 in
    let empty : length h.h.log ≡ 0 = ap length (h.empty not_begun) in
    let k : History = history boot [] in
    let w : Knowing = keeper k in (
      w,
      keeps,
      tt,
      record {
        keeper_at = h.keeper_at;
        begun = true;
        h = k;
        owner = h.owner;
        word = same_word s.words _ h.word ∙ ap (λ m. (m % 2 ^ 64) ∷ []) empty;
        empty = λ _. refl;
        fits = fits_set h.keeper_at true k h.owner s.views id w
            (record {
              keeps = λ _. (me.0, refl, λ _. refl);
              knows = λ _. (refl, goes_on_self k, goes_on_self k);
              mine =
                  none_of h.owner id k.log;
              theirs = none_of h.owner id k.log;
              apart = λ p a b. off a;
            })
            (λ j u apart e. let o = h.fits j u e in
            record {
              keeps = λ t. absurd (apart ((o.keeps t).0 ∙ sym me.0));
              knows = λ t. absurd (true≢false (sym (o.knows t).0 ∙ not_begun));
              mine = λ p a. let less = (o.mine p a).0 in absurd (omega arith);
              theirs = λ p a. let less = (o.theirs p a).0 in absurd (omega arith);
              apart = o.apart;
            });
      },
      (refl, refl),
    )

-- ---- views that were given in another way ----

pub own_caller : (m : Me ℕ Knowing) (h : History) (positions : List ℕ) → m ≡ (caller h positions, [])
    → m ≡ (caller m.0.seen m.0.mine, [])
own_caller m h positions e = e ∙ ap (λ (x : Me ℕ Knowing). (caller x.0.seen x.0.mine, [])) (sym e)

pub started_none : (m : Me ℕ Knowing) (boot : Booted) → m ≡ (keeper (history boot []), [])
    → m ≡ (keeper (history boot (steps_of [])), [])
unfolding steps_of
started_none m boot e = e

pub started_more : (m n : Me ℕ Knowing) (boot : Booted) (es : List Entry) (i : ℕ) (d : Entry)
    → m ≡ (keeper (history boot (steps_of (take i es))), [])
    → n ≡ (keeper (history m.0.seen.booted (m.0.seen.log ++ steps_of (get_or es i d ∷ []))), [])
    → i < length es → n ≡ (keeper (history boot (steps_of (take (i + 1) es))), [])
started_more m n boot es i d e f l =
    f
    ∙ ap (λ (x : Me ℕ Knowing).
    (keeper (history x.0.seen.booted (x.0.seen.log ++ steps_of (get_or es i d ∷ []))), [])) e
    ∙ ap (λ xs. (keeper (history boot xs), [])) (sym (steps_of-more es i d l))
