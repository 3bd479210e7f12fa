-- Each move keeps the rule of a lane.
use Rattle.std.proofs.Common.{◌≡◌, ◌≢◌, ◌<◌, ℕ, zero, suc, true, false, true≢false, List, [], ◌∷◌, ◌++◌, length, set, sym}
use Rattle.std.proofs.Common.{refl, ap, ◌∙◌, subst, ⊎_elim, append_assoc, ◌||◌}
use mathlib.Core.Option.{some, some-ne-none}
use lib.ListN.{get_elem?}
use Rattle.std.specs.Prelude.{Option, Some, None, Result, Ok, Err, is_ok, IfSome, MatchOption, MatchResult}
use Rattle.crossbeam_queue.specs.Fifo.{Pushes, Pops, Forks, Merges, Learns, Held}
use Rattle.crossbeam_queue.proofs.Lists.{at_set, at_snoc}
use Rattle.unit_queue.specs.declared.item.Item.{Item}
use Rattle.unit_queue.specs.declared.item.Item.TheVariants.{Closed}
use Rattle.unit_queue.specs.declared.rule.LaneView.{LaneView}
use Rattle.unit_queue.specs.Lanes.{is_closed, is_closing, IsOrderly, IsBeginning, Waited}
use Rattle.unit_queue.specs.Rules.{view_of, sender, taker, Fits, IsKept, IsSent, IsTaken}
use Rattle.unit_queue.proofs.Beginnings.{begins_itself, begins_none, begins_grown, nothing_more, none_left}
use Rattle.unit_queue.proofs.Orders.{order_push, order_front, after_closed, open_before, is_closed-push, is_closed-next}

at_end : (l : List LaneView) (a b : LaneView) (j : ℕ) → get_elem? l j ≢ some b → get_elem? (l ++ a ∷ []) j ≡ some b
    → j ≡ length l
at_end [] a b zero n e = refl
at_end [] a b (suc j) n e = absurd (some-ne-none b (sym e))
at_end (x ∷ xs) a b zero n e = absurd (n e)
at_end (x ∷ xs) a b (suc j) n e = ap suc (at_end xs a b j n e)

abbrev All : (ℕ → LaneView → Type 0) → List LaneView → Type 0
All F views = (port : ℕ) (v : LaneView) → get_elem? views port ≡ some v → F port v

all_set : (F : ℕ → LaneView → Type 0) (views : List LaneView) (port : ℕ) (w : LaneView) → F port w
    → ((j : ℕ) (u : LaneView) → j ≢ port → get_elem? views j ≡ some u → F j u) → All F (set views port w)
all_set F views port w mine others j u e =
    ⊎_elim (λ (x : (j ≡ port) × (w ≡ u)). subst (λ (y : ℕ × LaneView). F y.0 y.1) (λ i. (sym x.0 i, x.1 i)) mine)
    (λ (x : (j ≢ port) × (get_elem? views j ≡ some u)). others j u x.0 x.1) (at_set views port j w u e)

off : false ≡ true → ⊥
off e = true≢false (sym e)

pub begins : IsKept [] (view_of true true [] [] ∷ [])
begins = (
  0,
  0,
  [],
  [],
  refl,
  tt,
  all_set (Fits 0 0 [] []) (view_of true true [] [] ∷ []) 0 (view_of true true [] [])
      ((λ _. (refl, refl)), (λ _. (refl, refl)), begins_none [], begins_none [])
      (λ j u other e. absurd (other (at_end [] _ u j (λ x. some-ne-none u (sym x)) e))),
)

pub sends : (n port : ℕ) (v : LaneView) (x : Item) → n ≡ 2 → v.sends ≡ true → is_closed v.sent ≡ false
    → Pushes IsKept n port v x (λ w. IsSent v x w)
sends n port v x two may still items views room h at =
    let w : LaneView = view_of v.sends v.takes (v.sent ++ x ∷ []) h.3 in
    let mine = h.6 port v at in
    let sent = h.2 ++ x ∷ [] in
    let here : v.sent ≡ h.2 = (mine.0 may).1 in
    let longer : v.sent ++ x ∷ [] ≡ sent = ap (λ l. l ++ x ∷ []) here in (
      w,
      (
        h.0,
        h.1,
        sent,
        h.3,
        ap (λ l. l ++ x ∷ []) h.4 ∙ append_assoc h.3 items (x ∷ []),
        order_push h.2 x (ap is_closed (sym here) ∙ still),
        all_set (Fits h.0 h.1 sent h.3) views port w (
          (λ _. ((mine.0 may).0, longer)),
          (λ p. ((mine.1 p).0, refl)),
          subst (IsBeginning (v.sent ++ x ∷ [])) longer (begins_itself (v.sent ++ x ∷ [])),
          begins_itself h.3,
        )
            (λ j u other e. let o = h.6 j u e in (
              (λ p. absurd (other ((o.0 p).0 ∙ sym (mine.0 may).0))),
              o.1,
              begins_grown u.sent h.2 (x ∷ []) o.2,
              o.3,
            )),
      ),
      (h.3, refl, items, subst (λ k. length items < k) two room, here ∙ h.4, mine.3),
    )

pub fills : (port : ℕ) (v : LaneView) → v.sends ≡ true → Learns IsKept port v (λ items. Waited v.got v.sent items)
fills port v may items views h at = let mine = h.6 port v at in (h.3, (mine.0 may).1 ∙ h.4, mine.3)

pub takes : (port : ℕ) (v : LaneView) → v.takes ≡ true → Pops IsKept port v (λ x w. IsTaken v x w)
takes port v may x items views h at =
    let w : LaneView = view_of v.sends v.takes h.2 (v.got ++ x ∷ []) in
    let mine = h.6 port v at in
    let got = h.3 ++ x ∷ [] in
    let here : v.got ≡ h.3 = (mine.1 may).1 in
    let longer : v.got ++ x ∷ [] ≡ got = ap (λ l. l ++ x ∷ []) here in
    let now : h.2 ≡ got ++ items = h.4 ∙ sym (append_assoc h.3 (x ∷ []) items) in (
      w,
      (
        h.0,
        h.1,
        h.2,
        got,
        now,
        h.5,
        all_set (Fits h.0 h.1 h.2 got) views port w (
          (λ p. ((mine.0 p).0, refl)),
          (λ _. ((mine.1 may).0, longer)),
          begins_itself h.2,
          subst (IsBeginning (v.got ++ x ∷ [])) longer (begins_itself (v.got ++ x ∷ [])),
        )
            (λ j u other e. let o = h.6 j u e in (
              o.0,
              (λ p. absurd (other ((o.1 p).0 ∙ sym (mine.1 may).0))),
              o.2,
              begins_grown u.got h.3 (x ∷ []) o.3,
            )),
      ),
      (
        h.2,
        refl,
        (items, now ∙ ap (λ l. l ++ items) (sym longer)),
        mine.2,
        h.5,
        ap is_closed here ∙ open_before h.3 x items (subst IsOrderly h.4 h.5),
      ),
    )

pub empties : (port : ℕ) (v : LaneView) → v.takes ≡ true → Learns IsKept port v (λ items. IsBeginning v.sent (v.got ++ items))
empties port v may items views h at =
    let mine = h.6 port v at in
    subst (IsBeginning v.sent) (h.4 ∙ ap (λ l. l ++ items) (sym (mine.1 may).1)) mine.2

pub forks : (port : ℕ) (v : LaneView) → v.sends ≡ true → v.takes ≡ true
    → Forks IsKept port v (sender v.sent v.got) (taker v.got v.sent)
forks port v a b items views h at =
    let l : LaneView = sender v.sent v.got in
    let r : LaneView = taker v.got v.sent in
    let mine = h.6 port v at in
    let vs : List LaneView = set views port l in
    let Old : ℕ → LaneView → Type 0 =
    λ j u. (u.sends ≡ true → (j ≡ h.0) × (u.sent ≡ h.2)) × (u.takes ≢ true) × IsBeginning u.sent h.2
    × IsBeginning u.got h.3 in
    let old : All Old vs = all_set Old views port l ((λ _. mine.0 a), (λ p. off p), mine.2, mine.3)
    (λ j u other e. let o = h.6 j u e in (o.0, (λ p. other ((o.1 p).0 ∙ sym (mine.1 b).0)), o.2, o.3)) in (
      h.0,
      length vs,
      h.2,
      h.3,
      h.4,
      h.5,
      λ j u e. ⊎_elim (λ x. let o = old j u x in (o.0, (λ p. absurd (o.1 p)), o.2, o.3))
          (λ (is : r ≡ u). (
            (λ p. absurd (off (ap (λ (y : LaneView). y.sends) is ∙ p))),
            (λ p. (
              at_end vs r u j (λ x. (old j u x).1 p) e,
              ap (λ (y : LaneView). y.got) (sym is)
                  ∙ (mine.1 b).1,
            )),
            subst (λ (y : LaneView). IsBeginning y.sent h.2) is mine.2,
            subst (λ (y : LaneView). IsBeginning y.got h.3) is mine.3,
          )) (at_snoc vs r u j e),
    )

-- the taker merges with the sender
pub merges : (port : ℕ) (v : LaneView) (other : ℕ) (u : LaneView) → v.takes ≡ true → u.sends ≡ true
    → Merges IsKept port v other u (view_of true true u.sent v.got) (view_of false false [] [])
merges port v other u a b items views h at two at' =
    let both : LaneView = view_of true true u.sent v.got in
    let mine = h.6 port v at in
    let vs : List LaneView = set views port both in
    let was : get_elem? views other ≡ some u =
    ⊎_elim (λ x. absurd (two x.0)) (λ x. x.1) (at_set views port other both u at') in
    let theirs = (h.6 other u was).0 b in
    let Now : ℕ → LaneView → Type 0 = λ j y. j ≢ other → Fits port h.1 h.2 h.3 j y in
    let now : All Now vs =
    all_set Now views port both (λ _. ((λ _. (refl, theirs.1)), (λ _. mine.1 a), (h.6 other u was).2, mine.3))
    (λ j y _ e apart. let o = h.6 j y e in ((λ p. absurd (apart ((o.0 p).0 ∙ sym theirs.0))), o.1, o.2, o.3)) in (
      port,
      h.1,
      h.2,
      h.3,
      h.4,
      h.5,
      all_set (Fits port h.1 h.2 h.3) vs other (view_of false false [] [])
          ((λ p. absurd (off p)), (λ p. absurd (off p)), begins_none h.2, begins_none h.3)
          (λ j y apart e. now j y e apart),
    )

-- after `Closed` was taken, no item waits
pub ends : (port : ℕ) (v : LaneView) → v.takes ≡ true → is_closed v.got ≡ true → Pops IsKept port v (λ x w. ⊥)
ends port v may closed x items views h at =
    let here : v.got ≡ h.3 = ((h.6 port v at).1 may).1 in
    let none : x ∷ items ≡ [] =
    after_closed h.3 (x ∷ items) (subst IsOrderly h.4 h.5) (ap is_closed (sym here) ∙ closed) in absurd (cc)

pub totals : (port : ℕ) (v : LaneView) → v.sends ≡ true → v.takes ≡ true
    → Learns IsKept port v (λ items. v.sent ≡ v.got ++ items)
totals port v a b items views h at =
    let mine = h.6 port v at in (mine.0 a).1 ∙ h.4 ∙ ap (λ l. l ++ items) (sym (mine.1 b).1)

-- the sender's view after a push
pub pushed : (v w : LaneView) (x : Item) → is_closed v.sent ≡ false → IsSent v x w
    → (w.sends ≡ v.sends) × (is_closed w.sent ≡ is_closing x) × IsOrderly w.sent
pushed v w x still h =
    let is = h.1 in (
      ap (λ (u : LaneView). u.sends) is,
      ap (λ (u : LaneView). is_closed u.sent) is ∙ is_closed-push v.sent x ∙ ap (λ b. b || is_closing x) still,
      subst IsOrderly (sym (ap (λ (u : LaneView). u.sent) is)) (order_push v.sent x still),
    )

-- the sender's view after `Closed` was pushed, or found no room
pub closing : (v w : LaneView) (fact : Type 0) (r : Result (Unit {0}) Item) → is_closed v.sent ≡ false
    → IsOrderly v.sent → MatchResult r (λ _. IsSent v Closed w) (λ x. (x ≡ Closed) × (w ≡ v) × fact)
    → (w.sends ≡ v.sends) × (is_ok r ≡ is_closed w.sent) × IsOrderly w.sent
closing v w fact (Ok _) still order h = let p = pushed v w Closed still h in (p.0, sym p.1, p.2)
closing v w fact (Err x) still order h = (
  ap (λ (u : LaneView). u.sends) h.1,
  sym (ap (λ (u : LaneView). is_closed u.sent) h.1 ∙ still),
  subst (λ (u : LaneView). IsOrderly u.sent) (sym h.1) order,
)

-- the items taken are closed if the last one is `Closed`
pub took : (v w : LaneView) (nothing : Type 0) (found : Option Item) → MatchOption found nothing (λ x. IsTaken v x w)
    → IfSome found (λ x. is_closed w.got ≡ is_closing x)
took v w nothing None h = tt
took v w nothing (Some x) h = is_closed-next v.got w.got x h.5 (ap (λ (u : LaneView). u.got) h.1)

-- the items taken are in order
pub took_in_order : (v w : LaneView) (fact : Type 0) (found : Option Item) → IsOrderly v.sent → IsBeginning v.got v.sent
    → MatchOption found ((w ≡ v) × fact) (λ x. IsTaken v x w) → IsOrderly w.got
took_in_order v w fact None order begun h =
    subst (λ (u : LaneView). IsOrderly u.got) (sym h.0) (order_front v.got begun.0 (subst IsOrderly begun.1 order))
took_in_order v w fact (Some x) order begun h =
    subst (λ (u : LaneView). IsOrderly u.got) (sym h.1)
    (order_front (v.got ++ x ∷ []) h.2.0 (subst IsOrderly h.2.1 h.4))

-- after `Closed` was taken, merging with the sender adds nothing to the taker's knowledge
pub settled : (v u both w : LaneView) (found : Option Item) → both ≡ view_of true true u.sent v.got
    → MatchOption found ((w ≡ both) × Held 0 (λ items. both.sent ≡ both.got ++ items)) (λ x. ⊥)
    → is_closed v.got ≡ true → IsOrderly v.sent → IsBeginning v.got v.sent → (w.got ≡ v.got) × (w.sent ≡ v.sent)
settled v u both w None is h closed order begun =
    let got : w.got ≡ v.got = ap (λ (y : LaneView). y.got) (h.0 ∙ is) in
    let all : both.sent ≡ both.got = nothing_more both.got h.1.0 both.sent h.1.2 (none_left h.1.0 h.1.1) in
    let known : v.sent ≡ v.got = nothing_more v.got begun.0 v.sent begun.1
    (after_closed v.got begun.0 (subst IsOrderly begun.1 order) closed) in (
      got,
      ap (λ (y : LaneView). y.sent) h.0 ∙ all ∙ ap (λ (y : LaneView). y.got) is ∙ sym known,
    )
settled v u both w (Some x) is h closed order begun = absurd h
