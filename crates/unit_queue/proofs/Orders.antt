-- No item comes after `Closed`: how calls keep this.
use Rattle.std.proofs.Common.{◌≡◌, Bool, true, false, true≢false, ◌||◌, List, [], ◌∷◌, ◌++◌, refl, sym, ap, ◌∙◌}
use Rattle.unit_queue.specs.declared.item.Item.{Item}
use Rattle.unit_queue.specs.declared.item.Item.TheVariants.{Work, Closed}
use Rattle.unit_queue.specs.Lanes.{is_closing, is_closed, IsOrderly}

or_false : (a b : Bool) → (a || b) ≡ false → (a ≡ false) × (b ≡ false)
or_false true b e = absurd (true≢false e)
or_false false b e = (refl, e)

-- an open list may be extended by one item
pub order_push : (xs : List Item) (x : Item) → is_closed xs ≡ false → IsOrderly (xs ++ x ∷ [])
order_push [] x e = ((λ _. refl), tt)
order_push (y ∷ ys) x e = let p = or_false _ _ e in ((λ t. absurd (true≢false (sym t ∙ p.0))), order_push ys x p.1)

pub order_front : (xs ys : List Item) → IsOrderly (xs ++ ys) → IsOrderly xs
order_front [] ys h = tt
order_front (x ∷ xs) ys h = ((λ t. none xs ys (h.0 t)), order_front xs ys h.1)
  where
    none : (cs bs : List Item) → cs ++ bs ≡ [] → cs ≡ []
    none [] bs e = refl
    none (a ∷ cs) bs e = absurd (cc)

-- after a closed list there are no items
pub after_closed : (xs ys : List Item) → IsOrderly (xs ++ ys) → is_closed xs ≡ true → ys ≡ []
after_closed [] ys h c = absurd (true≢false (sym c))
after_closed (Work n ∷ xs) ys h c = after_closed xs ys h.1 c
after_closed (Closed ∷ xs) ys h c = none xs ys (h.0 refl)
  where
    none : (cs bs : List Item) → cs ++ bs ≡ [] → bs ≡ []
    none [] bs e = e
    none (a ∷ cs) bs e = absurd (cc)

pub is_closed-push : (xs : List Item) (x : Item) → is_closed (xs ++ x ∷ []) ≡ (is_closed xs || is_closing x)
is_closed-push [] (Work n) = refl
is_closed-push [] Closed = refl
is_closed-push (Work n ∷ xs) x = is_closed-push xs x
is_closed-push (Closed ∷ xs) x = refl

-- a list with an item after it is open
pub open_before : (xs : List Item) (x : Item) (ys : List Item) → IsOrderly (xs ++ x ∷ ys) → is_closed xs ≡ false
open_before xs x ys h = decided (is_closed xs) refl
  where
    decided : (b : Bool) → is_closed xs ≡ b → is_closed xs ≡ false
    decided false e = e
    decided true e = let n = after_closed xs (x ∷ ys) h e in absurd (cc)

-- whether the next item closes an open list
pub is_closed-next : (xs ys : List Item) (x : Item) → is_closed xs ≡ false → ys ≡ xs ++ x ∷ []
    → is_closed ys ≡ is_closing x
is_closed-next xs ys x still is = ap is_closed is ∙ is_closed-push xs x ∙ ap (λ b. b || is_closing x) still
