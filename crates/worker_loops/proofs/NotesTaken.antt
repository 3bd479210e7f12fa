-- One more item was taken.
use Rattle.std.proofs.Common.{◌≡◌, ℕ, suc, ◌+◌, List, [], ◌∷◌, ◌++◌, ap, ◌∙◌, arith, append_assoc}
use Rattle.unit_queue.specs.declared.item.Item.{Item}
use Rattle.unit_queue.specs.declared.item.Item.TheVariants.{Work}
use Rattle.program_order.specs.declared.event.Note.{Note}
use Rattle.machine.specs.Tokens.{Seating}
use Rattle.worker_loops.specs.Tallies.{note_count, notes_in}

pub notes_in-push : (xs : List Item) (x : Item) → notes_in (xs ++ x ∷ []) ≡ notes_in xs + note_count x
notes_in-push [] x = omega arith
notes_in-push (y ∷ ys) x = omega (arith, notes_in-push ys x)

pub more : (before at now taken : List Item) (x : Item) → at ≡ before ++ taken → now ≡ at ++ x ∷ [] → now ≡ before
    ++ (taken ++ x ∷ [])
more before at now taken x e f = f ∙ ap (λ l. l ++ x ∷ []) e ∙ append_assoc before taken (x ∷ [])

-- the items taken since the worker began; each note was stored or strange
abbrev pub Counted : List Item → List Item → ℕ → ℕ → Type 0
Counted first at stored strange = (taken : List Item) × (at ≡ first ++ taken) × (stored + strange ≡ notes_in taken)

-- the effect of serving a note on a seat
pub stored : (s t : Seating) (number : ℕ) → t ≡ record s { stored = suc s.stored; last = number }
    → (t.unit ≡ s.unit) × (t.stored ≡ s.stored + 1)
stored s t number e = (ap (λ (u : Seating). u.unit) e, ap (λ (u : Seating). u.stored) e ∙ omega arith)

-- one more note was taken, and was stored or strange
pub note_counted : (first at now : List Item) (note : Note) (stored strange stored' strange' : ℕ)
    → Counted first at stored strange → now ≡ at ++ Work note ∷ []
    → stored' + strange' ≡ stored + strange + 1 → Counted first now stored' strange'
note_counted first at now note stored strange stored' strange' n got one =
    let longer = notes_in-push n.0 (Work note) in
    let sum = n.2 in (
      n.0 ++ Work note ∷ [],
      more first at now n.0 (Work note) n.1 got,
      (omega (arith, longer, sum, one)),
    )
