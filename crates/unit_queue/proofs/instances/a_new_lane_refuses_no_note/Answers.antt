use Rattle.std.proofs.Common.{◌≡◌, List, [], ◌∷◌, ◌++◌, length, true≢false, sym, ⊎_elim}
use Rattle.unit_queue.specs.declared.item.Item.{Item}
use Rattle.unit_queue.proofs.instances.a_new_lane_refuses_no_note.Goals as goal

-- two items that wait aren't among none
two_of_none : (got waiting : List Item) → length waiting ≡ 2 → [] ≡ got ++ waiting → ⊥
two_of_none [] [] two none = cc
two_of_none [] (x ∷ xs) two none = cc
two_of_none (y ∷ ys) waiting two none = cc

pub returns : goal.returns
returns c id = ⊎_elim (λ closed. true≢false (sym closed)) (λ full. two_of_none full.2.0 full.0 full.1 full.2.1)
