-- Prefixes of lists of items.
use Rattle.std.proofs.Common.{◌≡◌, List, [], ◌∷◌, ◌++◌, length, sym, ap, ◌∙◌, refl, append_assoc}
use Rattle.std.proofs.lemmas.List.{append-nil}
use Rattle.unit_queue.specs.declared.item.Item.{Item}
use Rattle.unit_queue.specs.Lanes.{IsBeginning}

pub begins_itself : (all : List Item) → IsBeginning all all
begins_itself all = ([], sym (append-nil all))

pub begins_none : (all : List Item) → IsBeginning [] all
begins_none all = (all, refl)

pub begins_grown : (first all more : List Item) → IsBeginning first all → IsBeginning first (all ++ more)
begins_grown first all more h = (h.0 ++ more, ap (λ l. l ++ more) h.1 ∙ append_assoc first h.0 more)

pub none_left : (rest : List Item) → length rest ≡ 0 → rest ≡ []
none_left [] none = refl
none_left (x ∷ xs) none = absurd (cc)

pub nothing_more : (first rest all : List Item) → all ≡ first ++ rest → rest ≡ [] → all ≡ first
nothing_more first rest all is none = is ∙ ap (λ l. first ++ l) none ∙ append-nil first
