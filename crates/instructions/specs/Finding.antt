-- Finding one item of a list, such as a pending instruction in issue order, and replacing it.
-- Source: ours.
use Rattle.std.specs.Prelude.{List, [], ◌∷◌, ◌++◌, Option, Some, None}

-- an item found in a list, with its answer
pub record Found (M K : Type 0) : Type 0 where
  -- the items before it
  pub earlier : List M
  -- the item itself
  pub item : M
  -- the answer for which it was found
  pub answer : K
  -- the items after it
  pub later : List M

-- what was found after m, with m added to the earlier items
unfoldable pub found_further : {M K : Type 0} → M → Option (Found M K) → Option (Found M K)
found_further m None = None
found_further m (Some f) = Some (record f { earlier = m ∷ f.earlier })

-- this item if it has an answer, otherwise what was found after it
unfoldable pub found_here : {M K : Type 0} → Option K → M → List M → Option (Found M K) → Option (Found M K)
found_here (Some x) m ms rest = Some (record { earlier = []; item = m; answer = x; later = ms })
found_here None m ms rest = found_further m rest

-- the first item of a list that has an answer, if there is one
unfoldable pub seek : {M K : Type 0} → (M → Option K) → List M → Option (Found M K)
seek f [] = None
seek f (m ∷ ms) = found_here (f m) m ms (seek f ms)

-- the list with other items instead of the one found
unfoldable pub put_back : {M K : Type 0} → Found M K → List M → List M
put_back f ms = f.earlier ++ (ms ++ f.later)

-- the list with the item found replaced by what g makes of it, or the same list if none was found
unfoldable pub replaced : {M K : Type 0} → Option (Found M K) → List M → (M → List M) → List M
replaced None ms g = ms
replaced (Some f) ms g = put_back f (g f.item)
