-- The order in which a run makes its counted requests for exchanges, and the request that is due. A counted request is
-- the absolute address of a package and the number of instructions after which the request is made. Source: ours.
use Rattle.std.specs.Prelude.{◌≡◌, ℕ, Bool, ◌≤◌, ◌<◌, List, ◌∷◌, ◌++◌, Option, Some, None, All, option_to_list}
use Rattle.std.specs.Ordering.{nat_cmp}
use Rattle.std.specs.List.Sorted.{IsNonDecreasingBy, IsStableByKey}

-- the requests still to be made, in the order in which they are made; the number of instructions issued; and whether a
-- request waits for its exchange
pub record ToMake : Type 0 where
  pub asks : List (ℕ × ℕ)
  pub issued : ℕ
  pub is_waiting : Bool

-- requests after fewer instructions come first
abbrev pub IsInOrder : List (ℕ × ℕ) → Type 0
IsInOrder asks = IsNonDecreasingBy (λ ask. ask.1) asks

-- the same requests; requests after equally many instructions keep their order
abbrev pub KeepsTies : List (ℕ × ℕ) → List (ℕ × ℕ) → Type 0
KeepsTies before after = IsStableByKey (λ ask. ask.1) nat_cmp before after

-- the request that is due after this many issued instructions: it is after no more than that, and no request is after
-- fewer; None if every request is after more
abbrev pub IsDue : List (ℕ × ℕ) → ℕ → Option (ℕ × ℕ) → Type 0
IsDue asks issued None = All (λ ask. issued < ask.1) asks
IsDue asks issued (Some due) = (due.1 ≤ issued) × All (λ ask. due.1 ≤ ask.1) asks

-- the list begins with this request, if there is one
abbrev pub StartsWithAny : List (ℕ × ℕ) → Option (ℕ × ℕ) → Type 0
StartsWithAny asks first = (rest : List (ℕ × ℕ)) × (asks ≡ option_to_list first ++ rest)

-- the counted requests of a run in the order in which they are made: the request for the first package, then the others
-- by their numbers; requests with equal numbers stay in the order in which they were given
pub record AreOrdered (start : ℕ) (after asks : List (ℕ × ℕ)) : Type 0 where
  pub in_order : IsInOrder asks
  pub same : KeepsTies ((start, 0) ∷ after) asks
