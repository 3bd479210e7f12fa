-- How the code decides which kind of request an exchange was made for. Source: ours.
use Rattle.std.specs.Prelude.{◌≤◌, ℕ, Bool, true, false, ◌&&◌, nat_eq, nat_le, if◌then◌else◌, List, [], ◌∷◌}
use Rattle.sequential_run.specs.Fulfilled.{is_next_ask}

-- the exchange is that of this request and was made after `now` instructions
abbrev pub is_made : ℕ → ℕ × ℕ → ℕ × ℕ → Bool
is_made now ask made = nat_eq made.0 ask.0 && nat_eq made.1 now

-- the exchanges begin with those of all counted requests that are due after `now` instructions, each made then
unfoldable pub starts_with_due : ℕ → List (ℕ × ℕ) → List (ℕ × ℕ) → Bool
starts_with_due now [] exchanges = true
starts_with_due now (ask ∷ asks) [] = if nat_le ask.1 now then false else true
starts_with_due now (ask ∷ asks) (made ∷ more) =
    if nat_le ask.1 now then is_made now ask made && starts_with_due now asks more else true

-- the first of these exchanges was made for the next counted request
abbrev pub is_of_ask : ℕ → List (ℕ × ℕ) → List (ℕ × ℕ) → Bool
is_of_ask last asks [] = false
is_of_ask last asks (made ∷ more) =
    is_next_ask last made asks && starts_with_due made.1 asks (made ∷ more)

-- no exchange was made after more than `total` instructions
abbrev pub AreWithin : ℕ → List (ℕ × ℕ) → Type 0
AreWithin total [] = Unit {0}
AreWithin total (made ∷ more) = (made.1 ≤ total) × AreWithin total more
