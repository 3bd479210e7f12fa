-- Logs that fulfil the requests for exchanges of a run: every request has its exchange, in its turn and in time, and
-- there is no exchange without a request. A counted request is the absolute address of its package and the number of
-- instructions after which it is made. A free request, which may be made at any time, is the address alone.
-- Source: ours.
use Rattle.std.specs.Prelude.{◌≡◌, ℕ, suc, ◌+◌, Bool, true, false, ◌&&◌, ◌||◌, nat_eq, nat_lt, nat_le}
use Rattle.std.specs.Prelude.{List, [], ◌∷◌, drop}
use Rattle.sequential_run.specs.Requests.{AreOrdered}
use Rattle.sequential.specs.Log.{issued}
use Rattle.sequential.specs.Replay.{LogStep, Issued, Exchanged, ReadAt, Wrote}

-- the exchanges among these steps, each as the absolute address of its package and the number of instructions before
-- it; n instructions came before these steps
unfoldable pub exchanges_after : ℕ → List LogStep → List (ℕ × ℕ)
exchanges_after n [] = []
exchanges_after n (Issued ∷ steps) = exchanges_after (suc n) steps
exchanges_after n (Exchanged at ∷ steps) = (at, n) ∷ exchanges_after n steps
exchanges_after n (ReadAt a ∷ steps) = exchanges_after n steps
exchanges_after n (Wrote a w ∷ steps) = exchanges_after n steps

-- The next counted request isn't late after `now` instructions, when another request has its exchange or waits. The
-- last exchange was made after `last` instructions, and the counted request wasn't due then. At most three instructions
-- were issued since it came due. The word in which it came due has no more, but this definition doesn't look at words.
unfoldable pub is_in_time : ℕ → ℕ → List (ℕ × ℕ) → Bool
is_in_time last now [] = true
is_in_time last now (ask ∷ asks) = nat_lt last ask.1 && nat_le now (ask.1 + 3)

-- the exchange is that of the next counted request: it comes with the last exchange if the request was due then, and
-- otherwise in time
unfoldable pub is_next_ask : ℕ → ℕ × ℕ → List (ℕ × ℕ) → Bool
is_next_ask last made [] = false
is_next_ask last made (ask ∷ asks) =
    nat_eq made.0 ask.0 && (nat_le ask.1 made.1 && (nat_eq made.1 last || is_in_time last made.1 (ask ∷ asks)))

-- the exchange is that of the next free request, and it makes no counted request late
unfoldable pub is_next_free : ℕ → ℕ × ℕ → List (ℕ × ℕ) → List ℕ → Bool
is_next_free last made asks [] = false
is_next_free last made asks (at ∷ free) = nat_eq made.0 at && is_in_time last made.1 asks

-- no free request is left after `total` instructions, and no counted request that is due
unfoldable pub are_done : ℕ → List (ℕ × ℕ) → List ℕ → Bool
are_done total asks (at ∷ free) = false
are_done total [] [] = true
are_done total (ask ∷ asks) [] = nat_lt total ask.1

-- If the last exchange was made after `last` instructions, the exchanges that follow and an end after `total`
-- instructions fulfil these counted and free requests. Each exchange is that of the next counted request or of the next
-- free request. No request is left at the end, unless the machine runs in the middle of a word: there a request may
-- wait, and others with it.
unfoldable pub fulfils : Bool → ℕ → ℕ → List (ℕ × ℕ) → List ℕ → List (ℕ × ℕ) → Bool
fulfils in_mid_word total last asks free [] =
    are_done total asks free || (in_mid_word && is_in_time last total asks)
fulfils in_mid_word total last asks free (made ∷ more) =
    (is_next_ask last made asks && fulfils in_mid_word total made.1 (drop 1 asks) free more)
    || (is_next_free last made asks free && fulfils in_mid_word total made.1 asks (drop 1 free) more)

-- a log from its beginning fulfils the request for the first package, the counted requests and the free requests; its
-- end may be in the middle of a word
pub record IsFulfilled (start : ℕ) (after : List (ℕ × ℕ)) (free : List ℕ) (in_mid_word : Bool) (log : List LogStep)
    : Type 0 where
  pub asks : List (ℕ × ℕ)
  pub ordered : AreOrdered start after asks
  pub fulfilled : fulfils in_mid_word (issued log) 0 asks free (exchanges_after 0 log) ≡ true
