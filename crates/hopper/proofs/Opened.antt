-- A name for each list of definitions that a proof opens at once.
use Rattle.hopper.specs.Queue.{stands_at, is_taken, holds_back}

-- whether a place holds a reference
unfoldable pub places_taken : Unit {0}
unfolding is_taken stands_at
places_taken = tt

-- the tests of a waiting reference when it is accepted
unfoldable pub one_that_waits : Unit {0}
unfolding stands_at holds_back
one_that_waits = tt
