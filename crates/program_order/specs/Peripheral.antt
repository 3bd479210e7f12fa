-- Peripheral access: the refusals and the effect of a peripheral processor's read or write of a word. Source: 60100000,
-- peripheral processors and central memory. That an access waits for references, and the order of the refusals, are
-- ours.
use Rattle.std.specs.Prelude.{ℕ, suc, not, nat_le, nat_lt, List, [], ◌∷◌, ◌++◌, slice_index_or}
use Rattle.std.specs.List.{list_any}
use Rattle.instructions.specs.declared.refusal.Refusal.TheVariants.{Budget, PeripheralWait, PeripheralRange}
use Rattle.sequential.specs.Replay.{ReadAt, Wrote}
use Rattle.sequential.specs.State.{store_word}
use Rattle.in_flight.specs.declared.pending.Pending.{Pending}
use Rattle.in_flight.specs.Pending.{delays_access}
use Rattle.in_flight.specs.Tests.{Test}
use Rattle.program_order.specs.Processor.{Processor}

-- E3, budget: 1,000,000 accesses were accepted; E26, peripheral waits: a reference has not reached its store event, or
-- a reference to the word waits in the hopper; E27, peripheral range: the word does not lie in memory
unfoldable pub access_tests : ℕ → List Pending → ℕ → ℕ → List Test
access_tests accessed pending size a =
    record { fails = nat_le 1000000 accessed; refusal = Budget }
    ∷ record { fails = list_any (delays_access a) pending; refusal = PeripheralWait }
    ∷ record { fails = not (nat_lt a size); refusal = PeripheralRange }
    ∷ []

-- the word at an absolute address, as it is in memory
unfoldable pub word_read : Processor → ℕ → ℕ
word_read w a = slice_index_or w.state.memory a 0

-- the log gains the read
unfoldable pub after_pp_read : Processor → ℕ → Processor
after_pp_read w a = record w { log = w.log ++ ReadAt a ∷ []; accessed = suc w.accessed }

-- memory has the word, and the log gains the write; a held word is unchanged
unfoldable pub after_pp_write : Processor → ℕ → ℕ → Processor
after_pp_write w a v =
    record w { state = store_word w.state a v; log = w.log ++ Wrote a v ∷ []; accessed = suc w.accessed }
