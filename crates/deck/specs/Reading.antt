-- The results of reading a deck.
-- Source: ours.
use Rattle.std.specs.Prelude.{◌≡◌, ℕ, ◌<◌, ◌≤◌, List, [], ◌∷◌, length, drop, Bool, true, false, Result, Ok, Err, ⊤, ◌⊎◌}
use Rattle.relocation.specs.Relocation.{is_memory_size}
use Rattle.deck.specs.Deck.{LineOutcome, Reading, Good, Bad, Ends, begun, goes_on, whole}
use Rattle.deck.specs.declared.deck.Deck.{Deck}
use Rattle.deck.specs.declared.deck.Draft.{Draft}
use Rattle.deck.specs.declared.deck.Flow.{Flow}
use Rattle.deck.specs.declared.deck.Flow.TheVariants as flows
use Rattle.instructions.specs.declared.refusal.DeckFault.{DeckFault}
use Rattle.instructions.specs.declared.refusal.DeckFault.TheVariants as faults
use Rattle.instructions.specs.declared.refusal.Refusal.{Refusal}
use Rattle.instructions.specs.declared.refusal.Refusal.TheVariants as refusals

-- the refusal if no deck is returned. Either it has the number and the fault of the reading's faulty line, and the
-- reading leaves the same bytes. Or memory ran out or a read failed, and then nothing is claimed of the reading. No
-- other refusal occurs
abbrev pub GivesNoDeck : Refusal → Reading → List ℕ → Type 0
GivesNoDeck refusal reading rest =
    ((n : ℕ) × (fault : DeckFault) × (refusal ≡ refusals.Deck n fault) × (reading ≡ Bad n fault rest))
    ⊎ (refusal ≡ refusals.OutOfMemory) ⊎ (refusal ≡ refusals.Read)

-- the result of reading a deck. An `Ok` has the deck and the number of its `end` line, and leaves the bytes after that
-- line
abbrev pub Gives : Result (Deck × ℕ) Refusal → Reading → List ℕ → Type 0
Gives (Ok found) reading rest = reading ≡ Good found.0 found.1 rest
Gives (Err refusal) reading rest = GivesNoDeck refusal reading rest

-- the same result without the number
abbrev pub GivesDeck : Result Deck Refusal → Reading → List ℕ → Type 0
GivesDeck (Ok deck) reading rest = (n : ℕ) × (reading ≡ Good deck n rest)
GivesDeck (Err refusal) reading rest = GivesNoDeck refusal reading rest

-- the bytes xs have no next line of at most 200 bytes, and the attempt to read one leaves ys. Either no line is left
-- (`no end`), or the line is too long (`long`)
abbrev pub HasNoLine : DeckFault → List ℕ → List ℕ → List (List ℕ × List ℕ) → Type 0
HasNoLine fault xs ys [] = (fault ≡ faults.NoEnd) × (ys ≡ xs)
HasNoLine fault xs ys (line ∷ more) = (fault ≡ faults.Long) × (200 < length line.0) × (ys ≡ drop 201 xs)

-- the next line, line n, is refused like this. Nothing is claimed of a failed read
abbrev pub Refuses : ℕ → Refusal → List ℕ → List ℕ → List (List ℕ × List ℕ) → Type 0
Refuses n refusal xs ys lines =
    ((fault : DeckFault) × (refusal ≡ refusals.Deck n fault) × HasNoLine fault xs ys lines)
    ⊎ (refusal ≡ refusals.Read)

-- the effect of a line on a deck, from `before` to `after`. At a fault the deck is unchanged
abbrev pub Answers : Result Flow DeckFault → Draft → Draft → LineOutcome → Type 0
Answers (Ok flows.Goes) before after outcome = outcome ≡ goes_on after
Answers (Ok (flows.Ends start)) before after outcome = (outcome ≡ Ok (Ends (whole before start))) × (after ≡ before)
Answers (Err fault) before after outcome = (outcome ≡ Err fault) × (after ≡ before)

-- the memory size in the first line, or the fault of that line
abbrev pub Begins : Result ℕ DeckFault → LineOutcome → Type 0
Begins (Ok n) outcome = (is_memory_size n ≡ true) × (outcome ≡ goes_on (begun n))
Begins (Err fault) outcome = outcome ≡ Err fault

-- at most this many bytes follow the deck, if the deck has an end
abbrev pub EndsWithin : ℕ → Reading → Type 0
EndsWithin k (Good deck n after) = length after ≤ k
EndsWithin k (Bad n fault rest) = ⊤

-- whether the result is a failed read (`E22`)
abbrev pub is_read_failure : {T : Type 0} → Result T Refusal → Bool
is_read_failure (Err refusals.Read) = true
is_read_failure other = false

-- whether neither the deck nor a fault in it was found
abbrev pub is_cut : {T : Type 0} → Result T Refusal → Bool
is_cut (Ok x) = false
is_cut (Err (refusals.Deck n fault)) = false
is_cut (Err other) = true

-- whether the result is one that reading may have: the only refusals are a line's fault, out of memory and a failed
-- read
abbrev pub is_of_reading : {T : Type 0} → Result T Refusal → Bool
is_of_reading (Ok x) = true
is_of_reading (Err (refusals.Deck n fault)) = true
is_of_reading (Err refusals.OutOfMemory) = true
is_of_reading (Err refusals.Read) = true
is_of_reading (Err other) = false
