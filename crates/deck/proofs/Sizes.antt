-- Sizes of memory in `core` lines.
use Rattle.std.proofs.Common.{◌≡◌, ℕ, ◌≤◌, true, false, ltb, List, length, Some, Result, Ok, Err, refl, arith}
use Rattle.std.proofs.lemmas.Bool.{le-ltb}
use Rattle.std.proofs.lemmas.Bool.Decides.{nat_tests}
use Rattle.std.specs.Prelude.{MatchResult}
use Rattle.device_text.specs.Text.{number_of}
use Rattle.relocation.specs.Relocation.{is_memory_size}
use Rattle.deck.specs.Deck.{LineOutcome, applied_core, applied_line, begun, goes_on, is_no_size, parsed_line}
use Rattle.deck.specs.Deck.{refuse_if, with_number}
use Rattle.deck.specs.Reading.{Begins}
use Rattle.deck.specs.declared.deck.Draft.{Draft}
use Rattle.deck.specs.declared.parsing.Line.TheVariants as says
use Rattle.instructions.specs.declared.refusal.DeckFault.{DeckFault}
use Rattle.instructions.specs.declared.refusal.DeckFault.TheVariants as faults

size_there : (n : ℕ) → is_no_size n ≡ false → is_memory_size n ≡ true
size_there n h = grind (arith, nat_tests)

-- the first line is a `core` line with these digits
pub begins_sized : (digits : List ℕ) (r : Result ℕ DeckFault)
    → MatchResult r (λ n. (number_of 10 6 digits ≡ Some n) × (is_no_size n ≡ false))
    (λ fault. (next : ℕ → LineOutcome) → with_number (number_of 10 6 digits)
    (λ n. refuse_if (is_no_size n) faults.Size (next n)) ≡ Err fault)
    → Begins r (applied_core (says.Core digits))
begins_sized digits (Ok n) made = (size_there n made.1, rw (made.0, made.1) refl)
begins_sized digits (Err fault) made = made (λ n. goes_on (begun n))

-- a later `core` line with a wrong size
pub core_fault : (d : Draft) (text digits : List ℕ) (fault : DeckFault) → length text ≤ 200
    → parsed_line text ≡ says.Core digits
    → ((next : ℕ → LineOutcome) → with_number (number_of 10 6 digits)
    (λ n. refuse_if (is_no_size n) faults.Size (next n)) ≡ Err fault)
    → applied_line (Some d) text ≡ Err fault
core_fault d text digits fault short said made =
    let fits : ltb 200 (length text) ≡ false = le-ltb _ _ short in
    rw (fits, said) (made (λ n. Err faults.Repeated))
