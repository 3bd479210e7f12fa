-- The items of a word in a listing.
use Rattle.std.proofs.Common.{◌≡◌, ℕ, zero, suc, ◌+◌, ◌<◌, ◌≤◌, true, ltb, List, ◌++◌, refl, subst}
use Rattle.std.proofs.Common.{arith, Result, Ok, Err}
use Rattle.std.proofs.lemmas.Bool.{lt-ltb}
use Rattle.std.specs.Prelude.{IsErrAnd}
use Rattle.instruction_table.specs.declared.decoding.Decoded.{Decoded}
use Rattle.instruction_table.specs.declared.decoding.Decoded.TheVariants.{Legal, Refused, Straddle}
use Rattle.instruction_table.specs.Decoding.{reading_at, GoesOn}
use Rattle.device_text.specs.Putting.{Puts}
use Rattle.device_text.specs.declared.output.Output as output
use Rattle.device_text.specs.declared.output.WriteFailed.{WriteFailed}
use Rattle.job_deck.specs.Listing.{after, separated, items_from}
use Rattle.device_text.proofs.Putting.{PutsAllBut, puts_piece, puts_piece_cut}

-- an item takes at least one parcel
pub goes_on : (parcel : ℕ) (item : Decoded) → GoesOn parcel item → parcel < after parcel item
goes_on parcel (Legal instr next) range = range.0
goes_on parcel (Refused op) range = omega arith
goes_on parcel Straddle range = omega arith

-- everything was put but the items from a parcel on
abbrev pub AllButItems : {X : Type 0} → output.Ghosts X → ℕ → ℕ → X → X → List ℕ → Type 0
AllButItems device word parcel old new all =
    (most : ℕ) × (4 ≤ most + parcel) × PutsAllBut device (items_from most word parcel) old new all

-- the first of these items, and the rest
abbrev FirstItem : ℕ → ℕ → ℕ → Type 0
FirstItem most word parcel =
    (fewer : ℕ) × (4 ≤ fewer + after parcel (reading_at word parcel))
    × (items_from most word parcel ≡ separated parcel (reading_at word parcel)
    ++ items_from fewer word (after parcel (reading_at word parcel)))

first_item : (most word parcel : ℕ) → GoesOn parcel (reading_at word parcel) → parcel < 4 → 4 ≤ most + parcel
    → FirstItem most word parcel
first_item zero word parcel range low enough = absurd (omega arith)
first_item (suc fewer) word parcel range low enough =
    let on = goes_on parcel (reading_at word parcel) range in
    let within : ltb parcel 4 ≡ true = lt-ltb _ _ low in
    (fewer, omega (arith, on), rw within refl)

module _ {X : Type 0} (device : output.Ghosts X) where
  pub item_done : {u : Unit {0}} (word parcel : ℕ) (a b c : X) (all : List ℕ) → GoesOn parcel (reading_at word parcel)
      → parcel < 4 → AllButItems device word parcel a b all
      → Puts device (Ok u) b c (separated parcel (reading_at word parcel))
      → AllButItems device word (after parcel (reading_at word parcel)) a c all
  item_done word parcel a b c all range low left item =
      let first = first_item left.0 word parcel range low left.1 in
      let parts = subst (λ l. PutsAllBut device l a b all) first.2 left.2 in
      (first.0, first.1, puts_piece device a b c (separated parcel (reading_at word parcel)) _ all parts item)

  pub item_cut : (r : Result (Unit {0}) WriteFailed) (Q : WriteFailed → Type 0) → IsErrAnd r Q
      → {e : WriteFailed} (word parcel : ℕ) (a b c : X) (all : List ℕ) → GoesOn parcel (reading_at word parcel)
      → parcel < 4 → AllButItems device word parcel a b all
      → Puts device (Err e) b c (separated parcel (reading_at word parcel)) → Puts device r a c all
  item_cut r Q i word parcel a b c all range low left cut =
      let first = first_item left.0 word parcel range low left.1 in
      puts_piece_cut device r Q i a b c (separated parcel (reading_at word parcel)) _ all
      (subst (λ l. PutsAllBut device l a b all) first.2 left.2) cut
