-- Lines of a schedule with too many fields.
use Rattle.std.proofs.Common.{◌≡◌, ℕ, true, false, cond, eqb, List, [], ◌∷◌, refl}
use Rattle.std.specs.List.{onto_first}
use Rattle.device_text.specs.Text.{fields_of}
use Rattle.job_deck.specs.Schedule.{line_of_fields}
use Rattle.job_deck.specs.declared.schedule.ScheduleLine.TheVariants.{Faulty}
use Rattle.instructions.specs.declared.refusal.DeckFault.TheVariants as faults

four_onto : (w a b : List ℕ) (x : ℕ) (parts : List (List ℕ))
    → line_of_fields (w ∷ a ∷ b ∷ onto_first x parts) ≡ Faulty faults.Unknown
four_onto w a b x [] = refl
four_onto w a b x (part ∷ parts) = refl

-- a line with four or more fields is no event
pub four_fields : (w a b rest : List ℕ) → line_of_fields (w ∷ a ∷ b ∷ fields_of rest) ≡ Faulty faults.Unknown
four_fields w a b [] = refl
four_fields w a b (x ∷ xs) =
    elim (eqb x 32) as (λ v. line_of_fields (w ∷ a ∷ b ∷ cond v ([] ∷ fields_of xs) (onto_first x (fields_of xs)))
    ≡ Faulty faults.Unknown) [ true ↦ refl | false ↦ four_onto w a b x (fields_of xs) ]
