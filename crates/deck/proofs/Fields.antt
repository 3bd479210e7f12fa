-- Lines with too many fields.
use Rattle.std.proofs.Common.{◌≡◌, ℕ, List, [], ◌∷◌, refl, arith}
use Rattle.device_text.specs.Text.{fields_of}
use Rattle.deck.specs.Deck.{parsed_fields}
use Rattle.deck.specs.declared.parsing.Line.TheVariants.{Unknown}

-- a line with five or more fields is `Unknown`
pub too_many : (w a b d rest : List ℕ) → parsed_fields (w ∷ a ∷ b ∷ d ∷ fields_of rest) ≡ Unknown
too_many w a b d [] = refl
too_many w a b d (x ∷ xs) = grind arith
