-- The waiting reference that a search by its place finds. Source: ours.
use Rattle.std.specs.Prelude.{ℕ, suc, List, take, drop}
use Rattle.instructions.specs.Finding.{Found}
use Rattle.hopper.specs.declared.entered.Entered.{Entered}
use Rattle.hopper.specs.declared.reference.Reference.{Reference}

-- what is found if the reference is in the place, and `index` references entered before it
abbrev pub found_at : List Entered → ℕ → ℕ → Reference → Found Entered Reference
found_at entered place index reference =
    record {
      earlier = take index entered;
      item = record { place = place; reference = reference };
      answer = reference;
      later = drop (suc index) entered;
    }
