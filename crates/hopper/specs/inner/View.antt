-- The invariant of a hopper's waiting references and banks.
-- Source: Thornton, stunt box, for places and banks; the list is ours.
use Rattle.std.specs.Prelude.{◌≡◌, ◌≢◌, ◌<◌, Bool, List, length}
use Rattle.instructions.specs.Each.{Each, Pairs}
use Rattle.hopper.specs.declared.entered.Entered.{Entered}

-- the invariant of the fields of a hopper
pub record IsRight (entered : List Entered) (busy : List Bool) : Type 0 where
  -- there are 32 banks
  pub all_banks : length busy ≡ 32
  -- each reference is in one of the four places, and no two share a place
  pub placed : Each (λ e. e.place < 4) entered
  pub apart : Pairs (λ d e. d.place ≢ e.place) entered
