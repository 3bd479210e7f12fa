-- The position of the next instruction: P, the next parcel and the held word.
-- Source: 60100000, instruction words.
use Rattle.std.specs.Prelude.{ℕ, ◌+◌, ◌%◌, ◌^◌, nat_lt, if◌then◌else◌, Option, Some, None}
use Rattle.sequential.specs.declared.position.ProgramPosition.{ProgramPosition}

-- the beginning of the word at an address: parcel 0, with no word held
abbrev pub beginning : ℕ → ProgramPosition
beginning p = record { p = p; parcel = 0; held = None }

-- the position after an instruction of a held word: its next parcel or, after parcel 3, the next word
unfoldable pub after_parcel : ℕ → ℕ → ℕ → ProgramPosition
after_parcel p word next =
    if nat_lt next 4 then record { p = p; parcel = next; held = Some word } else beginning ((p + 1) % 2 ^ 18)

-- the position after a jump, or the same position if there is no jump
unfoldable pub after_jump : ProgramPosition → Option ℕ → ProgramPosition
after_jump position None = position
after_jump position (Some to) = beginning to
