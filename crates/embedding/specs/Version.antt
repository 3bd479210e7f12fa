-- The program's version.
-- Source: ours.
use Rattle.std.specs.Prelude.{ℕ, List, codes}

-- the text that `cdc6600 --version` prints after the program's name
abbrev pub version : List ℕ
version = codes "0.1.0"
