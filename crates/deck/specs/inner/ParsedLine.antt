-- A line of a deck as the parts into which the program splits it.
-- Source: ours.
use Rattle.std.specs.Prelude.{ℕ, List}
use Rattle.std.specs.Borrow.{Bor}
use Rattle.deck.specs.declared.parsing.Line.{Line}
use Rattle.deck.specs.declared.parsing.Line.TheVariants as says

-- the line with the bytes of its fields instead of references to them
abbrev pub line_with_bytes : Line (Bor (List ℕ)) → Line (List ℕ)
line_with_bytes (says.Core w) = says.Core w.now
line_with_bytes (says.At a) = says.At a.now
line_with_bytes (says.Word v) = says.Word v.now
line_with_bytes (says.Code texts) = says.Code texts.now
line_with_bytes (says.Start n) = says.Start n.now
line_with_bytes (says.Show a b) = says.Show a.now b.now
line_with_bytes (says.Ask a k) = says.Ask a.now k.now
line_with_bytes (says.AskFree a) = says.AskFree a.now
line_with_bytes says.End = says.End
line_with_bytes says.Unknown = says.Unknown
