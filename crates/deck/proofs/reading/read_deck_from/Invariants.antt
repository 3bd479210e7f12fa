use Rattle.std.proofs.Common.{◌≡◌, Some}
use Rattle.device_text.specs.Device.{Moves}
use Rattle.device_text.specs.Line.{lines_of}
use Rattle.deck.specs.Deck.{deck, read_from}
use Rattle.deck.proofs.reading.read_deck_from.Given as goal

-- reading the whole deck equals reading on from this line
abbrev pub invariant-loop-number : goal.invariant-loop-number
invariant-loop-number g l =
    record {
      told : Moves (g.I.Input.remaining l.fn.input) (g.I.Input.remaining l.input)
          (λ xs ys. deck xs ≡ read_from l.number (Some l.draft) ys (lines_of ys));
      same : g.I.Input.lender l.input ≡ g.I.Input.lender l.fn.input;
      failures : g.I.Input.has_failed l.input ≡ g.I.Input.has_failed l.fn.input;
    }
