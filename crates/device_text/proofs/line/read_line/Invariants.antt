use Rattle.std.proofs.Common.{◌≡◌, ◌++◌, length}
use Rattle.device_text.specs.Device.{Moves}
use Rattle.device_text.specs.Line.{IsText}
use Rattle.device_text.proofs.line.read_line.Given as goal

-- the bytes of the line so far were read, and none of them is a line end
abbrev pub invariant-loop : goal.invariant-loop
invariant-loop g l =
    record {
      told : Moves (g.I.Input.remaining l.fn.input) (g.I.Input.remaining l.input) (λ xs ys. xs ≡ l.line.items ++ ys);
      text : IsText l.line.items;
      count : length l.line.items ≡ l.counter;
      same : g.I.Input.lender l.input ≡ g.I.Input.lender l.fn.input;
      failures : g.I.Input.has_failed l.input ≡ g.I.Input.has_failed l.fn.input;
    }
