use Rattle.std.proofs.Common.{◌≡◌, ◌++◌, length}
use Rattle.device_text.specs.Device.{Moves}
use Rattle.log_text.specs.inner.LogLineParts.{IsInField}
use Rattle.log_text.proofs.following_log.read_field.Given as goal

-- the bytes of the field so far were read, and none of them ends a field
abbrev pub invariant-loop : goal.invariant-loop
invariant-loop g l =
    record {
      told : Moves (g.I.Input.remaining l.fn.input) (g.I.Input.remaining l.input) (λ xs ys. xs ≡ l.field.items ++ ys);
      text : IsInField l.field.items;
      count : length l.field.items ≡ l.counter;
      same : g.I.Input.lender l.input ≡ g.I.Input.lender l.fn.input;
      failures : g.I.Input.has_failed l.input ≡ g.I.Input.has_failed l.fn.input;
    }
