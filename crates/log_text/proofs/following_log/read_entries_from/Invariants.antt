use Rattle.std.proofs.Common.{◌≡◌, ◌+◌, ◌≤◌}
use Rattle.sequential.specs.Log.{issued}
use Rattle.device_text.specs.Device.{Moves}
use Rattle.log_text.specs.inner.LogLineParts.{IsInField}
use Rattle.log_text.proofs.FollowingLines.{ReadsOn}
use Rattle.log_text.proofs.LogReading.{still_to_come}
use Rattle.log_text.proofs.following_log.read_entries_from.Given as goal

-- the bytes of the line before the buffered field were read as entries
abbrev pub invariant-loop-log : goal.invariant-loop-log
invariant-loop-log g l =
    record {
      told : Moves (g.I.Input.remaining l.fn.input) (g.I.Input.remaining l.input)
          (ReadsOn l.fn.first l.fn.field.items l.log.steps l.left l.end l.field.items);
      text : IsInField l.field.items;
      count : issued l.log.steps + l.left.instructions ≤ 10000000;
      same : g.I.Input.lender l.input ≡ g.I.Input.lender l.fn.input;
      failures : g.I.Input.has_failed l.input ≡ g.I.Input.has_failed l.fn.input;
    }

-- each entry reduces the allowance
abbrev pub decreases-loop-log : goal.decreases-loop-log
decreases-loop-log g l = still_to_come l.left
