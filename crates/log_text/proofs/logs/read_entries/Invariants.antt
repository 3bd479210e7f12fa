use Rattle.std.proofs.Common.{◌≡◌, ◌≤◌, ◌+◌, length}
use Rattle.sequential.specs.Log.{issued}
use Rattle.device_text.specs.Text.{fields_of}
use Rattle.log_text.specs.LogText.{whole_allowance, put_steps, steps_in}
use Rattle.log_text.proofs.logs.read_entries.Given as goal

-- the steps of all fields are the steps so far and the steps of the remaining fields
abbrev pub invariant-loop-log : goal.invariant-loop-log
invariant-loop-log l =
    record {
      told : steps_in whole_allowance (fields_of l.text) ≡ put_steps l.log.steps (steps_in l.left (fields_of l.rest));
      count : issued l.log.steps + l.left.instructions ≤ 10000000;
    }

abbrev pub decreases-loop-log : goal.decreases-loop-log
decreases-loop-log l = length l.rest
