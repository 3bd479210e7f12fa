-- The effect on an output of a call that writes a text.
-- Source: ours.
use Rattle.std.specs.Prelude.{◌≡◌, ℕ, List, Result}
use Rattle.device_text.specs.Device.{Writes, failed_after}
use Rattle.device_text.specs.declared.output.Output as output
use Rattle.device_text.specs.declared.output.WriteFailed.{WriteFailed}

-- the result of a call that writes a text, and its effect on the output
pub record Puts {X : Type 0} (device : output.Ghosts X) (result : Result (Unit {0}) WriteFailed) (old new : X)
    (text : List ℕ) : Type 0 where
  -- the text was appended to the output, or a prefix of it at an error
  pub written : Writes result (device.contents old) (device.contents new) text
  -- the output has failed if it had failed before or the call returns an error
  pub failure : device.has_failed new ≡ failed_after (device.has_failed old) result
  -- the output borrows the same writer as before
  pub same : device.lender new ≡ device.lender old
