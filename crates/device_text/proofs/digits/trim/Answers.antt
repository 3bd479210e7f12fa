use Rattle.std.proofs.Common.{◌∙◌, sym}
use Rattle.device_text.proofs.Texts.{short_trimmed}
use Rattle.device_text.proofs.digits.trim.Goals as goal

pub returns-after-loop-rest : goal.returns-after-loop-rest
returns-after-loop-rest c = sym (short_trimmed c.loop-rest.rest.now c.loop-rest-test.false) ∙ c.loop-rest.invariant
