use Rattle.std.proofs.Common.{◌≡◌, Some, ap, ◌∙◌, arith}
use Rattle.sequential.specs.Log.{issued}
use Rattle.device_text.specs.Text.{fields_of}
use Rattle.log_text.specs.LogText.{whole_allowance, put_steps, steps_in, AddsField}
use Rattle.log_text.specs.declared.logs.Allowance.{Allowance}
use Rattle.log_text.proofs.LogReading.{before_none, field_on}
use Rattle.log_text.proofs.logs.read_entries.Goals as goal

pub loop-log-init : goal.loop-log-init
unfolding issued
loop-log-init c =
    let nothing : issued c.new-log.result.steps ≡ 0 = ap issued c.new-log.ensures.steps in
    let limit : c.whole-left.result.instructions ≡ 10000000 =
    ap (λ (left : Allowance). left.instructions) c.whole-left.ensures in
    record {
      told = rw (c.new-log.ensures.steps, c.whole-left.ensures)
          (before_none (steps_in whole_allowance (fields_of c.args.text.now)));
      count = omega (arith, nothing, limit);
    }

pub loop-log-preserved : goal.loop-log-preserved
loop-log-preserved c =
    let added : AddsField (Some c.in-Some.more) c.loop-log.left c.first_part.result.0.now c.loop-log.log.steps
    c.add_field.new.log.steps = rw c.in-Some.is at c.in_ok-add_field.ensures in
    record {
      told = c.loop-log.invariant.told
          ∙ ap (λ fields. put_steps c.loop-log.log.steps (steps_in c.loop-log.left fields))
          (rw c.in-Some-after.is at c.first_part.ensures.parts)
          ∙ field_on c.loop-log.log.steps c.add_field.new.log.steps c.loop-log.left c.in-Some.more
          c.first_part.result.0.now (fields_of c.in-Some-after.more.now) added;
      count = added.4;
    }
