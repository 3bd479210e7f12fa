use Rattle.std.proofs.Common.{◌≡◌, Some, None, refl, ap, ◌∙◌, arith}
use Rattle.sequential.specs.Log.{issued}
use Rattle.log_text.specs.LogText.{AddsField}
use Rattle.log_text.specs.declared.logs.Allowance.{Allowance}
use Rattle.log_text.proofs.FollowingLines.{begun, refused, too_long, last, next, at_error}
use Rattle.log_text.proofs.FollowingLines.{some_entries, entries_and_part}
use Rattle.log_text.proofs.LogReading.{takes_some}
use Rattle.log_text.proofs.following_log.read_entries_from.Goals as goal

pub loop-log-init : goal.loop-log-init
unfolding issued
loop-log-init g c =
    let nothing : issued c.new-log.result.steps ≡ 0 = ap issued c.new-log.ensures.steps in
    let limit : c.whole-left.result.instructions ≡ 10000000 =
    ap (λ (left : Allowance). left.instructions) c.whole-left.ensures in
    record {
      told = begun (g.I.Input.remaining c.args.input.now) c.args.first c.args.field.now.items c.new-log.result.steps
          c.whole-left.result c.new-log.ensures.steps c.whole-left.ensures;
      text = c.requires;
      count = omega (arith, nothing, limit);
      same = refl;
      failures = refl;
    }

pub returns-in-None-clause-read : goal.returns-in-None-clause-read
returns-in-None-clause-read g c =
    let none : AddsField None c.loop-log.left c.loop-log.field.items c.loop-log.log.steps c.add_field.new.log.steps =
    rw (c.in-None.is, c.as_slice.ensures.value) at c.in_ok-add_field.ensures in
    refused _ _ c.args.first c.loop-log.end c.args.field.now.items c.loop-log.field.items c.loop-log.log.steps
    c.loop-log.left c.loop-log.invariant.text none c.loop-log.invariant.told

pub loop-log-smaller : goal.loop-log-smaller
loop-log-smaller g c =
    let added : AddsField (Some c.in-Some.more) c.loop-log.left c.loop-log.field.items c.loop-log.log.steps
    c.add_field.new.log.steps = rw (c.in-Some.is, c.as_slice.ensures.value) at c.in_ok-add_field.ensures in
    takes_some c.loop-log.left c.in-Some.more c.loop-log.field.items c.loop-log.log.steps c.add_field.new.log.steps
    added

pub loop-log-preserved : goal.loop-log-preserved
loop-log-preserved g c =
    let added : AddsField (Some c.in-Some.more) c.loop-log.left c.loop-log.field.items c.loop-log.log.steps
    c.add_field.new.log.steps = rw (c.in-Some.is, c.as_slice.ensures.value) at c.in_ok-add_field.ensures in
    record {
      told = next _ _ _ c.args.first c.loop-log.end c.in_ok-end-in-Space.end c.args.field.now.items
          c.loop-log.field.items c.read_field.new.field.items c.loop-log.log.steps c.add_field.new.log.steps
          c.loop-log.left c.in-Some.more c.loop-log.invariant.text c.in-Space.is added c.loop-log.invariant.told
          c.in_ok-end-in-Space.ensures.ok;
      text = c.in_ok-end-in-Space.ensures.text;
      count = added.4;
      same = c.in_ok-end-in-Space.ensures.same ∙ c.loop-log.invariant.same;
      failures = c.in_ok-end-in-Space.ensures.failure ∙ c.loop-log.invariant.failures;
    }

pub returns-in-Line-clause-read : goal.returns-in-Line-clause-read
returns-in-Line-clause-read g c =
    let added : AddsField (Some c.in-Some.more) c.loop-log.left c.loop-log.field.items c.loop-log.log.steps
    c.add_field.new.log.steps = rw (c.in-Some.is, c.as_slice.ensures.value) at c.in_ok-add_field.ensures in
    last _ _ c.args.first c.loop-log.end c.args.field.now.items c.loop-log.field.items c.loop-log.log.steps
    c.add_field.new.log c.loop-log.left c.in-Some.more c.loop-log.invariant.text c.in-Line.is added
    c.loop-log.invariant.told

pub returns-in-Long-clause-read : goal.returns-in-Long-clause-read
returns-in-Long-clause-read g c =
    too_long _ _ c.args.first c.loop-log.end c.args.field.now.items c.loop-log.field.items c.loop-log.log.steps
    c.loop-log.left c.loop-log.invariant.text c.in-Long.is c.loop-log.invariant.told

pub returns-in_err-add_field-clause-within : goal.returns-in_err-add_field-clause-within
returns-in_err-add_field-clause-within g c =
    at_error c.from_residual.result (some_entries _ _ c.args.first c.loop-log.end c.args.field.now.items
    c.loop-log.field.items c.loop-log.log.steps c.loop-log.left c.loop-log.invariant.text c.loop-log.invariant.told)

pub returns-in_err-end-in-Space-clause-within : goal.returns-in_err-end-in-Space-clause-within
returns-in_err-end-in-Space-clause-within g c =
    at_error c.from_residual-in_err-end-in-Space.result (entries_and_part _ _ _ c.args.first c.loop-log.end
    c.args.field.now.items c.loop-log.field.items c.read_field.new.field.items c.loop-log.log.steps c.loop-log.left
    c.loop-log.invariant.text c.in-Space.is c.in_err-end-in-Space.ensures.part c.loop-log.invariant.told
    c.in_err-end-in-Space.ensures.err)
