use Rattle.std.proofs.Common.{◌∙◌, sym}
use Rattle.log_text.proofs.LogReading.{count_on, added}
use Rattle.log_text.proofs.logs.add_field.Goals as goal

pub returns : goal.returns
returns c =
    let now = added _ c.add_entry.result (sym c.if-is_err.ensures.value) c.add_entry.ensures in (
      c.in-Some.entry,
      sym c.entry.ensures.entry ∙ c.in-Some.is,
      now,
      c.spent.ensures,
      rw c.spent.ensures
          (count_on c.args.log.now.steps c.add_entry.new.log.steps c.args.left c.in-Some.entry now
          c.in-Some.ensures.within
          c.requires),
    )
