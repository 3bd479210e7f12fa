use Rattle.std.proofs.Common.{[], ◌++◌, sym, ap, ◌∙◌}
use Rattle.machine_lock.specs.inner.Rules.{history, keeper}
use Rattle.machine_lock.proofs.Lists.{steps_of-exchange, steps_of-count, steps_of-read, steps_of-write}
use Rattle.machine_lock.proofs.word.Word.record_entry.Goals as goal

pub returns-in-Exchange-clause-pass : goal.returns-in-Exchange-clause-pass
returns-in-Exchange-clause-pass g c =
    let p = c.record.ensures.pass in (
      p.0,
      p.1 ∙ ap (λ l. (
        keeper (history c.args.pass.now.me.0.seen.booted (c.args.pass.now.me.0.seen.log ++ l)),
        [],
      )) (sym (steps_of-exchange c.args.entry.now c.in-Exchange.field-0 c.in-Exchange.is)),
    )

pub returns-in-Issued-clause-pass : goal.returns-in-Issued-clause-pass
returns-in-Issued-clause-pass g c =
    let p = c.record_issues.ensures.pass in (
      p.0,
      p.1 ∙ ap (λ l. (
        keeper (history c.args.pass.now.me.0.seen.booted (c.args.pass.now.me.0.seen.log ++ l)),
        [],
      )) (sym (steps_of-count c.args.entry.now c.in-Issued.count c.in-Issued.is)),
    )

pub returns-in-PpRead-clause-pass : goal.returns-in-PpRead-clause-pass
returns-in-PpRead-clause-pass g c =
    let p = c.record-in-PpRead.ensures.pass in (
      p.0,
      p.1 ∙ ap (λ l. (
        keeper (history c.args.pass.now.me.0.seen.booted (c.args.pass.now.me.0.seen.log ++ l)),
        [],
      )) (sym (steps_of-read c.args.entry.now c.in-PpRead.field-0 c.in-PpRead.is)),
    )

pub returns-in-PpWrite-clause-pass : goal.returns-in-PpWrite-clause-pass
returns-in-PpWrite-clause-pass g c =
    let p = c.record-in-PpWrite.ensures.pass in (
      p.0,
      p.1 ∙ ap (λ l. (
        keeper (history c.args.pass.now.me.0.seen.booted (c.args.pass.now.me.0.seen.log ++ l)),
        [],
      )) (sym (steps_of-write c.args.entry.now c.in-PpWrite.field-0 c.in-PpWrite.field-1 c.in-PpWrite.is)),
    )
