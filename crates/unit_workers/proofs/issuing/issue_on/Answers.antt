use Rattle.unit_workers.proofs.Onward.{through, moved, learnt_on, made_on}
use Rattle.unit_workers.proofs.issuing.issue_on.Goals.{in-Some+in-Ok, in-Some+in-Err-ExchangeBusy, in_default}
use Rattle.unit_workers.proofs.issuing.issue_on.Goals as goal

pub returns-in-Err : goal.returns-in-Err
returns-in-Err g c = record { onward = through _ _ _ c.loop.invariant (learnt_on _ _ c.ask.ensures.seen) }

pub returns-then-is_full : goal.returns-then-is_full
returns-then-is_full g c = record {
  onward = through _ _ _ (elim c.match-due.branch [
    | in-Some+in-Ok w ↦ moved _ _ _ (through _ _ _ c.loop.invariant (learnt_on _ _ w.ask.ensures.seen)) w.seen-is
    | in-Some+in-Err-ExchangeBusy w ↦
        moved _ _ _ (through _ _ _ c.loop.invariant (learnt_on _ _ w.ask.ensures.seen)) w.seen-is
    | in_default w ↦ moved _ _ _ c.loop.invariant w.seen-is
  ]) (made_on _ _ _ c.in-Ok-issue.ensures.seen.0);
}

pub loop-preserved : goal.loop-preserved
loop-preserved g c =
    through _ _ _ (elim c.match-due.branch [
      | in-Some+in-Ok w ↦ moved _ _ _ (through _ _ _ c.loop.invariant (learnt_on _ _ w.ask.ensures.seen)) w.seen-is
      | in-Some+in-Err-ExchangeBusy w ↦
          moved _ _ _ (through _ _ _ c.loop.invariant (learnt_on _ _ w.ask.ensures.seen)) w.seen-is
      | in_default w ↦ moved _ _ _ c.loop.invariant w.seen-is
    ]) (made_on _ _ _ c.in-Ok-issue.ensures.seen.0)
