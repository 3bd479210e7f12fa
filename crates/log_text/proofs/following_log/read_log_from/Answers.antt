use Rattle.std.proofs.Common.{◌≡◌, true, false, ap, sym, ◌∙◌}
use Rattle.log_text.proofs.FollowingLines.{is_none, has_entries}
use Rattle.log_text.specs.inner.LogLineParts.{is_none_line}
use Rattle.log_text.proofs.following_log.read_log_from.Goals as goal

pub returns-then-is_none_line-clause-read : goal.returns-then-is_none_line-clause-read
returns-then-is_none_line-clause-read g c =
    let none : is_none_line c.in_ok-end.end c.read_field.new.field.items ≡ true =
    ap (is_none_line c.in_ok-end.end) (sym c.as_slice.ensures.value) ∙ sym c.if-is_none_line.ensures in
    is_none _ _ c.in_ok-end.end c.new.result c.read_field.new.field.items c.in_ok-end.ensures.text
    c.new.ensures.steps none c.in_ok-end.ensures.ok

pub returns-clause-read : goal.returns-clause-read
returns-clause-read g c =
    let other : is_none_line c.in_ok-end.end c.read_field.new.field.items ≡ false =
    ap (is_none_line c.in_ok-end.end) (sym c.as_slice.ensures.value) ∙ sym c.if-is_none_line.ensures in
    has_entries _ _ _ c.in_ok-end.end c.read_entries_from.result c.read_field.new.field.items _
    c.in_ok-end.ensures.text other c.in_ok-end.ensures.ok c.read_entries_from.ensures.read
