use Rattle.std.proofs.Common.{◌≡◌, ◌++◌, ◌∷◌, [], ap, ◌∙◌, arith}
use Rattle.std.specs.Prelude.{suc}
use Rattle.unit_queue.specs.declared.item.Item.TheVariants.{Work, Closed}
use Rattle.machine.specs.Tokens.{Seating}
use Rattle.worker_loops.proofs.NotesTaken.{notes_in-push, more, stored, note_counted}
use Rattle.worker_loops.proofs.unit_worker.worker.Goals as goal

-- the note is stored, and its seat has counted it
pub loop-preserved-then-is_stored : goal.loop-preserved-then-is_stored
loop-preserved-then-is_stored g c =
    let i = c.loop.invariant in
    let back = c.serve_with-back.result.0 in
    let is : back ≡ record c.loop.at { stored = suc c.loop.at.stored; last = c.in-Some-Work.note.number } =
    rw c.if-is_stored.true at c.serve_with-back.ensures in
    let s = stored c.loop.at back c.in-Some-Work.note.number is in
    let count = s.1 in
    let one = c.one_more-stored.ensures in
    let counted = i.counted in
    let got : c.take.new.pass.got ≡ c.loop.from.got ++ Work c.in-Some-Work.note ∷ [] =
    c.in-Some-Work.ensures.got ∙ ap (λ x. c.loop.from.got ++ x ∷ []) c.in-Some-Work.field-0-is in
    record {
      lane = c.in-Some-Work.ensures.lane ∙ i.lane;
      unit = s.0 ∙ i.unit;
      counted = omega (arith, count, one, counted);
      notes = note_counted c.args.pass.got c.loop.from.got c.take.new.pass.got c.in-Some-Work.note
          c.loop.stored c.loop.strange c.one_more-stored.result c.loop.strange i.notes got (omega (arith, one));
    }

-- the note is strange, and its seat is unchanged
pub loop-preserved-else-is_stored : goal.loop-preserved-else-is_stored
loop-preserved-else-is_stored g c =
    let i = c.loop.invariant in
    let same : c.serve_with-back.result.0 ≡ c.loop.at = rw c.if-is_stored.false at c.serve_with-back.ensures in
    let one = c.one_more-strange.ensures in
    let got : c.take.new.pass.got ≡ c.loop.from.got ++ Work c.in-Some-Work.note ∷ [] =
    c.in-Some-Work.ensures.got ∙ ap (λ x. c.loop.from.got ++ x ∷ []) c.in-Some-Work.field-0-is in
    record {
      lane = c.in-Some-Work.ensures.lane ∙ i.lane;
      unit = ap (λ (u : Seating). u.unit) same ∙ i.unit;
      counted = ap (λ (u : Seating). u.stored) same ∙ i.counted;
      notes = note_counted c.args.pass.got c.loop.from.got c.take.new.pass.got c.in-Some-Work.note
          c.loop.stored c.loop.strange c.loop.stored c.one_more-strange.result i.notes got (omega (arith, one));
    }

-- the item that closes the lane is no note
pub returns-in-Some-Closed-clause-notes : goal.returns-in-Some-Closed-clause-notes
returns-in-Some-Closed-clause-notes g c =
    let i = c.loop.invariant in
    let got : c.take.new.pass.got ≡ c.loop.from.got ++ Closed ∷ [] =
    c.in-Some-Closed.ensures.got ∙ ap (λ x. c.loop.from.got ++ x ∷ []) c.in-Some-Closed.field-0-is in
    let longer = notes_in-push i.notes.0 Closed in
    let sum = i.notes.2 in (
      i.notes.0 ++ Closed ∷ [],
      more c.args.pass.got c.loop.from.got c.take.new.pass.got i.notes.0 Closed i.notes.1 got,
      (omega (arith, longer, sum)),
    )
