use Rattle.std.proofs.Common.{◌≡◌, ◌+◌}
use Rattle.worker_loops.proofs.NotesTaken.{Counted}
use Rattle.worker_loops.proofs.unit_worker.worker.Given as goal

-- the items taken so far, and whether each note was stored or strange
abbrev pub invariant-loop : goal.invariant-loop
invariant-loop g l = record {
  lane : l.from.id ≡ l.lane.id;
  unit : l.at.unit ≡ l.fn.seat.unit;
  counted : l.at.stored ≡ l.fn.seat.stored + l.stored;
  notes : Counted l.fn.pass.got l.from.got l.stored l.strange;
}
