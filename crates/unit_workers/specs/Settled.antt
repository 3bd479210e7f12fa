-- The tallies of a run: each unit's worker took what was sent to it. Source: ours.
use Rattle.std.specs.Prelude.{◌≡◌, List, map}
use Rattle.instructions.specs.declared.instr.Unit.{Unit}
use Rattle.instructions.specs.declared.instr.Unit.TheVariants.{Branch, Boolean, Shift, LongAdd, Divide, Increment1}
use Rattle.instructions.specs.declared.instr.Unit.TheVariants.{Increment2}
use Rattle.instructions.specs.declared.per_unit.PerUnit.{PerUnit}
use Rattle.instructions.specs.PerUnit.{in_order}
use Rattle.unit_queue.specs.Lanes.{SendEnd}
use Rattle.worker_loops.specs.declared.tally.Tally.{Tally}

-- the units in use
abbrev pub in_use : PerUnit Unit
in_use = record {
  branch = Branch;
  boolean = Boolean;
  shift = Shift;
  long_add = LongAdd;
  divide = Divide;
  increment1 = Increment1;
  increment2 = Increment2;
}

-- the tally of this unit's worker, which took each item that was sent on the lane of this sending end, in order
pub record IsSettled (kind : Unit) (sender : SendEnd) (tally : Tally) : Type 0 where
  pub unit : tally.unit ≡ kind
  pub lane : tally.pass.id ≡ sender.id
  pub items : tally.pass.got ≡ sender.sent

-- there is a tally for each unit in use, in the order of the units' numbers, and its worker took each item that was
-- sent on its lane, in order
pub record AreSettled (senders : List SendEnd) (tallies : List Tally) : Type 0 where
  pub units : map (λ (t : Tally). t.unit) tallies ≡ in_order in_use
  pub lanes : map (λ (t : Tally). t.pass.id) tallies ≡ map (λ (s : SendEnd). s.id) senders
  pub items : map (λ (t : Tally). t.pass.got) tallies ≡ map (λ (s : SendEnd). s.sent) senders
