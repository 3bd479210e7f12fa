use Rattle.device_text.proofs.Putting.{puts_each, puts_each_cut}
use Rattle.contents_text.specs.Contents.{unit_line}
use Rattle.contents_text.proofs.contents.put_units.Goals as goal

pub returns-in_err-put_unit : goal.returns-in_err-put_unit
returns-in_err-put_unit g c =
    puts_each_cut g.O.Output c.from_residual.result _ c.from_residual.ensures.1 (unit_line c.args.machine.now.pending)
    c.args.units.now c.loop-unit.unit-index _ _ _ c.put_unit.new.output _ c.loop-unit-test.true
    c.loop-unit.invariant c.in_err-put_unit.ensures

pub loop-unit-preserved : goal.loop-unit-preserved
loop-unit-preserved g c =
    puts_each g.O.Output (unit_line c.args.machine.now.pending) c.args.units.now c.loop-unit.unit-index _ _ _
    c.put_unit.new.output _ c.loop-unit-test.true c.loop-unit.invariant c.in_ok-put_unit.ensures
