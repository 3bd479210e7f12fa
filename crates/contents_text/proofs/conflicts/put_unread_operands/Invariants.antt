use Rattle.std.proofs.Common.{drop}
use Rattle.std.specs.List.{flat_map}
use Rattle.contents_text.specs.Contents.{operand_line}
use Rattle.device_text.proofs.Putting.{PutsAllBut}
use Rattle.contents_text.proofs.conflicts.put_unread_operands.Given as goal

abbrev pub invariant-loop-register : goal.invariant-loop-register
invariant-loop-register g l =
    PutsAllBut g.O.Output (flat_map (operand_line l.pending l.reader) (drop l.register-index l.operands)) l.fn.output l.output
    (flat_map (operand_line l.pending l.reader) l.operands)
