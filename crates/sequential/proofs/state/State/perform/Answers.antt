use Rattle.std.proofs.Common.{ap, refl, ◌∙◌}
use Rattle.sequential.specs.State.{bounds_of}
use Rattle.sequential.specs.Work.{fault_of, refer}
use Rattle.sequential.proofs.Performing.{instruction_done}
use Rattle.sequential.proofs.state.State.perform.Goals as goal

pub returns : goal.returns
unfolding bounds_of
returns c =
    instruction_done (bounds_of c.args.self.now) c.args.self.now _ c.args.instr.now c.args.at c.operands.result
    c.computed-value.result c.of-work.result (fault_of (bounds_of c.args.self.now) c.of-work.result.reference)
    c.operands.ensures c.computed-value.ensures c.of-work.ensures refl
    (c.refer.ensures ∙ ap (λ s. refer (bounds_of s) s c.of-work.result.reference) c.write_and_jump.ensures)
