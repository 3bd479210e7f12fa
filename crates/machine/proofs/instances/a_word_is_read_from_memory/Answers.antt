use Rattle.std.proofs.Common.{ap, slice_index_or}
use Rattle.program_order.specs.declared.event.Done.TheVariants.{Word as DoneWord}
use Rattle.machine.proofs.Opened.{on_one_machine}
use Rattle.machine.proofs.instances.a_word_is_read_from_memory.Goals as goal

pub returns : goal.returns
unfolding on_one_machine
returns c w booted is = ap (λ memory. DoneWord (slice_index_or memory 0 0)) is
