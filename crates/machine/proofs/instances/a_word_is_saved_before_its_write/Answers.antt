use Rattle.machine.proofs.Opened.{on_one_machine}
use Rattle.machine.proofs.instances.a_word_is_saved_before_its_write.Goals as goal

pub returns : goal.returns
unfolding on_one_machine
returns c same = cc
