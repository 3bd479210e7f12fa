use Rattle.machine_tests.proofs.Alone.{sum_rest}
use Rattle.machine_tests.proofs.flight_tests.a_sum_leaves_nothing.Goals as goal

pub left_alone-requires : goal.left_alone-requires
left_alone-requires g c = sum_rest c.low.result c.no_addends.result
