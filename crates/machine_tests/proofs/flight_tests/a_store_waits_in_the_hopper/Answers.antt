use Rattle.machine_tests.proofs.Alone.{store_rest}
use Rattle.machine_tests.proofs.flight_tests.a_store_waits_in_the_hopper.Goals as goal

pub left_alone-requires : goal.left_alone-requires
left_alone-requires g c = store_rest c.low.result c.no_addends.result 39 c.default.result c.low.ensures
