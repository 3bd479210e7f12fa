use Rattle.machine_tests.proofs.Alone.{alone_room, alone_rest}
use Rattle.machine_tests.proofs.flight_calls.left_alone.Goals as goal

pub leave-requires-clause-rest : goal.leave-requires-clause-rest
leave-requires-clause-rest c =
    alone_rest c.new-flight.result c.reserve.new.self c.args.instr.now c.default.result c.in-Ok.unit c.args.rest.now
    c.new-flight.ensures c.in-Ok.ensures.after c.requires

pub leave-requires-clause-room : goal.leave-requires-clause-room
leave-requires-clause-room c =
    λ enters. alone_room c.new-flight.result c.reserve.new.self c.args.instr.now c.default.result c.new-flight.ensures
    c.in-Ok.ensures.after
