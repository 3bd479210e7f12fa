-- A tally may pass from a worker's thread to the thread that waits for it: the snapshot in it owns nothing.
use denote.Param.Send.{IsSend, sendable}
use Rattle.std.proofs.Crossing.{crosses}
use Rattle.atomic_table.proofs.shared.Seat.TheSendSync as seat
use Rattle.worker_loops.specs.contracts.tally.Tally.{the_row}

pub tally_send : IsSend the_row
tally_send = search (sendable, crosses, seat.the_send) depth 40 fits 20000
