use denote.Param.Send.{sendable}
use Rattle.worker_loops.proofs.Sent.{tally_send}
use Rattle.unit_workers.proofs.worker_lanes.start_at.Goals as goal

pub spawn_with-requires-send-T : goal.spawn_with-requires-send-T
spawn_with-requires-send-T g c κs within = search (sendable, tally_send) depth 12
