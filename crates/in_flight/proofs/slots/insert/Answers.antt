use Rattle.std.proofs.Common.{arith}
use Rattle.in_flight.proofs.in_slots.Listing.{inserted_at, inserted_last}
use Rattle.in_flight.proofs.slots.insert.Goals as goal

pub returns-in-Some-clause-items : goal.returns-in-Some-clause-items
returns-in-Some-clause-items c = cc (inserted_at c.args.pending c.args.list.now.items c.in-Some.place (grind arith))

pub returns-in-None-clause-items : goal.returns-in-None-clause-items
returns-in-None-clause-items c = cc (inserted_last c.args.pending c.args.list.now.items (grind arith))
