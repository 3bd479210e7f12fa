use Rattle.std.proofs.Common.{sym}
use Rattle.std.proofs.lemmas.List.{append-nil}
use Rattle.sequential.specs.Log.{steps_of}
use Rattle.sequential_run.proofs.Counting.{no_exchange}
use Rattle.sequential_run.proofs.exchanges.add.Goals as goal

pub returns-in-Issued-clause-made : goal.returns-in-Issued-clause-made
unfolding steps_of
returns-in-Issued-clause-made c = rw (c.in-Issued.is, no_exchange c.args.count.now c.in-Issued.more)
    (sym (append-nil c.args.made.now.items))
