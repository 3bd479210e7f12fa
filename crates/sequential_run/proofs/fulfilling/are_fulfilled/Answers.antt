use Rattle.std.proofs.Common.{rules}
use Rattle.sequential_run.proofs.Counting.{log_within}
use Rattle.sequential_run.proofs.fulfilling.are_fulfilled.Goals as goal

pub are_given-requires : goal.are_given-requires
are_given-requires c = log_within c.issues.result c.args.log.now.steps c.as_slice.result.now
    (search rules) (search rules) c.requires.count
