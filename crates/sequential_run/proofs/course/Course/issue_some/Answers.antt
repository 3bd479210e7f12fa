use Rattle.sequential_run.proofs.Going.{last_fits}
use Rattle.sequential_run.proofs.course.Course.issue_some.Goals as goal

pub issued_many-requires-clause-count : goal.issued_many-requires-clause-count
issued_many-requires-clause-count c = last_fits c.args.self.now.log.steps c.args.count c.issue_many-made.result
    c.requires.count c.issue_many-made.ensures.most
