use Rattle.std.proofs.Common.{rules, refl}
use Rattle.sequential_run.proofs.Going.{ask_goes, free_goes}
use Rattle.sequential_run.specs.inner.Course.{moment_of}
use Rattle.sequential_run.proofs.course.Course.ask.Goals as goal

pub returns-in-Some-clause-gone : goal.returns-in-Some-clause-gone
returns-in-Some-clause-gone c = λ t. ask_goes c.args.budget c.args.self.now c.take_due.new.self c.in-Some.ask
    c.requires.kept c.requires.idle (c.in-Some.ensures.due (search rules)) c.in-Some.ensures.left

pub returns-in-Some-pop_front-clause-gone : goal.returns-in-Some-pop_front-clause-gone
returns-in-Some-pop_front-clause-gone c = λ t. free_goes c.args.budget c.args.self.now _ c.in-Some-pop_front.at
    c.requires.kept c.requires.idle (search rules) (search rules) refl refl (search rules) refl

pub returns-clause-same : goal.returns-clause-same
unfolding moment_of
returns-clause-same c = λ t. search rules
