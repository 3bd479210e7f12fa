use Rattle.std.proofs.Common.{ap, ◌∙◌, arith}
use Rattle.sequential.specs.declared.log.Entry.TheVariants.{PpRead}
use Rattle.sequential.specs.Log.{ends_issuing}
use Rattle.sequential.specs.Replay.{ReadAt}
use Rattle.sequential.proofs.Entries.{a_read, single_added, issuing_no_more, counted_single, shortest_after_single}
use Rattle.sequential.proofs.log.Log.read_at.Goals as goal

pub invariant_of-self : goal.invariant_of-self
invariant_of-self c =
    let i = counted_single (ReadAt c.args.at) (PpRead c.args.at) (a_read c.args.at)
    c.self.inside.issues c.self.inside.entries.items _ c.self.invariant.count c.push_reserved.ensures.items in
    record {
      count = i.count;
      run = i.run;
      shortest = shortest_after_single (ReadAt c.args.at) (PpRead c.args.at) (a_read c.args.at)
          c.self.inside.entries.items _ c.self.invariant.shortest c.push_reserved.ensures.items;
    }

pub returns-clause-steps : goal.returns-clause-steps
returns-clause-steps c = grind (arith, single_added, a_read)

pub returns-clause-issuing : goal.returns-clause-issuing
returns-clause-issuing c =
    ap ends_issuing (returns-clause-steps c)
    ∙ issuing_no_more (ReadAt c.args.at) (PpRead c.args.at) (a_read c.args.at) c.args.self.now.steps
