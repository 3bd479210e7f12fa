use Rattle.std.proofs.Common.{ap, ◌∙◌, arith}
use Rattle.sequential.specs.declared.log.Entry.TheVariants.{PpWrite}
use Rattle.sequential.specs.Log.{ends_issuing}
use Rattle.sequential.specs.Replay.{Wrote}
use Rattle.sequential.proofs.Entries.{a_write, single_added, issuing_no_more, counted_single, shortest_after_single}
use Rattle.sequential.proofs.log.Log.wrote.Goals as goal

pub invariant_of-self : goal.invariant_of-self
invariant_of-self c =
    let i = counted_single (Wrote c.args.at c.args.word) (PpWrite c.args.at c.args.word) (a_write c.args.at c.args.word)
    c.self.inside.issues c.self.inside.entries.items _ c.self.invariant.count c.push_reserved.ensures.items in
    record {
      count = i.count;
      run = i.run;
      shortest = shortest_after_single (Wrote c.args.at c.args.word) (PpWrite c.args.at c.args.word)
          (a_write c.args.at c.args.word)
          c.self.inside.entries.items _ c.self.invariant.shortest c.push_reserved.ensures.items;
    }

pub returns-clause-steps : goal.returns-clause-steps
returns-clause-steps c = grind (arith, single_added, a_write)

pub returns-clause-issuing : goal.returns-clause-issuing
returns-clause-issuing c =
    ap ends_issuing (returns-clause-steps c)
    ∙ issuing_no_more (Wrote c.args.at c.args.word) (PpWrite c.args.at c.args.word)
    (a_write c.args.at c.args.word) c.args.self.now.steps
