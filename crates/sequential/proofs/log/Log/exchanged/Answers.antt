use Rattle.std.proofs.Common.{ap, ◌∙◌, arith}
use Rattle.sequential.specs.declared.log.Entry.TheVariants.{Exchange}
use Rattle.sequential.specs.Log.{ends_issuing}
use Rattle.sequential.specs.Replay.{Exchanged}
use Rattle.sequential.proofs.Entries.{an_exchange, single_added, issuing_no_more, counted_single, shortest_after_single}
use Rattle.sequential.proofs.log.Log.exchanged.Goals as goal

pub invariant_of-self : goal.invariant_of-self
invariant_of-self c =
    let i = counted_single (Exchanged c.args.at) (Exchange c.args.at) (an_exchange c.args.at)
    c.self.inside.issues c.self.inside.entries.items _ c.self.invariant.count c.push_reserved.ensures.items in
    record {
      count = i.count;
      run = i.run;
      shortest = shortest_after_single (Exchanged c.args.at) (Exchange c.args.at) (an_exchange c.args.at)
          c.self.inside.entries.items _ c.self.invariant.shortest c.push_reserved.ensures.items;
    }

pub returns-clause-steps : goal.returns-clause-steps
returns-clause-steps c = grind (arith, single_added, an_exchange)

pub returns-clause-issuing : goal.returns-clause-issuing
returns-clause-issuing c =
    ap ends_issuing (returns-clause-steps c)
    ∙ issuing_no_more (Exchanged c.args.at) (Exchange c.args.at) (an_exchange c.args.at) c.args.self.now.steps
