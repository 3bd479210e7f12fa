use Rattle.std.proofs.Common.{rules, arith}
use Rattle.sequential_run.proofs.Choosing.{some_ask, some_free, given, not_given, within_rest}
use Rattle.sequential_run.proofs.fulfilling.are_given.Goals.{else-not-is_ask-via-then-not-is_ask+else-not-is_next_free}
use Rattle.sequential_run.proofs.fulfilling.are_given.Goals.{else-not-is_ask-via-else-not-is_ask}
use Rattle.sequential_run.proofs.fulfilling.are_given.Goals as goal

pub returns-then-not-is_next_free : goal.returns-then-not-is_next_free
returns-then-not-is_next_free c = not_given c.args.in_mid_word c.args.total c.loop-made.last c.in-Some.made.now
    c.loop-made.asks.now c.loop-made.free.now c.loop-made.left.now c.in-Some.more.now _ (search rules)
    c.loop-made.invariant.within (search rules) (search rules) c.loop-made.invariant.same

pub left_of-asks-requires : goal.left_of-asks-requires
left_of-asks-requires c = λ t. some_ask c.loop-made.last c.in-Some.made.now c.loop-made.asks.now c.loop-made.left.now
    c.in-Some.more.now (search rules) (search rules)

pub left_of-free-requires : goal.left_of-free-requires
left_of-free-requires c = grind (arith, some_free)

pub loop-made-preserved : goal.loop-made-preserved
loop-made-preserved c = record {
  same = rw (c.left_of-asks.ensures, c.left_of-free.ensures) (given c.args.in_mid_word c.args.total c.loop-made.last
      c.in-Some.made.now c.loop-made.asks.now c.loop-made.free.now c.loop-made.left.now c.in-Some.more.now _
      c.is_of_ask-is_ask.result (search rules) c.loop-made.invariant.within c.is_of_ask-is_ask.ensures
      (λ f. elim c.else-not-is_ask.branch [
        | else-not-is_ask-via-then-not-is_ask+else-not-is_next_free w ↦ search rules
        | else-not-is_ask-via-else-not-is_ask w ↦ search rules
      ])
      c.loop-made.invariant.same);
  within = within_rest c.args.total c.in-Some.made.now c.loop-made.left.now c.in-Some.more.now (search rules)
      c.loop-made.invariant.within;
}
