use Rattle.std.proofs.Common.{rules, ap, ◌∙◌, ◌++◌}
use Rattle.std.specs.List.{filter}
use Rattle.std.proofs.lemmas.List.Sorted.{IsNonDecreasingBy-from_sort_by_key, answers_always}
use Rattle.sequential_run.proofs.requests.in_order.Goals as goal

pub returns : goal.returns
returns c = record {
  in_order = IsNonDecreasingBy-from_sort_by_key (λ ask. ask.1) _ c.in_ok-sort_by_key.ensures.sorted
      (λ a r q k. search rules);
  same = λ x. c.sort_by_key.ensures.stable (λ ask. ask.1) (answers_always _ _ _ (λ f a r g h. search rules)) x
      ∙ ap (filter _) (c.in_ok-extend_from_slice.ensures.items
      ∙ ap (λ l. l ++ c.args.asks.now) c.in_ok-all.ensures.items);
}
