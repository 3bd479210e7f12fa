use Rattle.std.proofs.Common.{◌≡◌, map, take}
use Rattle.job_deck.proofs.running.asks_after.Given as goal

-- the requests of the lines before this one
abbrev pub invariant-loop-ask : goal.invariant-loop-ask
invariant-loop-ask l = l.after.items ≡ map (λ ask. (ask.at, ask.after)) (take l.ask-index l.ask-items)
