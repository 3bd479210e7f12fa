-- The relation between an earlier and a later instruction in flight. Source: ours.
use Rattle.std.specs.Prelude.{◌≡◌, false, ◌&&◌}
use Rattle.instructions.specs.RegisterLists.{overlap}
use Rattle.in_flight.specs.declared.pending.Pending.{Pending}
use Rattle.in_flight.specs.Pending.{to_come, is_branch, has_turn, is_entered}

-- an earlier pending instruction and a later one: they have no result still to come in common, their references are in
-- turn, and nothing follows a branch
pub record IsApart (e l : Pending) : Type 0 where
  pub disjoint : overlap (to_come l) (to_come e) ≡ false
  -- the later one's reference is not in the hopper before the earlier one's has reached its store event
  pub in_turn : (is_entered l && has_turn e) ≡ false
  -- the earlier one is no branch that still has to reach its store event
  pub no_branch : is_branch e ≡ false
