use Rattle.std.proofs.Common.{◌≡◌, ◌<◌, ◌≤◌, ◌+◌, ◌^◌, length, All}
use Rattle.deck.specs.Code.{items_of, put_before, parcels_in}
use Rattle.deck.proofs.coding.parcels_in.Given as goal

-- the parcels of all texts are the parcels so far and the parcels of the texts that are left
abbrev pub invariant-loop-after : goal.invariant-loop-after
invariant-loop-after l =
    record {
      told : parcels_in (items_of l.texts) ≡ put_before l.parcels.items (parcels_in (items_of l.left));
      bits : All (λ p. p < 2 ^ 15) l.parcels.items;
      room : length l.parcels.items + length l.left ≤ length l.texts;
    }

abbrev pub decreases-loop-after : goal.decreases-loop-after
decreases-loop-after l = length l.left
