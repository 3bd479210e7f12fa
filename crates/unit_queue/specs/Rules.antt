-- The rule of a lane: what was taken, followed by what waits, is what was sent, and nothing comes after Closed.
-- Source: ours.
use Rattle.std.specs.Prelude.{◌≡◌, ◌<◌, ℕ, Bool, true, false, List, [], ◌∷◌, ◌++◌, length}
use mathlib.Core.Option.{some}
use lib.ListN.{get_elem?}
use Rattle.unit_queue.specs.declared.item.Item.{Item}
use Rattle.unit_queue.specs.declared.rule.LaneView.{LaneView}
use Rattle.unit_queue.specs.Lanes.{is_closed, IsOrderly, IsBeginning}

-- the knowledge of a pass's holder: whether it sends, whether it takes, what was sent and what was taken
abbrev pub view_of : Bool → Bool → List Item → List Item → LaneView
view_of sends takes sent got = record { sends = sends; takes = takes; sent = sent; got = got }

-- the knowledge of the sending end: what was sent, and what had been taken when the last item was sent
abbrev pub sender : List Item → List Item → LaneView
sender sent taken = view_of true false sent taken

-- the knowledge of the taking end: what was taken, and what had been sent when the last item was taken
abbrev pub taker : List Item → List Item → LaneView
taker got sent = view_of false true sent got

-- the rule for the pass with this number: only the writer's pass sends, and it knows all that was sent; only the
-- reader's pass takes, and it knows all that was taken; what any pass knows of either is a beginning of it
abbrev pub Fits : ℕ → ℕ → List Item → List Item → ℕ → LaneView → Type 0
Fits writer reader sent got port v =
    (v.sends ≡ true → (port ≡ writer) × (v.sent ≡ sent)) × (v.takes ≡ true → (port ≡ reader) × (v.got ≡ got))
    × IsBeginning v.sent sent × IsBeginning v.got got

-- the rule, for the items that wait and the knowledge of each pass
abbrev pub IsKept : List Item → List LaneView → Type 0
IsKept items views =
    (writer : ℕ) × (reader : ℕ) × (sent : List Item) × (got : List Item) × (sent ≡ got ++ items) × IsOrderly sent
    × ((port : ℕ) (v : LaneView) → get_elem? views port ≡ some v → Fits writer reader sent got port v)

-- this item was sent next, while fewer than two waited
abbrev pub IsSent : LaneView → Item → LaneView → Type 0
IsSent v x w =
    (got : List Item) × (w ≡ view_of v.sends v.takes (v.sent ++ x ∷ []) got) × (waiting : List Item)
    × (length waiting < 2) × (v.sent ≡ got ++ waiting) × IsBeginning v.got got

-- this item was taken next, which never happens after Closed
abbrev pub IsTaken : LaneView → Item → LaneView → Type 0
IsTaken v x w =
    (sent : List Item) × (w ≡ view_of v.sends v.takes sent (v.got ++ x ∷ [])) × IsBeginning (v.got ++ x ∷ []) sent
    × IsBeginning v.sent sent × IsOrderly sent × (is_closed v.got ≡ false)
