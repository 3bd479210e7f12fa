-- The items sent on a lane and taken from it, as lists in their order. Source: ours.
use Rattle.std.specs.Prelude.{◌≡◌, ◌<◌, Bool, true, false, ◌||◌, List, [], ◌∷◌, ◌++◌, length}
use Rattle.atomic_table.specs.Seated.{TableId}
use Rattle.unit_queue.specs.declared.item.Item.{Item}
use Rattle.unit_queue.specs.declared.item.Item.TheVariants.{Work, Closed}
use Rattle.instructions.specs.declared.instr.Unit.{Unit as FunctionalUnit}

-- the identity of a lane, and its unit
pub record LaneName : Type 0 where
  pub id : TableId
  pub unit : FunctionalUnit

-- a lane's sending end: its lane, what was sent so far, and what had been taken when the last item was sent
pub record SendEnd : Type 0 where
  pub id : TableId
  pub sent : List Item
  pub taken : List Item

-- a lane's taking end: its lane, what was taken so far, and what had been sent when the last item was taken
pub record TakeEnd : Type 0 where
  pub id : TableId
  pub got : List Item
  pub sent : List Item

-- the sending end of this lane, with what was sent and what had been taken
abbrev pub send_end : TableId → List Item → List Item → SendEnd
send_end id sent taken = record { id = id; sent = sent; taken = taken }

-- the taking end of this lane, with what was taken and what had been sent
abbrev pub take_end : TableId → List Item → List Item → TakeEnd
take_end id got sent = record { id = id; got = got; sent = sent }

-- the item says that no more notes come
abbrev pub is_closing : Item → Bool
is_closing (Work note) = false
is_closing Closed = true

-- Closed is among these items
abbrev pub is_closed : List Item → Bool
is_closed [] = false
is_closed (x ∷ xs) = is_closing x || is_closed xs

-- nothing comes after Closed
abbrev pub IsOrderly : List Item → Type 0
IsOrderly [] = Unit {0}
IsOrderly (x ∷ xs) = (is_closing x ≡ true → xs ≡ []) × IsOrderly xs

-- the second list begins with the first
abbrev pub IsBeginning : List Item → List Item → Type 0
IsBeginning first all = (rest : List Item) × (all ≡ first ++ rest)

-- at some moment after the last item was sent, these items waited: they and what had been taken by then are all that
-- was sent
abbrev pub Waited : List Item → List Item → List Item → Type 0
Waited taken sent waiting = (got : List Item) × (sent ≡ got ++ waiting) × IsBeginning taken got

-- the lane was full at some moment after the last item was sent: two items waited
abbrev pub IsFull : SendEnd → Type 0
IsFull e = (waiting : List Item) × (length waiting ≡ 2) × Waited e.taken e.sent waiting

-- when the item was sent, fewer than two waited: they and what had been taken by then are all that was sent before
abbrev pub HadRoom : SendEnd → SendEnd → Type 0
HadRoom old new =
    (waiting : List Item) × (length waiting < 2) × (old.sent ≡ new.taken ++ waiting) × IsBeginning old.taken new.taken

-- the lane was empty at some moment after the last item was taken: all that was sent had been taken
abbrev pub IsEmpty : TakeEnd → Type 0
IsEmpty e = IsBeginning e.sent e.got
