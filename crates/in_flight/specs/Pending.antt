-- Pending: the instructions in issue order that have an effect still to come. Source: ours.
use Rattle.std.specs.Prelude.{ℕ, Bool, true, false, ◌||◌, ◌==◌, nat_lt, List, Option, Some, None}
use Rattle.instructions.specs.declared.instr.Reg.{Reg}
use Rattle.relocation.specs.declared.area.Access.{Access}
use Rattle.relocation.specs.declared.area.Access.TheVariants.{Load, Store}
use Rattle.hopper.specs.Hopper.{keep_order, stores_to}
use Rattle.scoreboard.specs.declared.reservation.Occupancy.{Occupancy}
use Rattle.scoreboard.specs.declared.reservation.Occupancy.TheVariants.{Reserved, Left}
use Rattle.scoreboard.specs.declared.reservation.Reservation.{Reservation}
use Rattle.scoreboard.specs.Reservations as reservation
use Rattle.scoreboard.specs.Conflicts as conflict
use Rattle.in_flight.specs.declared.pending.Stage.{Stage}
use Rattle.in_flight.specs.declared.pending.Stage.TheVariants.{Unread, Read, Finished}
use Rattle.in_flight.specs.declared.pending.Outstanding.{Outstanding}
use Rattle.in_flight.specs.declared.pending.Outstanding.TheVariants.{Entered, Accepted}
use Rattle.in_flight.specs.declared.pending.Phase.{Phase}
use Rattle.in_flight.specs.declared.pending.Phase.TheVariants.{Before, After}
use Rattle.in_flight.specs.declared.pending.Pending.{Pending}

-- the instruction was issued before the reservation with this number
unfoldable pub is_before : ℕ → Pending → Bool
is_before number m = nat_lt m.number number

-- ---- the scoreboard's view ----

-- an instruction at this stage has read its operands
unfoldable pub has_read : Stage → Bool
has_read Unread = false
has_read (Read os) = true
has_read (Finished v) = true

-- an instruction at this stage still has to read its operands
unfoldable pub is_unread : Stage → Bool
is_unread Unread = true
is_unread (Read os) = false
is_unread (Finished v) = false

-- an instruction at this stage has its value
unfoldable pub is_finished : Stage → Bool
is_finished Unread = false
is_finished (Read os) = false
is_finished (Finished v) = true

-- the X register to which a load still has to return
unfoldable pub returning : Outstanding → Option ℕ
returning (Entered place a (Load n)) = Some n
returning (Entered place a (Store word)) = None
returning (Accepted n word) = Some n

-- the X register to which the rest still has to return
unfoldable pub left_to_return : Option Outstanding → Option ℕ
left_to_return None = None
left_to_return (Some l) = returning l

-- a phase as the board sees it: whether a unit's instruction has read its operands, or the X register to which it still
-- has to return
unfoldable pub occupancy_of : Phase → Occupancy
occupancy_of (Before t) = Reserved (has_read t)
occupancy_of (After l) = Left (returning l)

-- an instruction as the board sees it
unfoldable pub reservation_of : Pending → Reservation
reservation_of m = record { instr = m.instr; unit = m.unit; occupancy = occupancy_of m.phase }

-- the results of an instruction that are still to come
unfoldable pub to_come : Pending → List Reg
to_come m = reservation.to_come (reservation_of m)

-- the instruction is a branch that holds its unit, Branch
unfoldable pub is_branch : Pending → Bool
is_branch m = reservation.is_branch (reservation_of m)

-- the instruction has a reference that has not reached its store event
unfoldable pub has_turn : Pending → Bool
has_turn m = reservation.has_turn (reservation_of m)

-- the register is a result still to come of one of the instructions
abbrev pub awaited : List Pending → Reg → Bool
awaited ms register = conflict.awaited reservation_of ms register

-- one of the instructions still has to read the register
abbrev pub to_be_read : List Pending → Reg → Bool
to_be_read ms register = conflict.to_be_read reservation_of ms register

-- ---- the hopper's view ----

-- the reference of an instruction in this phase waits in the hopper
unfoldable pub entered_in : Phase → Bool
entered_in (Before t) = false
entered_in (After (Entered place a access)) = true
entered_in (After (Accepted n word)) = false

-- the instruction's reference waits in the hopper
unfoldable pub is_entered : Pending → Bool
is_entered m = entered_in m.phase

-- the reference of an instruction in this phase waits in the hopper, and holds back a later one
unfoldable pub holds_back_in : ℕ → Access → Phase → Bool
holds_back_in address access (Before t) = false
holds_back_in address access (After (Entered place a x)) = keep_order address access a x
holds_back_in address access (After (Accepted n word)) = false

-- the instruction's reference waits in the hopper, and holds back a later one
unfoldable pub holds_back : ℕ → Access → Pending → Bool
holds_back address access m = holds_back_in address access m.phase

-- the reference of an instruction in this phase is to this absolute address, and waits in the hopper
unfoldable pub waits_in : ℕ → Phase → Bool
waits_in address (Before t) = false
waits_in address (After (Entered place a access)) = a == address
waits_in address (After (Accepted n word)) = false

-- a peripheral access to the word at this absolute address waits for the instruction: its reference has not reached its
-- store event, or is to this address and waits in the hopper
unfoldable pub delays_access : ℕ → Pending → Bool
delays_access address m = reservation.has_turn (reservation_of m) || waits_in address m.phase

-- an instruction in this phase is a store to this absolute address that waits in the hopper
unfoldable pub stores_in : ℕ → Phase → Bool
stores_in address (Before t) = false
stores_in address (After (Entered place a access)) = stores_to address a access
stores_in address (After (Accepted n word)) = false

-- a fetch of the word at this absolute address waits for the instruction: it is an SA6 or SA7 that has not reached its
-- store event, or a store to this address that waits in the hopper
unfoldable pub delays_fetch : ℕ → Pending → Bool
delays_fetch address m = reservation.has_store_turn (reservation_of m) || stores_in address m.phase
