-- The pending instructions as the board and the hopper have them. Source: ours.
use Rattle.std.specs.Prelude.{◌≡◌, ◌≤◌, List, [], ◌∷◌, Some, None}
use Rattle.instructions.specs.Each.{Each}
use Rattle.scoreboard.specs.Answers.{Standing}
use Rattle.hopper.specs.Queue.{Queue}
use Rattle.scoreboard.specs.declared.reservation.Occupancy.{Occupancy}
use Rattle.scoreboard.specs.declared.reservation.Occupancy.TheVariants.{Reserved, Left}
use Rattle.scoreboard.specs.declared.issued.Issued.{Issued}
use Rattle.in_flight.specs.declared.pending.Pending.{Pending}
use Rattle.in_flight.specs.Pending.{reservation_of}
use Rattle.in_flight.specs.Lookup.{waiting}

-- an instruction as the board has it: the number of its reservation, and its reservation
unfoldable pub issued_of : Pending → Issued
issued_of m = record { number = m.number; reservation = reservation_of m }

-- this instruction before the others, unless it is a store that waits in the hopper, which is no longer on the board
unfoldable pub kept_on : Occupancy → List Issued → Issued → List Issued
kept_on (Reserved has_read) rest x = x ∷ rest
kept_on (Left (Some n)) rest x = x ∷ rest
kept_on (Left None) rest x = rest

-- the pending instructions as the board has them, in issue order
unfoldable pub on_board : List Pending → List Issued
on_board [] = []
on_board (m ∷ ms) = kept_on (reservation_of m).occupancy (on_board ms) (issued_of m)

-- the board and the hopper represent exactly these pending instructions
pub record IsTied (ms : List Pending) (queue : Queue) (standing : Standing) : Type 0 where
  -- the board has the instructions that hold a unit and the loads still to return, in issue order
  pub boarded : standing.issued ≡ on_board ms
  -- the hopper has the references that wait in it, in issue order
  pub entered : queue.entered ≡ waiting ms
  -- no instruction's number is above the board's last number
  pub counted : Each (λ m. m.number ≤ standing.last) ms
