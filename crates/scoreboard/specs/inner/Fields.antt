-- Queries of the fields of a board, and changes of the fields. A slot is the field of one unit or of one load channel.
-- Source: Thornton, scoreboard; docs/machine/rules.md compares the fields with his.
use Rattle.std.specs.Prelude.{ℕ, Bool, false, ◌&&◌, ◌||◌, nat_lt, List, [], ◌∷◌, Option, Some, None, map}
use Rattle.std.specs.Prelude.{slice_index_or}
use Rattle.instructions.specs.declared.instr.Unit.TheVariants.{Increment1, Increment2}
use Rattle.scoreboard.specs.declared.reservation.Reservation.{Reservation}
use Rattle.scoreboard.specs.Units.{unit_number}
use Rattle.scoreboard.specs.declared.writer.Writer.{Writer}
use Rattle.scoreboard.specs.Writers.{forget}
use Rattle.instructions.specs.declared.instr.Reg.{Reg}
use Rattle.instructions.specs.declared.instr.Unit.{Unit as FunctionalUnit}
use Rattle.scoreboard.specs.Reservations.{reads_it, has_turn}
use Rattle.scoreboard.specs.declared.issued.Issued.{Issued}

-- the slot has an instruction, and it meets the test
unfoldable pub slot_is : (Reservation → Bool) → Option Issued → Bool
slot_is test None = false
slot_is test (Some x) = test x.reservation

-- the slot has an instruction with a lower number that has yet to read the register
unfoldable pub slot_reads : ℕ → Reg → Option Issued → Bool
slot_reads n r None = false
slot_reads n r (Some x) = nat_lt x.number n && reads_it r x.reservation

-- the slot has an instruction with a lower number whose reference has not yet had its store event
unfoldable pub slot_has_turn : ℕ → Option Issued → Bool
slot_has_turn n None = false
slot_has_turn n (Some x) = nat_lt x.number n && has_turn x.reservation

-- the first register with a writer; the writers are in the order of the registers
unfoldable pub first_produced : List Reg → List (Option Writer) → Option Reg
first_produced [] ps = None
first_produced (r ∷ rs) [] = None
first_produced (r ∷ rs) (None ∷ ps) = first_produced rs ps
first_produced (r ∷ rs) (Some w ∷ ps) = Some r

-- the content of the unit's slot
abbrev pub slot_at : List (Option Issued) → FunctionalUnit → Option Issued
slot_at units unit = slice_index_or units (unit_number unit) None

-- the slot of an Increment unit meets the test
abbrev pub in_increment : (Option Issued → Bool) → List (Option Issued) → Bool
in_increment test units = test (slot_at units Increment1) || test (slot_at units Increment2)

-- the producers without this writer; those of a free unit are unchanged
unfoldable pub forget_in_taken : Writer → List (Option Issued) → List (List (Option Writer))
    → List (List (Option Writer))
forget_in_taken w [] pss = pss
forget_in_taken w (o ∷ os) [] = []
forget_in_taken w (None ∷ os) (ps ∷ pss) = ps ∷ forget_in_taken w os pss
forget_in_taken w (Some x ∷ os) (ps ∷ pss) = map (forget w) ps ∷ forget_in_taken w os pss
