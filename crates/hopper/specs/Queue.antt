-- The results of a hopper's calls and the hopper after each change, in terms of the list of waiting references in the
-- order in which they entered.
-- Source: Thornton, stunt box; 60100000, central memory.
use Rattle.std.specs.Prelude.{ℕ, Bool, true, false, ◌==◌, if◌then◌else◌, List, [], Option, Some, None, Result, Ok, Err}
use Rattle.std.specs.Prelude.{slice_index_or, slice_set}
use Rattle.std.specs.List.{list_any}
use Rattle.instructions.specs.declared.refusal.Refusal.{Refusal}
use Rattle.instructions.specs.declared.refusal.Refusal.TheVariants.{HopperFull, BankBusy, OlderAtAddress, Nothing}
use Rattle.instructions.specs.Finding.{Found, put_back}
use Rattle.hopper.specs.declared.entered.Entered.{Entered}
use Rattle.hopper.specs.declared.reference.Reference.{Reference}
use Rattle.hopper.specs.Hopper.{bank_of, keep_order, stores_to, free_place}

-- a hopper, as contracts see it
pub record Queue : Type 0 where
  -- the waiting references, in the order in which they entered
  pub entered : List Entered
  -- for each bank by its number, whether it is busy
  pub busy : List Bool

-- ---- places ----

-- the reference is in this place
unfoldable pub stands_at : ℕ → Entered → Bool
stands_at p e = e.place == p

-- the reference, if it is in this place
unfoldable pub reference_at : ℕ → Entered → Option Reference
reference_at p e = if e.place == p then Some e.reference else None

-- a reference is in the place
unfoldable pub is_taken : List Entered → ℕ → Bool
is_taken es p = list_any (stands_at p) es

-- the lowest-numbered free place of the four
unfoldable pub place_for : List Entered → Option ℕ
place_for es = free_place (is_taken es)

-- E11, hopper full: all four places are taken; otherwise the place that the reference takes
unfoldable pub enter_answer : Option ℕ → Result ℕ Refusal
enter_answer None = Err HopperFull
enter_answer (Some p) = Ok p

-- ---- banks ----

-- the waiting reference holds back a later one
unfoldable pub holds_back : Reference → Entered → Bool
holds_back later e = keep_order later.address later.access e.reference.address e.reference.access

-- E15, nothing, if the place is empty; E13, bank busy; E14, older at address, if an older reference holds it back;
-- otherwise the reference
unfoldable pub accept_answer : List Bool → Option (Found Entered Reference) → Result Reference Refusal
accept_answer busy None = Err Nothing
accept_answer busy (Some f) =
    if slice_index_or busy (bank_of f.answer.address) false then Err (BankBusy (bank_of f.answer.address))
    else (if list_any (holds_back f.answer) f.earlier then Err OlderAtAddress else Ok f.answer)

-- the reference has left the hopper, and its bank is busy
unfoldable pub accepted : Queue → Option (Found Entered Reference) → Queue
accepted q None = q
accepted q (Some f) = record { entered = put_back f []; busy = slice_set q.busy (bank_of f.answer.address) true }

-- E15, nothing: the bank isn't busy
unfoldable pub free_answer : List Bool → ℕ → Result (Unit {0}) Refusal
free_answer busy bank = if slice_index_or busy bank false then Ok tt else Err Nothing

-- ---- addresses ----

-- the reference is to an absolute address, load or store
unfoldable pub is_for : ℕ → Entered → Bool
is_for address e = e.reference.address == address

-- the reference stores to an absolute address
unfoldable pub stores_here : ℕ → Entered → Bool
stores_here address e = stores_to address e.reference.address e.reference.access
