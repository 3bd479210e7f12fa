-- The end and the output of the program for a request.
-- Source: ours.
use Rattle.std.specs.Prelude.{◌≡◌, ℕ, List, Option, Result, Ok, Err}
use Rattle.instructions.specs.declared.refusal.Refusal.{Refusal}
use Rattle.device_text.specs.Device.{Moves}
use Rattle.deck.specs.Deck.{deck}
use Rattle.job_deck.specs.Listing.{Lists}
use Rattle.job_deck.specs.SessionResult.{Performs}
use Rattle.operator_terms.specs.declared.fault.ProgramFault.{ProgramFault}
use Rattle.operator_terms.specs.declared.status.Status.{Status}
use Rattle.operator_terms.specs.declared.status.Status.TheVariants.{Stopped}
use Rattle.operator_terms.specs.Status.{fault_of}
use Rattle.command_line.specs.declared.arguments.Request.{Request}
use Rattle.command_line.specs.declared.arguments.Request.TheVariants as requests
use Rattle.deck_run.specs.Running.{Runs, EndsSequentialRun, EndsReplay, EndsReplayFollowing}

-- the end of the program after a session or a listing: everything was written, or there was a fault
abbrev pub plain_end : Result (Unit {0}) Refusal → Result Status ProgramFault
plain_end (Ok x) = Ok Stopped
plain_end (Err refusal) = Err (fault_of refusal)

-- the end of the program after a request, the bytes that the request leaves, and its output
abbrev pub CarriesOut : Request → Result Status ProgramFault → List ℕ → List ℕ → Option (List ℕ) → Option (List ℕ)
    → Type 0
CarriesOut (requests.Run budget) end input rest old new = Runs end (deck input) budget rest old new
CarriesOut (requests.RunSequentially budget) end input rest old new =
    EndsSequentialRun end (deck input) budget rest old new
CarriesOut (requests.Replay log) end input rest old new = EndsReplay end (deck input) rest log.now old new
CarriesOut requests.ReplayFollowing end input rest old new = EndsReplayFollowing end (deck input) rest old new
CarriesOut (requests.Events budget) end input rest old new =
    (found : Result (Unit {0}) Refusal) × Performs found budget (deck input) rest old new × (end ≡ plain_end found)
CarriesOut requests.List end input rest old new =
    (found : Result (Unit {0}) Refusal) × Lists found (deck input) rest old new × (end ≡ plain_end found)

-- the program carries out a request, with this end. It reads the deck from these bytes, and appends the request's
-- output to its output. It may have read more bytes than the request needs
pub record Performed (request : Request) (end : Result Status ProgramFault) (input old new : Option (List ℕ))
    : Type 0 where
  -- the bytes that the request doesn't need
  pub rest : Option (List ℕ)
  pub carried_out : Moves input rest (λ xs ys. CarriesOut request end xs ys old new)
