-- The end of the program.
-- Source: ours.
use Rattle.std.specs.Prelude.{◌≡◌, ◌⊎◌, ◌≤◌, ℕ, Bool, true, false, List, length, Option, Result, Ok, Err, ⊤}
use Rattle.std.specs.Io.KnownBytes.{Keeps, Appends}
use Rattle.clap.specs.declared.error.kind.ErrorKind.{ErrorKind}
use Rattle.clap.specs.declared.error.kind.ErrorKind.TheVariants as kinds
use Rattle.operator_terms.specs.declared.fault.ProgramFault.{ProgramFault}
use Rattle.operator_terms.specs.declared.fault.ProgramFault.TheVariants as faults
use Rattle.operator_terms.specs.declared.status.Status.{Status}
use Rattle.operator_terms.specs.declared.status.Status.TheVariants.{Stopped, Usage}
use Rattle.operator_terms.specs.Status.{code_of, fault_status}
use Rattle.command_line.specs.declared.arguments.Request.{Request}
use Rattle.operator_main.specs.Request.{Performed}

-- the exit status for this end of the program
abbrev pub exit_code : Result Status ProgramFault → ℕ
exit_code (Ok status) = code_of status
exit_code (Err fault) = code_of (fault_status fault)

-- the end and the output of the program if its words make no request, by the kind of error that `clap` returns. If
-- memory ran out, the end is `E21`, and nothing is printed. If the words ask for help or the version, the end is good,
-- or `E23` if a write of that text failed; which bytes are printed isn't said. At any other kind the words are refused,
-- and nothing is printed
abbrev pub EndsUnasked : ErrorKind → Result Status ProgramFault → Option (List ℕ) → Option (List ℕ) → Type 0
EndsUnasked kinds.OutOfMemory end old new = (end ≡ Err faults.OutOfMemory) × Keeps old new
EndsUnasked kinds.DisplayHelp end old new = (end ≡ Ok Stopped) ⊎ (end ≡ Err faults.Write)
EndsUnasked kinds.DisplayVersion end old new = (end ≡ Ok Stopped) ⊎ (end ≡ Err faults.Write)
EndsUnasked other end old new = (end ≡ Ok Usage) × Keeps old new

-- the length of the longest text for a fault: one line, or two if the position of the fault is shown
abbrev pub most_told : Bool → ℕ
most_told false = 47
most_told true = 237

-- a text of at most this many bytes is appended
abbrev pub TellsAtMost : ℕ → Option (List ℕ) → Option (List ℕ) → Type 0
TellsAtMost most old new = (text : List ℕ) × (length text ≤ most) × Appends old new text

-- the text written to the fault stream, with the position of a fault or without. At a fault it has at most the bytes of
-- the longest such text, and for refused words it is some text. At any other end nothing is written
abbrev pub Tells : Bool → Result Status ProgramFault → Option (List ℕ) → Option (List ℕ) → Type 0
Tells with_position (Err fault) old new = TellsAtMost (most_told with_position) old new
Tells with_position (Ok Usage) old new = ⊤
Tells with_position (Ok status) old new = Keeps old new

-- the exit status is that of an end for which P holds, and the fault stream has the text for that end
abbrev pub EndsWith : Bool → ℕ → (Result Status ProgramFault → Type 0) → Option (List ℕ) → Option (List ℕ) → Type 0
EndsWith with_position status P faults_old faults_new =
    (end : Result Status ProgramFault) × P end × Tells with_position end faults_old faults_new
    × (status ≡ exit_code end)

-- the work of the program before this end, and its text on the fault stream. Either it carries out some request. Or its
-- words make no request, and then it reads nothing. Nothing here says which words make which request
pub record Does (with_position : Bool) (end : Result Status ProgramFault)
    (in_old in_new out_old out_new faults_old faults_new : Option (List ℕ)) : Type 0 where
  pub done : ((request : Request) × Performed request end in_old out_old out_new)
      ⊎ ((kind : ErrorKind) × EndsUnasked kind end out_old out_new × Keeps in_old in_new)
  pub told : Tells with_position end faults_old faults_new

-- the exit status is that of the program's work
abbrev pub ExitsAsItDoes : Bool → ℕ → Option (List ℕ) → Option (List ℕ) → Option (List ℕ) → Option (List ℕ)
    → Option (List ℕ) → Option (List ℕ) → Type 0
ExitsAsItDoes with_position status in_old in_new out_old out_new faults_old faults_new =
    (end : Result Status ProgramFault)
    × Does with_position end in_old in_new out_old out_new faults_old faults_new × (status ≡ exit_code end)
