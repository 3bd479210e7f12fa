-- Command lines that ask for nothing that the program does.
use Rattle.std.proofs.Common.{◌≡◌, ◌≢◌, ◌⊎◌, ℕ, List, Option, Result, Ok, Err, refl}
use Rattle.std.proofs.KnownBytes.{Keeps-refl}
use Rattle.clap.specs.declared.error.kind.ErrorKind.{ErrorKind}
use Rattle.clap.specs.declared.error.kind.ErrorKind.TheVariants as kinds
use Rattle.operator_terms.specs.declared.fault.ProgramFault.{ProgramFault}
use Rattle.operator_terms.specs.declared.fault.ProgramFault.TheVariants as faults
use Rattle.operator_terms.specs.declared.status.Status.{Status}
use Rattle.operator_terms.specs.declared.status.Status.TheVariants.{Stopped, Usage}
use Rattle.operator_main.specs.Program.{EndsUnasked}

pub words_refused : (kind : ErrorKind) (old : Option (List ℕ)) → kind ≢ kinds.OutOfMemory → kind ≢ kinds.DisplayHelp
    → kind ≢ kinds.DisplayVersion → EndsUnasked kind (Ok Usage) old old
words_refused kinds.OutOfMemory old a b c = absurd (a refl)
words_refused kinds.DisplayHelp old a b c = absurd (b refl)
words_refused kinds.DisplayVersion old a b c = absurd (c refl)
words_refused other old a b c = (refl, Keeps-refl old)

pub text_printed : (kind : ErrorKind) (end : Result Status ProgramFault) (old new : Option (List ℕ))
    → kind ≢ kinds.OutOfMemory → ¬ ((kind ≢ kinds.DisplayHelp) × (kind ≢ kinds.DisplayVersion))
    → (end ≡ Ok Stopped) ⊎ (end ≡ Err faults.Write) → EndsUnasked kind end old new
text_printed kinds.OutOfMemory end old new a b h = absurd (a refl)
text_printed kinds.DisplayHelp end old new a b h = h
text_printed kinds.DisplayVersion end old new a b h = h
text_printed other end old new a b h = absurd (b (λ e. cc, λ e. cc))
