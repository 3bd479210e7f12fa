use Rattle.std.proofs.Common.{◌≡◌, ◌≢◌, rules, refl, Ok, Err, inl, inr}
use Rattle.std.proofs.KnownBytes.{Keeps-refl}
use Rattle.clap.specs.Values.{kind_of}
use Rattle.clap.specs.declared.error.kind.ErrorKind.TheVariants as kinds
use Rattle.operator_terms.specs.declared.fault.ProgramFault.TheVariants as faults
use Rattle.operator_terms.specs.declared.status.Status.TheVariants.{Stopped, Usage}
use Rattle.operator_main.proofs.Unasked.{words_refused, text_printed}
use Rattle.operator_main.proofs.program.report_usage.Goals as goal

pub returns-then-eq : goal.returns-then-eq
returns-then-eq g c =
    let same : kind_of c.args.error ≡ kinds.OutOfMemory = search rules in (
      Err faults.OutOfMemory,
      rw same (refl, Keeps-refl _),
      c.report_fault.ensures.told,
      c.report_fault.ensures.status,
    )

pub returns-then-use_stderr : goal.returns-then-use_stderr
returns-then-use_stderr g c =
    let other : kind_of c.args.error ≢ kinds.OutOfMemory = search rules in
    let help : kind_of c.args.error ≢ kinds.DisplayHelp = search rules in
    let version : kind_of c.args.error ≢ kinds.DisplayVersion = search rules in
    (Ok Usage, words_refused (kind_of c.args.error) _ other help version, tt, c.code.ensures)

pub returns-in-Ok : goal.returns-in-Ok
returns-in-Ok g c =
    let kind = kind_of c.args.error in
    let other : kind_of c.args.error ≢ kinds.OutOfMemory = search rules in
    let shown : ¬ ((kind_of c.args.error ≢ kinds.DisplayHelp) × (kind_of c.args.error ≢ kinds.DisplayVersion)) =
    search rules in
    (Ok Stopped, text_printed kind (Ok Stopped) _ _ other shown (inl refl), Keeps-refl _, c.code-in-Ok.ensures)

pub returns : goal.returns
returns g c =
    let kind = kind_of c.args.error in
    let other : kind_of c.args.error ≢ kinds.OutOfMemory = search rules in
    let shown : ¬ ((kind_of c.args.error ≢ kinds.DisplayHelp) × (kind_of c.args.error ≢ kinds.DisplayVersion)) =
    search rules in (
      Err faults.Write,
      text_printed kind (Err faults.Write) _ _ other shown (inr refl),
      c.report_fault-in-Err.ensures.told,
      c.report_fault-in-Err.ensures.status,
    )
