use Rattle.std.proofs.Common.{◌≡◌, rules, ap, sym, ◌∙◌, Ok, Err}
use Rattle.std.specs.Io.Buffered.{reader_remaining}
use Rattle.operator_terms.specs.declared.fault.ProgramFault.TheVariants as faults
use Rattle.operator_main.specs.Request.{Performed}
use Rattle.operator_main.proofs.Performing.{fresh_reader, performed, performed_nothing}
use Rattle.operator_main.proofs.Telling.{tells_nothing}
use Rattle.operator_main.proofs.program.perform.Goals as goal

pub returns-in_default : goal.returns-in_default
returns-in_default g c = (
  Err faults.OutOfMemory,
  performed_nothing c.args.request.now (g.R.Read.remaining c.args.input.now) (g.W.Write.contents c.args.output.now),
  c.report.ensures.told,
  c.report.ensures.status,
)

pub returns-in-Ok-ended : goal.returns-in-Ok-ended
returns-in-Ok-ended g c =
    let back : c.into_inner.result.now ≡ c.output-2-1.given.0 = search rules in
    let done : Performed c.args.request.now (Ok c.in-Ok-ended.status) (g.R.Read.remaining c.args.input.now)
    (g.W.Write.contents c.args.output.now) (g.W.Write.contents c.output-2-1.given.0) =
    performed c.args.request.now c.carry_out-ended.result _ (g.R.Read.remaining c.args.input.now)
    (g.W.Write.contents c.args.output.now) _ _ _ _ _
    c.in-Ok-ended.is
    (ap (λ r. reader_remaining (λ i. g.R.Read.remaining i.now) r.now) c.new-input.ensures.reader
    ∙ fresh_reader (λ i. g.R.Read.remaining i.now) c.in-Ok.reader _ c.in-Ok.ensures.inner c.in-Ok.ensures.empty
    c.in-Ok.ensures.capacity)
    (ap (λ r. g.W.Write.contents r.now) c.new-output.ensures.writer)
    (ap (λ r. g.W.Write.contents r.now) (sym c.into_inner.ensures) ∙ ap g.W.Write.contents back)
    c.carry_out-ended.ensures.carried_out in
    (Ok c.in-Ok-ended.status, done, tells_nothing c.args.with_position c.in-Ok-ended.status _, c.code.ensures)

pub returns : goal.returns
returns g c =
    let back : c.into_inner.result.now ≡ c.output-2-1.given.0 = search rules in
    let done : Performed c.args.request.now (Err c.in-Err.fault) (g.R.Read.remaining c.args.input.now)
    (g.W.Write.contents c.args.output.now) (g.W.Write.contents c.output-2-1.given.0) =
    performed c.args.request.now c.carry_out-ended.result _ (g.R.Read.remaining c.args.input.now)
    (g.W.Write.contents c.args.output.now) _ _ _ _ _
    c.in-Err.is
    (ap (λ r. reader_remaining (λ i. g.R.Read.remaining i.now) r.now) c.new-input.ensures.reader
    ∙ fresh_reader (λ i. g.R.Read.remaining i.now) c.in-Ok.reader _ c.in-Ok.ensures.inner c.in-Ok.ensures.empty
    c.in-Ok.ensures.capacity)
    (ap (λ r. g.W.Write.contents r.now) c.new-output.ensures.writer)
    (ap (λ r. g.W.Write.contents r.now) (sym c.into_inner.ensures) ∙ ap g.W.Write.contents back)
    c.carry_out-ended.ensures.carried_out in
    (Err c.in-Err.fault, done, c.report-in-Err.ensures.told, c.report-in-Err.ensures.status)
