use Rattle.std.proofs.Common.{Some, ap, sym, ◌∙◌, rules}
use Rattle.in_flight.specs.Lookup.{located, stage_at}
use Rattle.machine.specs.Tokens.{Computation, Seating, ServedReservation}
use Rattle.instructions.specs.Finding.{seek}
use Rattle.machine.proofs.serving_tokens.SlotLaws.{instr_same, is_same, reads_same, same_instr}
use Rattle.machine.proofs.serving.is_reading_of.Goals.{then-number-pending, else-number-pending}
use Rattle.machine.proofs.serving.is_reading_of.Goals as goal

pub returns-then-eq : goal.returns-then-eq
returns-then-eq c = elim c.if-number-pending.branch [
  | then-number-pending w ↦
      let u = ap (λ (s : Seating). s.unit) (c.seat.view_is
      ∙ ap (λ (t : ServedReservation). t.seat) c.token-2.view_is
      ∙ ap (λ (t : Computation). t.seat) c.token.view_is) in
      reads_same c.eq-then-eq.result c.args.token.now
      (seek (stage_at c.args.token.now.seat.unit) c.args.in_flight.now.pending) c.in-Some.field-0.pending
      c.in-Read.operands
      (ap (λ x. located (seek (stage_at x) c.args.in_flight.now.pending)) (sym u) ∙ sym c.find.ensures ∙ c.in-Some.is
      ∙ ap (λ t. Some (record { pending = c.in-Some.field-0.pending; answer = t })) c.in-Read.is)
      (is_same c.args.token.now c.in-Some.field-0.pending.number c.in-Some.field-0.pending.instr c.in-Read.operands
      c.eq-then-eq.result
      (ap (λ (x : Computation). x.number) (sym c.token.view_is)
      ∙ ap (λ (x : ServedReservation). x.number) (sym c.token-2.view_is) ∙ w.if-number-pending.true)
      (ap (λ (x : Computation). x.operands) (sym c.token.view_is)
      ∙ search (rules, w.eq.ensures, w.value-is, c.if-eq.true))
      (λ h. ap (λ (x : Computation). x.instr) (sym c.token.view_is) ∙ same_instr _ _ (sym c.eq-then-eq.ensures ∙ h))
      (λ h. c.eq-then-eq.ensures ∙ instr_same _ _ (ap (λ (x : Computation). x.instr) c.token.view_is ∙ h)))
  | else-number-pending w ↦ search (rules, w.if-number-pending.false)
]
