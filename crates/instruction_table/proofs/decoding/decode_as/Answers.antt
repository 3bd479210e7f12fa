use Rattle.std.proofs.Common.{◌+◌, ◌*◌, ◌%◌, ◌∙◌, sym, ap, arith}
use Rattle.std.proofs.lemmas.Bool.Decides.{nat_tests}
use Rattle.instruction_table.specs.Decoding.{settled}
use Rattle.instruction_table.proofs.table.DecodingLaws.{read_in_row, whole_parcel, long_settled, straddled}
use Rattle.instruction_table.proofs.decoding.decode_as.Goals.{in-0, in-1, in-2, in-3, in-4, in-5, in-6, in_default}
use Rattle.instruction_table.proofs.decoding.decode_as.Goals.{then-position-lt3, else-position-lt3}
use Rattle.instruction_table.proofs.decoding.decode_as.Goals as goal

pub returns-in-Short-clause-value : goal.returns-in-Short-clause-value
returns-in-Short-clause-value c =
    read_in_row c.args.word c.args.position (c.args.digits * 512 + c.parcel_of-low.result % 512)
    c.if-position-lt3.following c.low-m.result c.low-i.result c.low-j.result c.low-k.result c.from_bits-constant.result
    c.match-parcel-shr12.entry _ (whole_parcel c.args.word c.args.position c.args.digits c.parcel_of-low.result
    c.requires.digits c.parcel_of-low.ensures.value)
    (elim c.if-position-lt3.branch [
      | then-position-lt3 x ↦ grind (arith, nat_tests)
      | else-position-lt3 x ↦ grind (arith, nat_tests)
    ])
    c.low-m.ensures c.low-i.ensures c.low-j.ensures c.low-k.ensures (omega arith)
    (elim c.match-parcel-shr12.branch [
      | in-0 x ↦ (0, x.in-0.is, x.entry-is ∙ x.branch-entry.ensures)
      | in-1 x ↦ (1, x.in-1.is, x.entry-is ∙ x.logical-entry.ensures)
      | in-2 x ↦ (2, x.in-2.is, x.entry-is ∙ x.shift-entry.ensures)
      | in-3 x ↦ (3, x.in-3.is, x.entry-is ∙ x.addition-entry.ensures)
      | in-4 x ↦ (4, x.in-4.is, x.entry-is ∙ x.other-entry.ensures)
      | in-5 x ↦ (5, x.in-5.is, x.entry-is ∙ x.increment-entry.ensures)
      | in-6 x ↦ (6, x.in-6.is, x.entry-is ∙ x.increment-entry-in-6.ensures)
      | in_default x ↦ (7, omega arith, x.entry-is ∙ x.increment-entry-in_default.ensures)
    ])
    (ap (λ e. settled e c.args.position) (sym c.in-Short.is))

pub returns-in-Long-clause-value : goal.returns-in-Long-clause-value
returns-in-Long-clause-value c =
    read_in_row c.args.word c.args.position (c.args.digits * 512 + c.parcel_of-low.result % 512)
    c.if-position-lt3.following c.low-m.result c.low-i.result c.low-j.result c.low-k.result c.from_bits-constant.result
    c.match-parcel-shr12.entry _ (whole_parcel c.args.word c.args.position c.args.digits c.parcel_of-low.result
    c.requires.digits c.parcel_of-low.ensures.value)
    (elim c.if-position-lt3.branch [
      | then-position-lt3 x ↦ grind (arith, nat_tests)
      | else-position-lt3 x ↦ grind (arith, nat_tests)
    ])
    c.low-m.ensures c.low-i.ensures c.low-j.ensures c.low-k.ensures (omega arith)
    (elim c.match-parcel-shr12.branch [
      | in-0 x ↦ (0, x.in-0.is, x.entry-is ∙ x.branch-entry.ensures)
      | in-1 x ↦ (1, x.in-1.is, x.entry-is ∙ x.logical-entry.ensures)
      | in-2 x ↦ (2, x.in-2.is, x.entry-is ∙ x.shift-entry.ensures)
      | in-3 x ↦ (3, x.in-3.is, x.entry-is ∙ x.addition-entry.ensures)
      | in-4 x ↦ (4, x.in-4.is, x.entry-is ∙ x.other-entry.ensures)
      | in-5 x ↦ (5, x.in-5.is, x.entry-is ∙ x.increment-entry.ensures)
      | in-6 x ↦ (6, x.in-6.is, x.entry-is ∙ x.increment-entry-in-6.ensures)
      | in_default x ↦ (7, omega arith, x.entry-is ∙ x.increment-entry-in_default.ensures)
    ])
    (long_settled c.in-Long.instr c.args.position (omega arith)
    ∙ ap (λ e. settled e c.args.position) (sym c.in-Long.is))

pub returns-in-Long-2-clause-value : goal.returns-in-Long-2-clause-value
returns-in-Long-2-clause-value c =
    read_in_row c.args.word c.args.position (c.args.digits * 512 + c.parcel_of-low.result % 512)
    c.if-position-lt3.following c.low-m.result c.low-i.result c.low-j.result c.low-k.result c.from_bits-constant.result
    c.match-parcel-shr12.entry _ (whole_parcel c.args.word c.args.position c.args.digits c.parcel_of-low.result
    c.requires.digits c.parcel_of-low.ensures.value)
    (elim c.if-position-lt3.branch [
      | then-position-lt3 x ↦ grind (arith, nat_tests)
      | else-position-lt3 x ↦ grind (arith, nat_tests)
    ])
    c.low-m.ensures c.low-i.ensures c.low-j.ensures c.low-k.ensures (omega arith)
    (elim c.match-parcel-shr12.branch [
      | in-0 x ↦ (0, x.in-0.is, x.entry-is ∙ x.branch-entry.ensures)
      | in-1 x ↦ (1, x.in-1.is, x.entry-is ∙ x.logical-entry.ensures)
      | in-2 x ↦ (2, x.in-2.is, x.entry-is ∙ x.shift-entry.ensures)
      | in-3 x ↦ (3, x.in-3.is, x.entry-is ∙ x.addition-entry.ensures)
      | in-4 x ↦ (4, x.in-4.is, x.entry-is ∙ x.other-entry.ensures)
      | in-5 x ↦ (5, x.in-5.is, x.entry-is ∙ x.increment-entry.ensures)
      | in-6 x ↦ (6, x.in-6.is, x.entry-is ∙ x.increment-entry-in-6.ensures)
      | in_default x ↦ (7, omega arith, x.entry-is ∙ x.increment-entry-in_default.ensures)
    ])
    (straddled c.in-Long-2.field-0 c.args.position (omega arith)
    ∙ ap (λ e. settled e c.args.position) (sym c.in-Long-2.is))

pub returns-in-Refused-clause-value : goal.returns-in-Refused-clause-value
returns-in-Refused-clause-value c =
    read_in_row c.args.word c.args.position (c.args.digits * 512 + c.parcel_of-low.result % 512)
    c.if-position-lt3.following c.low-m.result c.low-i.result c.low-j.result c.low-k.result c.from_bits-constant.result
    c.match-parcel-shr12.entry _ (whole_parcel c.args.word c.args.position c.args.digits c.parcel_of-low.result
    c.requires.digits c.parcel_of-low.ensures.value)
    (elim c.if-position-lt3.branch [
      | then-position-lt3 x ↦ grind (arith, nat_tests)
      | else-position-lt3 x ↦ grind (arith, nat_tests)
    ])
    c.low-m.ensures c.low-i.ensures c.low-j.ensures c.low-k.ensures (omega arith)
    (elim c.match-parcel-shr12.branch [
      | in-0 x ↦ (0, x.in-0.is, x.entry-is ∙ x.branch-entry.ensures)
      | in-1 x ↦ (1, x.in-1.is, x.entry-is ∙ x.logical-entry.ensures)
      | in-2 x ↦ (2, x.in-2.is, x.entry-is ∙ x.shift-entry.ensures)
      | in-3 x ↦ (3, x.in-3.is, x.entry-is ∙ x.addition-entry.ensures)
      | in-4 x ↦ (4, x.in-4.is, x.entry-is ∙ x.other-entry.ensures)
      | in-5 x ↦ (5, x.in-5.is, x.entry-is ∙ x.increment-entry.ensures)
      | in-6 x ↦ (6, x.in-6.is, x.entry-is ∙ x.increment-entry-in-6.ensures)
      | in_default x ↦ (7, omega arith, x.entry-is ∙ x.increment-entry-in_default.ensures)
    ])
    (ap (λ e. settled e c.args.position) (sym c.in-Refused.is))
