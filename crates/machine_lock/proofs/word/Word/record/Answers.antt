use Rattle.std.proofs.Common.{sym, ap, ◌∙◌, arith, rules}
use Rattle.atomic_table.specs.Table.{Me}
use Rattle.std.specs.Prelude.{ℕ}
use Rattle.machine_lock.specs.inner.Rules.{Knowing}
use Rattle.machine_lock.proofs.Moves.{adds, hands_back, hands_over, takes_in}
use Rattle.machine_lock.proofs.word.Word.record.Goals as goal

pub split_seat-given-requires : goal.split_seat-given-requires
split_seat-given-requires g c =
    let w = c.args.self.now in
    let o = c.requires.me in
    (o.0 ∙ sym w.named, (omega (arith, w.one)), rw (o.1) (hands_over _ _ _))

pub join_seat-requires : goal.join_seat-requires
join_seat-requires g c =
    let w = c.args.self.now in
    let p = c.requires.pass in
    (p.0 ∙ sym w.named, (search rules), (search rules), (omega (arith, w.one)), takes_in _ _ _ _ (search rules))

pub fetch_add-requires : goal.fetch_add-requires
fetch_add-requires g c =
    let w = c.args.self.now in
    let t = c.join_seat.ensures in
    let keeps = ap (λ (m : Me ℕ Knowing). m.0.keeps) (t.2) ∙ ap (λ (m : Me ℕ Knowing). m.0.keeps) (c.requires.pass.1) in
    let knows = ap (λ (m : Me ℕ Knowing). m.0.knows) (t.2) ∙ ap (λ (m : Me ℕ Knowing). m.0.knows) (c.requires.pass.1) in
    (t.0 ∙ c.requires.pass.0 ∙ sym w.named, (omega (arith, w.one)), adds _ _ _ _ keeps knows)

pub split_seat-requires : goal.split_seat-requires
split_seat-requires g c = let w = c.args.self.now in (search rules, (omega (arith, w.one)), hands_back _ _)
