use Rattle.std.proofs.Common.{sym, ◌∙◌, arith, rules}
use Rattle.machine_lock.proofs.Moves.{hands_back, hands_over, takes_in}
use Rattle.machine_lock.proofs.word.Word.compare.Goals as goal

pub split_seat-given-requires : goal.split_seat-given-requires
split_seat-given-requires g c =
    let w = c.args.self.now in
    let o = c.requires.me in
    (o.0 ∙ sym w.named, (omega (arith, w.one)), rw (o.1) (hands_over _ _ _))

pub join_seat-requires : goal.join_seat-requires
join_seat-requires g c =
    let w = c.args.self.now in
    let p = c.requires.pass in
    (p.0 ∙ sym w.named, (search rules), (search rules), (omega (arith, w.one)), takes_in _ _ _ _ (search rules))

pub split_seat-requires : goal.split_seat-requires
split_seat-requires g c =
    let w = c.args.self.now in
    (c.look.ensures.pass.0 ∙ sym w.named, (omega (arith, w.one)), hands_back _ _)
