use Rattle.std.proofs.Common.{sym, ◌∙◌, arith}
use Rattle.machine_lock.proofs.Moves.{shares}
use Rattle.machine_lock.proofs.word.Word.again.Goals as goal

pub split_seat-requires : goal.split_seat-requires
split_seat-requires g c =
    let w = c.args.self.now in
    (c.requires.pass.0 ∙ sym w.named, (omega (arith, w.one)), shares _ _)
