use Rattle.std.proofs.Common.{refl, sym}
use Rattle.std.proofs.lemmas.Result.{err_from_is_err_and}
use Rattle.deck.proofs.Sizes.{core_fault}
use Rattle.deck.proofs.deck.Draft.apply.Goals as goal

pub returns-in_err-memory_size-in-Core : goal.returns-in_err-memory_size-in-Core
returns-in_err-memory_size-in-Core c =
    let p = err_from_is_err_and c.from_residual.result c.from_residual.ensures.1 in
    let said = rw c.in-Core.is at c.parse_line.ensures in
    rw (p.1, p.2) (
      core_fault c.args.self.now c.args.text.now c.in-Core.size.now _ c.requires (sym said)
          c.in_err-memory_size-in-Core.ensures,
      refl,
    )
