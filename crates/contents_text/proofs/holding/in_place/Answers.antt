use Rattle.std.proofs.Common.{arith}
use Rattle.contents_text.proofs.Places.{no_reference}
use Rattle.contents_text.proofs.holding.in_place.Goals as goal

pub returns-else-place : goal.returns-else-place
returns-else-place c =
    let above = c.if-place.false in
    no_reference c.args.machine.now c.args.place (c.keeps_limits.ensures.places c.args.place (omega (arith, above)))
