use Rattle.std.proofs.Common.{inl, inr}
use Rattle.std.proofs.KnownBytes.{Keeps-refl}
use Rattle.clap.specs.Values.{kind_of}
use Rattle.operator_main.proofs.Telling.{ends_either}
use Rattle.operator_main.proofs.program.program.Goals as goal

pub returns-in-Ok : goal.returns-in-Ok
returns-in-Ok g c =
    let end = c.perform.ensures in (end.0, record { done = inl (c.in-Ok.request, end.1); told = end.2 }, end.3)

pub returns-in-Err : goal.returns-in-Err
returns-in-Err g c =
    let end = ends_either c.args.streams.now.is_at_terminal _ _ _ _ c.report_usage.ensures in (
      end.0,
      record { done = inr (kind_of c.in-Err.error, end.1, Keeps-refl _); told = end.2 },
      end.3,
    )
