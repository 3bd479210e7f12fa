use Rattle.std.proofs.Common.{take, ◌+◌, drop, sym, take-append-drop, arith}
use Rattle.std.proofs.KnownBytes.{Appends-kept}
use Rattle.device_text.proofs.Moving.{written}
use Rattle.device_text.proofs.output.CheckedWriterOutput.put.Goals as goal

pub loop-written-preserved : goal.loop-written-preserved
loop-written-preserved g c = grind (arith, written)

pub returns-in-Ok-eq0-clause-written : goal.returns-in-Ok-eq0-clause-written
returns-in-Ok-eq0-clause-written g c =
    let bytes = c.args.bytes.now in
    let all = written _ _ (g.W.Write.contents c.write.new.self) bytes c.loop-written.written c.in-Ok-eq0.field-0
    c.loop-written.invariant.told c.in-Ok-eq0.ensures.bytes in (
      drop (c.loop-written.written + c.in-Ok-eq0.field-0) bytes,
      (
        take (c.loop-written.written + c.in-Ok-eq0.field-0) bytes,
        sym (take-append-drop (c.loop-written.written + c.in-Ok-eq0.field-0) bytes),
        all,
      ),
    )

pub returns-in-Err-clause-written : goal.returns-in-Err-clause-written
returns-in-Err-clause-written g c =
    let bytes = c.args.bytes.now in (
      drop c.loop-written.written bytes,
      (
        take c.loop-written.written bytes,
        sym (take-append-drop c.loop-written.written bytes),
        Appends-kept _ _ _ _ c.loop-written.invariant.told c.in-Err.ensures.bytes,
      ),
    )
