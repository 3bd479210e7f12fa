use Rattle.std.proofs.Common.{length, take, ◌-◌, ◌≡◌, ◌≤◌, true}
use Rattle.std.specs.Io.KnownBytes.{Appends}
use Rattle.device_text.proofs.output.CheckedWriterOutput.put.Given as goal

-- the writer has taken the bytes so far
abbrev pub invariant-loop-written : goal.invariant-loop-written
invariant-loop-written g l =
    record {
      bound : l.written ≤ length l.bytes;
      told : Appends (g.W.Write.contents l.fn.self.writer.now) (g.W.Write.contents l.self.writer.now)
          (take l.written l.bytes);
      lender : l.self.writer.ghost_name ≡ l.fn.self.writer.ghost_name;
      same : l.self.failed ≡ l.fn.self.failed;
      waiting : l.self.waits ≡ true;
    }

abbrev pub decreases-loop-written : goal.decreases-loop-written
decreases-loop-written g l = length l.bytes - l.written
