use Rattle.std.proofs.Common.{◌≡◌, ◌+◌, ◌<◌, ◌≤◌, false}
use Rattle.device_text.specs.Device.{Moves}
use Rattle.job_deck.proofs.sessions.Sessions.{Has}
use Rattle.job_deck.proofs.session.answer_lines.Given as goal

-- the session has reached this line and this machine, and its answers were written
abbrev pub invariant-loop-number : goal.invariant-loop-number
invariant-loop-number g l =
    record {
      told : Moves (g.I.Input.remaining l.fn.input) (g.I.Input.remaining l.input)
          (Has l.fn.machine (l.fn.before + 1) (g.O.Output.contents l.fn.output) l.number l.machine
          (g.O.Output.contents l.output));
      low : l.number ≤ 10000001;
      same_input : g.I.Input.lender l.input ≡ g.I.Input.lender l.fn.input;
      same_output : g.O.Output.lender l.output ≡ g.O.Output.lender l.fn.output;
      reads : g.I.Input.has_failed l.input ≡ g.I.Input.has_failed l.fn.input;
      writes : g.O.Output.has_failed l.output ≡ g.O.Output.has_failed l.fn.output;
      handed_on : l.fn.before + 1 < l.number → g.O.Output.waits l.output ≡ false;
      kept : g.O.Output.waits l.fn.output ≡ false → g.O.Output.waits l.output ≡ false;
    }
