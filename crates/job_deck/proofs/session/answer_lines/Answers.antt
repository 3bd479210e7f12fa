use Rattle.std.proofs.Common.{◌+◌, ◌∙◌, sym, arith, rules}
use Rattle.std.proofs.lemmas.Result.{err_from_is_err_and}
use Rattle.std.proofs.Math.Bool.{or-true}
use Rattle.job_deck.proofs.sessions.Sessions.{session_begun, session_on, session_cut, session_ends, session_drains}
use Rattle.job_deck.proofs.sessions.Sessions.{session_refused, session_unread, session_over}
use Rattle.job_deck.proofs.session.answer_lines.Goals as goal

pub loop-number-init : goal.loop-number-init
loop-number-init g c =
    record {
      told = session_begun c.args.machine.now (c.args.before + 1) (g.O.Output.contents c.args.output.now)
          (g.I.Input.remaining c.args.input.now);
      low = search rules;
      same_input = search rules;
      same_output = search rules;
      reads = search rules;
      writes = search rules;
      handed_on = search rules;
      kept = search rules;
    }

pub returns-in_err-read_schedule_line-clause-told : goal.returns-in_err-read_schedule_line-clause-told
returns-in_err-read_schedule_line-clause-told g c =
    let p = err_from_is_err_and c.from_residual.result c.from_residual.ensures.1 in
    rw (p.1, p.2) (session_unread c.args.machine.now (c.args.before + 1) (g.O.Output.contents c.args.output.now) _ _
    (g.I.Input.remaining c.read_schedule_line.new.input) (g.O.Output.contents c.loop-number.output) c.loop-number.number
    c.loop-number.machine c.loop-number.invariant.told c.in_err-read_schedule_line.ensures.part)

pub returns-in-Ends-clause-told : goal.returns-in-Ends-clause-told
returns-in-Ends-clause-told g c =
    session_ends c.args.machine.now (c.args.before + 1) (g.O.Output.contents c.args.output.now) _ _
    (g.I.Input.remaining c.read_schedule_line.new.input) (g.O.Output.contents c.loop-number.output) c.loop-number.number
    c.loop-number.machine c.loop-number.invariant.told (rw c.in-Ends.is at c.in_ok-read_schedule_line.ensures.line)

pub returns-in-Drains-clause-told : goal.returns-in-Drains-clause-told
returns-in-Drains-clause-told g c =
    session_drains c.args.machine.now (c.args.before + 1) (g.O.Output.contents c.args.output.now) _ _
    (g.I.Input.remaining c.read_schedule_line.new.input) (g.O.Output.contents c.loop-number.output) c.loop-number.number
    c.loop-number.machine c.loop-number.invariant.told
    (rw c.in-Drains.is at c.in_ok-read_schedule_line.ensures.line)

pub returns-in-Faulty-clause-told : goal.returns-in-Faulty-clause-told
returns-in-Faulty-clause-told g c =
    rw c.with_line_number.ensures (session_refused c.args.machine.now (c.args.before + 1) (g.O.Output.contents c.args.output.now) _ _
    (g.I.Input.remaining c.read_schedule_line.new.input) (g.O.Output.contents c.loop-number.output) c.loop-number.number
    c.loop-number.machine c.in-Faulty.fault c.loop-number.invariant.told
    (rw c.in-Faulty.is at c.in_ok-read_schedule_line.ensures.line))

pub returns-in_err-make-in-Makes-clause-told : goal.returns-in_err-make-in-Makes-clause-told
returns-in_err-make-in-Makes-clause-told g c =
    let made = c.in_err-make-in-Makes.ensures.made in
    let p = err_from_is_err_and c.from_residual-in_err-make-in-Makes.result
    c.from_residual-in_err-make-in-Makes.ensures.1 in
    rw (p.1, p.2) (session_cut c.args.machine.now (c.args.before + 1) (g.O.Output.contents c.args.output.now) _ _
    (g.I.Input.remaining c.read_schedule_line.new.input) (g.O.Output.contents c.loop-number.output)
    (g.O.Output.contents c.make.new.output) c.loop-number.number c.loop-number.machine c.make.new.machine
    c.in-Makes.event c.loop-number.invariant.told (rw c.in-Makes.is at c.in_ok-read_schedule_line.ensures.line)
    (made.0, made.1, made.2, made.3, made.4.written))

pub returns-in_err-make-in-Makes-clause-write : goal.returns-in_err-make-in-Makes-clause-write
returns-in_err-make-in-Makes-clause-write g c =
    let p = err_from_is_err_and c.from_residual-in_err-make-in-Makes.result
    c.from_residual-in_err-make-in-Makes.ensures.1 in
    rw (p.1, p.2) (c.in_err-make-in-Makes.ensures.made.4.failure ∙ sym (or-true _))

pub returns-in_err-make-in-Makes-clause-output : goal.returns-in_err-make-in-Makes-clause-output
returns-in_err-make-in-Makes-clause-output g c =
    c.in_err-make-in-Makes.ensures.made.4.same ∙ c.loop-number.invariant.same_output

pub loop-number-preserved : goal.loop-number-preserved
loop-number-preserved g c =
    let made = c.in_ok-make-in-Makes.ensures.made in
    record {
      told = session_on c.args.machine.now (c.args.before + 1) (g.O.Output.contents c.args.output.now) _ _
          (g.I.Input.remaining c.read_schedule_line.new.input) (g.O.Output.contents c.loop-number.output)
          (g.O.Output.contents c.make.new.output) c.loop-number.number c.loop-number.machine c.make.new.machine
          c.in-Makes.event c.loop-number.invariant.told (rw c.in-Makes.is at c.in_ok-read_schedule_line.ensures.line)
          (made.0, made.1, made.2, made.3, made.4.written);
      low = search rules;
      same_input = search rules;
      same_output = made.4.same ∙ c.loop-number.invariant.same_output;
      reads = search rules;
      writes = made.4.failure ∙ c.loop-number.invariant.writes;
      handed_on = search rules;
      kept = search rules;
    }

pub returns-clause-told : goal.returns-clause-told
returns-clause-told g c =
    rw c.with_line_number-2.ensures
    (session_over c.args.machine.now (c.args.before + 1) (g.O.Output.contents c.args.output.now) _ _
    (g.O.Output.contents c.loop-number.output) c.loop-number.number c.loop-number.machine (omega arith)
    c.loop-number.invariant.told)
