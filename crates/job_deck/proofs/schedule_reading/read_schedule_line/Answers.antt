use Rattle.job_deck.proofs.sessions.ScheduleLines.{reads_whole, reads_long, reads_nothing}
use Rattle.job_deck.proofs.schedule_reading.read_schedule_line.Goals as goal

pub returns-in-Whole-clause-line : goal.returns-in-Whole-clause-line
returns-in-Whole-clause-line g c =
    let text = rw c.in-Whole.is at c.in_ok-read_line.ensures.text in
    let taken = rw c.in-Whole.is at c.in_ok-read_line.ensures.ok in
    let said = rw c.as_slice.ensures.value at c.parse_schedule_line.ensures in
    reads_whole _ _ c.args.number c.read_line.new.line.items c.parse_schedule_line.result c.requires.count text.0
    text.1 said taken

pub returns-in-Long-clause-line : goal.returns-in-Long-clause-line
returns-in-Long-clause-line g c =
    let text = rw c.in-Long.is at c.in_ok-read_line.ensures.text in
    let taken = rw c.in-Long.is at c.in_ok-read_line.ensures.ok in
    reads_long _ _ c.args.number c.read_line.new.line.items c.requires.count text.0 text.1 taken

pub returns-in-Nothing-clause-line : goal.returns-in-Nothing-clause-line
returns-in-Nothing-clause-line g c =
    let taken = rw c.in-Nothing.is at c.in_ok-read_line.ensures.ok in
    reads_nothing _ _ c.args.number c.read_line.new.line.items c.requires.count taken
