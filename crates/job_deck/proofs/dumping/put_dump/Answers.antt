use Rattle.std.specs.List.{flat_map}
use Rattle.device_text.proofs.Putting.{puts_cut, puts_after, puts_last}
use Rattle.job_deck.specs.Dump.{dump_text, state_lines, register_lines, show_lines, log_line}
use Rattle.job_deck.proofs.dumping.put_dump.Goals as goal

pub returns-in_err-put_state : goal.returns-in_err-put_state
unfolding dump_text
returns-in_err-put_state g c =
    puts_cut g.O.Output c.from_residual.result _ c.from_residual.ensures.1 _ _ (state_lines c.args.state.now) _
    c.in_err-put_state.ensures

pub returns-in_err-put_registers : goal.returns-in_err-put_registers
unfolding dump_text
returns-in_err-put_registers g c =
    let residual = c.from_residual-in_err-put_registers in
    puts_after g.O.Output residual.result _ _ _ (state_lines c.args.state.now) _ c.in_ok-put_state.ensures
    (puts_cut g.O.Output residual.result _ residual.ensures.1 _ _ (register_lines c.args.state.now.registers) _
    c.in_err-put_registers.ensures)

pub returns-in_err-put_shows : goal.returns-in_err-put_shows
unfolding dump_text
returns-in_err-put_shows g c =
    let residual = c.from_residual-in_err-put_shows in
    let shows = flat_map (show_lines c.args.state.now.memory) c.args.shows.now in
    puts_after g.O.Output residual.result _ _ _ (state_lines c.args.state.now) _ c.in_ok-put_state.ensures
    (puts_after g.O.Output residual.result _ _ _ (register_lines c.args.state.now.registers) _
    c.in_ok-put_registers.ensures
    (puts_cut g.O.Output residual.result _ residual.ensures.1 _ _ shows _ c.in_err-put_shows.ensures))

pub returns : goal.returns
unfolding dump_text
returns g c =
    let result = c.put_log_line.result in
    let shows = flat_map (show_lines c.args.state.now.memory) c.args.shows.now in
    puts_after g.O.Output result _ _ _ (state_lines c.args.state.now) _ c.in_ok-put_state.ensures
    (puts_after g.O.Output result _ _ _ (register_lines c.args.state.now.registers) _ c.in_ok-put_registers.ensures
    (puts_after g.O.Output result _ _ _ shows _ c.in_ok-put_shows.ensures
    (puts_last g.O.Output result _ _ (log_line c.args.entries.now) c.put_log_line.ensures)))
