-- The first register with a writer, among the pairs of both.
use Rattle.std.proofs.Common.{rules, tests, ap, sym, ◌∙◌, Some, None}
use Rattle.std.specs.Prelude.{is_some, option_map}
use Rattle.std.proofs.lemmas.Iterator.{YieldsList-from_slice, YieldsList-from_zip}
use Rattle.std.proofs.lemmas.Iterator.Search.{find_from_yields_List}
use Rattle.scoreboard.proofs.in_slots.Small.{produced_in_zip}
use Rattle.scoreboard.proofs.fields.first_with_writer.Goals as goal

pub returns-in-Some : goal.returns-in-Some
returns-in-Some c =
    let found = find_from_yields_List (λ p. is_some p.1) c.find.new.self _ _ c.find.ensures.ran
    (YieldsList-from_zip (YieldsList-from_slice c.args.registers.now cc)
    (YieldsList-from_slice c.args.writers.now cc)) (λ x b q k. search (rules, tests)) in
    produced_in_zip c.args.registers.now c.args.writers.now (Some (c.in-Some.register.now, c.in-Some.field-0-1.now))
    (sym (ap (option_map (λ p. (p.0.now, p.1.now))) c.in-Some.is) ∙ found)

pub returns-in-None : goal.returns-in-None
returns-in-None c =
    let found = find_from_yields_List (λ p. is_some p.1) c.find.new.self _ _ c.find.ensures.ran
    (YieldsList-from_zip (YieldsList-from_slice c.args.registers.now cc)
    (YieldsList-from_slice c.args.writers.now cc)) (λ x b q k. search (rules, tests)) in
    produced_in_zip c.args.registers.now c.args.writers.now None
    (sym (ap (option_map (λ p. (p.0.now, p.1.now))) c.in-None.is) ∙ found)
