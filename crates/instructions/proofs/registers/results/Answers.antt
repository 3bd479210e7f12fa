-- The registers set at the store event, followed by the register that a load sets at its return.
use Rattle.std.proofs.Common.{rules, ◌≡◌, ◌∙◌, ◌++◌, ◌∷◌, [], ap, sym}
use Rattle.std.specs.Prelude.{option_to_list}
use Rattle.instructions.specs.Shape.{shape_of, loads_of}
use Rattle.instructions.proofs.ResultLists.{results_used, both_listed, one_listed}
use Rattle.instructions.proofs.registers.results.Goals as goal
use Rattle.instructions.proofs.registers.results.Goals.{in-Some, in_default, in-Increment+in-Some-Loads}
use Rattle.instructions.proofs.registers.results.Goals.{in-Increment+in_default-memory, in_default-instr}

pub returns-in-Some-loaded-clause-shape : goal.returns-in-Some-loaded-clause-shape
unfolding shape_of loads_of
returns-in-Some-loaded-clause-shape c =
    let loads : loads_of (shape_of c.args.instr.now) ≡ option_to_list c.match-instr.loaded =
    elim c.match-instr.branch [
      | in-Increment+in-Some-Loads w ↦ search rules
      | in-Increment+in_default-memory w ↦ search rules
      | in_default-instr w ↦ search rules
    ] in
    both_listed (shape_of c.args.instr.now) c.sets.result c.match-instr.loaded c.push-in-Some-loaded.new.self.items
    c.sets.ensures loads
    (c.push-in-Some-loaded.ensures.items ∙ ap (λ l. l ++ c.in-Some-loaded.register ∷ [])
    (elim c.match-sets.branch [ in-Some w ↦ search rules | in_default w ↦ search rules ])
    ∙ ap (λ o. option_to_list c.sets.result ++ option_to_list o) (sym c.in-Some-loaded.is))

pub returns-in-Some-loaded-clause-uses : goal.returns-in-Some-loaded-clause-uses
returns-in-Some-loaded-clause-uses c = returns-in-Some-loaded-clause-shape c ∙ results_used c.args.instr.now

pub returns-in_default-loaded-clause-shape : goal.returns-in_default-loaded-clause-shape
unfolding shape_of loads_of
returns-in_default-loaded-clause-shape c =
    let loads : loads_of (shape_of c.args.instr.now) ≡ option_to_list c.match-instr.loaded =
    elim c.match-instr.branch [
      | in-Increment+in-Some-Loads w ↦ search rules
      | in-Increment+in_default-memory w ↦ search rules
      | in_default-instr w ↦ search rules
    ] in
    both_listed (shape_of c.args.instr.now) c.sets.result c.match-instr.loaded c.match-sets.results.items
    c.sets.ensures loads
    ((elim c.match-sets.branch [ in-Some w ↦ search rules | in_default w ↦ search rules ]) ∙ one_listed c.sets.result
    ∙ ap (λ o. option_to_list c.sets.result ++ option_to_list o) (sym c.in_default-loaded.is))

pub returns-in_default-loaded-clause-uses : goal.returns-in_default-loaded-clause-uses
returns-in_default-loaded-clause-uses c = returns-in_default-loaded-clause-shape c ∙ results_used c.args.instr.now
