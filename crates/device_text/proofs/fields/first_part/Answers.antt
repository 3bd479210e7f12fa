use Rattle.std.proofs.Common.{◌≡◌, ◌∙◌, eqb, rules, tests, sym}
use Rattle.std.specs.List.{position}
use Rattle.std.proofs.lemmas.Iterator.{YieldsList-from_slice}
use Rattle.std.proofs.lemmas.Iterator.Search.{position_from_yields_List}
use Rattle.device_text.proofs.Separators.{split_found, split_missing}
use Rattle.device_text.proofs.fields.first_part.Goals as goal

pub returns-in-Some-clause-parts : goal.returns-in-Some-clause-parts
returns-in-Some-clause-parts c =
    let found : c.position.result ≡ position (λ b. eqb b c.args.separator) c.args.text.now =
    position_from_yields_List (λ b. eqb b c.args.separator) _ _ c.position.result c.position.ensures.ran
    (YieldsList-from_slice c.args.text.now cc) (λ x b q k. search (rules, tests)) in
    split_found c.args.separator c.args.text.now c.in-Some.at (sym found ∙ c.in-Some.is)

pub returns-in-None-clause-parts : goal.returns-in-None-clause-parts
returns-in-None-clause-parts c =
    let missing : c.position.result ≡ position (λ b. eqb b c.args.separator) c.args.text.now =
    position_from_yields_List (λ b. eqb b c.args.separator) _ _ c.position.result c.position.ensures.ran
    (YieldsList-from_slice c.args.text.now cc) (λ x b q k. search (rules, tests)) in
    split_missing c.args.separator c.args.text.now (sym missing ∙ c.in-None.is)
