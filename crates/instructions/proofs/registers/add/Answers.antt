use Rattle.std.proofs.Common.{◌≡◌, rules, tests, List, [], ◌∷◌, ◌++◌, Option, Some, false, arith, sym, ◌∙◌, ap}
use Rattle.std.specs.List.{list_any}
use Rattle.std.proofs.lemmas.Iterator.{YieldsList-from_slice}
use Rattle.std.proofs.lemmas.Iterator.Search.{any_from_yields_List}
use Rattle.instructions.specs.declared.instr.Reg.{Reg}
use Rattle.instructions.specs.declared.instr.Reg.TheVariants.{B}
use Rattle.instructions.specs.Operands.{with_source, reg_eq}
use Rattle.instructions.proofs.registers.add.Goals as goal

-- a register that is neither B0 nor in the list
added : (sources new : List Reg) (register : Reg) (given : Option Reg) → given ≡ Some register
    → reg_eq register (B 0) ≡ false → list_any (reg_eq register) sources ≡ false → new ≡ sources ++ register ∷ []
    → new ≡ with_source sources given
added sources new register given e zero there h = grind arith

pub returns-then-not-is_there-clause-items : goal.returns-then-not-is_there-clause-items
returns-then-not-is_there-clause-items c =
    let h : c.any-is_there.result ≡ list_any (reg_eq c.in-Some.register) c.deref.result.now =
    any_from_yields_List _ _ _ _ c.any-is_there.ensures.ran (YieldsList-from_slice c.deref.result.now cc)
    (λ x b q k. search (rules, tests)) in
    let k : reg_eq c.in-Some.register (B 0) ≡ false = search rules in
    added c.args.sources.now.items _ c.in-Some.register c.args.register c.in-Some.is k
    (ap (list_any (reg_eq c.in-Some.register)) (sym c.deref.ensures.0) ∙ sym h ∙ c.if-not-is_there.true)
    c.push.ensures.items
