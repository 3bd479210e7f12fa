use Rattle.std.proofs.Common.{◌≡◌, ◌≢◌, ℕ, List, Option, Some, None, sym, subst, ap, arith}
use Rattle.instructions.specs.declared.instr.Unit.TheVariants.{Boolean}
use Rattle.instructions.specs.Finding.{seek}
use Rattle.in_flight.specs.declared.pending.Pending.{Pending}
use Rattle.in_flight.specs.Lookup.{stage_at}
use Rattle.machine.specs.Instances.{operands_of, token_with}
use Rattle.machine.specs.Tokens.{Reading, reading_in}
use Rattle.machine.proofs.Opened.{on_one_machine}
use Rattle.machine.proofs.instances.a_token_is_of_its_operands.Goals as goal

-- its first operand, if there is a token
first_of : Option Reading → ℕ
first_of None = 0
first_of (Some r) = r.operands.first

pub returns : goal.returns
unfolding on_one_machine first_of
returns c w seat is = subst
    (λ (ms : List Pending). reading_in seat (seek (stage_at Boolean) ms) ≢ Some (token_with seat 1 (operands_of 7)))
    (sym is) (λ same. let e : 5 ≡ 7 = ap first_of same in omega (arith, e))
