-- A busy bank is freed; for any other bank the call is refused.
use Rattle.std.proofs.Common.{Bool, sym, ap, ◌∙◌, cond}
use Rattle.std.specs.Prelude.{Result, Ok, Err}
use Rattle.instructions.specs.declared.refusal.Refusal.{Refusal}
use Rattle.instructions.specs.declared.refusal.Refusal.TheVariants.{Nothing}
use Rattle.hopper.specs.Queue.{free_answer}
use Rattle.hopper.proofs.hopper.Hopper.bank_free.Goals as goal

abbrev answered : Bool → Result (Unit {0}) Refusal
answered b = cond b (Ok tt) (Err Nothing)

pub returns-then-is_bank_busy-clause-answer : goal.returns-then-is_bank_busy-clause-answer
unfolding free_answer
returns-then-is_bank_busy-clause-answer c = ap answered (sym c.if-is_bank_busy.true ∙ c.is_bank_busy.ensures)

pub returns-else-is_bank_busy-clause-answer : goal.returns-else-is_bank_busy-clause-answer
unfolding free_answer
returns-else-is_bank_busy-clause-answer c = ap answered (sym c.if-is_bank_busy.false ∙ c.is_bank_busy.ensures)
