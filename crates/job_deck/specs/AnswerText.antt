-- The line of an answer.
-- Source: ours.
use Rattle.std.specs.Prelude.{ℕ, List, [], ◌∷◌, codes, decimal, Some, None, Result, Ok, Err}
use Rattle.std.specs.List.{concat}
use Rattle.word60.specs.Words.{octal_text}
use Rattle.instructions.specs.declared.refusal.Refusal.{Refusal}
use Rattle.instructions.specs.declared.refusal.Refusal.TheVariants as refusals
use Rattle.instructions.specs.Refusals.{label_of}
use Rattle.program_order.specs.declared.event.Done.{Done}
use Rattle.program_order.specs.declared.event.Done.TheVariants.{Issued, Word, Made}
use Rattle.device_text.specs.Names.{register_text, unit_text}
use Rattle.device_text.specs.Pieces.{reason_text}

-- what a refusal names: the reason for a halt, a unit, a register or a bank. No other refusal of an event names
-- anything
abbrev pub named_text : Refusal → List ℕ
named_text (refusals.Halted halt) = reason_text halt
named_text (refusals.UnitBusy unit) = unit_text unit
named_text (refusals.ResultReserved register) = register_text register
named_text (refusals.OperandAwaited register) = register_text register
named_text (refusals.ResultHeld register) = register_text register
named_text (refusals.BankBusy bank) = decimal bank
named_text other = []

-- the line of an answer: `ok`, or the refusal's number, its text and what it names. If an issue made a reservation,
-- `ok` is followed by its unit and number. After a peripheral read, `ok` is followed by the word
abbrev pub answer_line : Result Done Refusal → List ℕ
answer_line (Ok (Issued (Some note))) =
    concat (codes "ok " ∷ unit_text note.unit ∷ codes " " ∷ decimal note.number ∷ codes "\n" ∷ [])
answer_line (Ok (Issued None)) = codes "ok\n"
answer_line (Ok (Word word)) = concat (codes "ok " ∷ octal_text 20 word ∷ codes "\n" ∷ [])
answer_line (Ok Made) = codes "ok\n"
answer_line (Err refusal) = concat (label_of refusal ∷ named_text refusal ∷ codes "\n" ∷ [])
