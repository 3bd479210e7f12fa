-- The number and the text of each refusal.
-- Source: ours.
use Rattle.std.specs.Prelude.{ℕ, List, codes}
use Rattle.instructions.specs.declared.refusal.Refusal.{Refusal}
use Rattle.instructions.specs.declared.refusal.Refusal.TheVariants as refusals

-- the number and the text of a refusal; the text ends in a space if a name follows it
abbrev pub label_of : Refusal → List ℕ
label_of (refusals.Halted halt) = codes "E1 halted "
label_of refusals.Faulted = codes "E2 faulted"
label_of refusals.Budget = codes "E3 budget"
label_of refusals.BranchPending = codes "E4 branch pending"
label_of refusals.ExchangeWaiting = codes "E5 exchange waiting"
label_of refusals.FetchWait = codes "E6 fetch waits"
label_of (refusals.UnitBusy unit) = codes "E7 unit busy "
label_of (refusals.ResultReserved register) = codes "E8 result reserved "
label_of (refusals.OperandAwaited register) = codes "E9 operand awaited "
label_of (refusals.ResultHeld register) = codes "E10 result held "
label_of refusals.HopperFull = codes "E11 hopper full"
label_of refusals.OutOfTurn = codes "E12 out of turn"
label_of (refusals.BankBusy bank) = codes "E13 bank busy "
label_of refusals.OlderAtAddress = codes "E14 older at address"
label_of refusals.Nothing = codes "E15 nothing"
label_of refusals.Stranger = codes "E16 stranger"
label_of refusals.ExchangeBusy = codes "E17 exchange busy"
label_of refusals.NotDrained = codes "E18 not drained"
label_of refusals.PackageRange = codes "E19 package range"
label_of (refusals.Deck line fault) = codes "E20 line "
label_of refusals.OutOfMemory = codes "E21 out of memory"
label_of refusals.Read = codes "E22 read failed"
label_of refusals.Write = codes "E23 write failed"
label_of refusals.MemorySize = codes "E24 memory size"
label_of refusals.MidWord = codes "E25 mid word"
label_of refusals.PeripheralWait = codes "E26 peripheral waits"
label_of refusals.PeripheralRange = codes "E27 peripheral range"
