-- The refusals that an event, and a call with a token, may have. Source: ours.
use Rattle.std.specs.Prelude.{Bool, true, false, ◌||◌}
use Rattle.instructions.specs.declared.refusal.Refusal.{Refusal}
use Rattle.instructions.specs.declared.refusal.Refusal.TheVariants.{Halted, Faulted, Budget, BranchPending}
use Rattle.instructions.specs.declared.refusal.Refusal.TheVariants.{ExchangeWaiting, FetchWait, UnitBusy}
use Rattle.instructions.specs.declared.refusal.Refusal.TheVariants.{ResultReserved, OperandAwaited, ResultHeld}
use Rattle.instructions.specs.declared.refusal.Refusal.TheVariants.{HopperFull, OutOfTurn, BankBusy, OlderAtAddress}
use Rattle.instructions.specs.declared.refusal.Refusal.TheVariants.{Nothing, Stranger, ExchangeBusy, NotDrained}
use Rattle.instructions.specs.declared.refusal.Refusal.TheVariants.{PackageRange, OutOfMemory, MidWord, PeripheralWait}
use Rattle.instructions.specs.declared.refusal.Refusal.TheVariants.{PeripheralRange}
use Rattle.program_order.specs.declared.event.Event.{Event}
use Rattle.program_order.specs.declared.event.Event.TheVariants.{Issue, Read, Finish, Store, Accept, Return, BankFree}
use Rattle.program_order.specs.declared.event.Event.TheVariants.{Ask, Exchange, PpRead, PpWrite}

-- E1 to E8: the refusals of an issue
unfoldable pub is_issue_refusal : Refusal → Bool
is_issue_refusal (Halted halt) = true
is_issue_refusal Faulted = true
is_issue_refusal Budget = true
is_issue_refusal BranchPending = true
is_issue_refusal ExchangeWaiting = true
is_issue_refusal FetchWait = true
is_issue_refusal (UnitBusy unit) = true
is_issue_refusal (ResultReserved register) = true
is_issue_refusal _ = false

-- E9, operand awaited: the refusal of a read, besides E15
unfoldable pub is_read_refusal : Refusal → Bool
is_read_refusal (OperandAwaited register) = true
is_read_refusal _ = false

-- E10, result held; E11, hopper full; E12, out of turn: the refusals of a store event, besides E15
unfoldable pub is_store_refusal : Refusal → Bool
is_store_refusal (ResultHeld register) = true
is_store_refusal HopperFull = true
is_store_refusal OutOfTurn = true
is_store_refusal _ = false

-- E13, bank busy; E14, older at address: the refusals of an acceptance, besides E15
unfoldable pub is_accept_refusal : Refusal → Bool
is_accept_refusal (BankBusy bank) = true
is_accept_refusal OlderAtAddress = true
is_accept_refusal _ = false

-- E10, result held: the refusal of a load's return, besides E15
unfoldable pub is_return_refusal : Refusal → Bool
is_return_refusal (ResultHeld register) = true
is_return_refusal _ = false

-- E3, budget; E17, exchange busy; E19, package range; E21, out of memory: the refusals of a request
unfoldable pub is_ask_refusal : Refusal → Bool
is_ask_refusal Budget = true
is_ask_refusal ExchangeBusy = true
is_ask_refusal PackageRange = true
is_ask_refusal OutOfMemory = true
is_ask_refusal _ = false

-- E15, nothing; E18, not drained; E25, mid word: the refusals of an exchange
unfoldable pub is_exchange_refusal : Refusal → Bool
is_exchange_refusal Nothing = true
is_exchange_refusal NotDrained = true
is_exchange_refusal MidWord = true
is_exchange_refusal _ = false

-- E3, budget; E26, peripheral waits; E27, peripheral range; E21, out of memory: the refusals of a peripheral access
unfoldable pub is_access_refusal : Refusal → Bool
is_access_refusal Budget = true
is_access_refusal PeripheralWait = true
is_access_refusal PeripheralRange = true
is_access_refusal OutOfMemory = true
is_access_refusal _ = false

-- E15, nothing: there is nothing that the event could act on
unfoldable pub is_nothing : Refusal → Bool
is_nothing Nothing = true
is_nothing _ = false

-- E16, a stranger's token: it is not of the reservation in the slot that it names
unfoldable pub is_stranger : Refusal → Bool
is_stranger Stranger = true
is_stranger _ = false

-- the refusals of an event
unfoldable pub may_refuse : Event → Refusal → Bool
may_refuse Issue k = is_issue_refusal k
may_refuse (Read u) k = is_nothing k || is_read_refusal k
may_refuse (Finish u) k = is_nothing k
may_refuse (Store u) k = is_nothing k || is_store_refusal k
may_refuse (Accept p) k = is_nothing k || is_accept_refusal k
may_refuse (Return c) k = is_nothing k || is_return_refusal k
may_refuse (BankFree b) k = is_nothing k
may_refuse (Ask n) k = is_ask_refusal k
may_refuse Exchange k = is_exchange_refusal k
may_refuse (PpRead a) k = is_access_refusal k
may_refuse (PpWrite a v) k = is_access_refusal k
