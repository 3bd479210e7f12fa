-- The end of the program: its exit status, and the reasons for ending without its whole output.
-- Source: ours.
use Rattle.std.specs.Prelude.{ℕ, Bool, true, false, Option, Some, None}
use Rattle.instructions.specs.declared.refusal.Halt.{Halt}
use Rattle.instructions.specs.declared.refusal.Halt.TheVariants.{Stop, Illegal, Straddle, FetchRange}
use Rattle.instructions.specs.declared.refusal.Refusal.{Refusal}
use Rattle.instructions.specs.declared.refusal.Refusal.TheVariants as refusals
use Rattle.operator_terms.specs.declared.fault.ProgramFault.{ProgramFault}
use Rattle.operator_terms.specs.declared.fault.ProgramFault.TheVariants as faults
use Rattle.operator_terms.specs.declared.status.Status.{Status}
use Rattle.operator_terms.specs.declared.status.Status.TheVariants.{Stopped, Refused, Usage, Halted, AddressFault}
use Rattle.operator_terms.specs.declared.status.Status.TheVariants.{Running, OutOfMemory, Device}

-- the status for a machine at its end. A fault wins over a halt, and without either the machine still runs
abbrev pub status_of : Bool → Option Halt → Status
status_of true halt = AddressFault
status_of false None = Running
status_of false (Some Stop) = Stopped
status_of false (Some (Illegal op)) = Halted
status_of false (Some Straddle) = Halted
status_of false (Some FetchRange) = Halted

-- the exit status
abbrev pub code_of : Status → ℕ
code_of Stopped = 0
code_of Refused = 1
code_of Usage = 2
code_of Halted = 3
code_of AddressFault = 4
code_of Running = 5
code_of OutOfMemory = 6
code_of Device = 7

-- the fault with which the program ends at this refusal: `E20`, `E19`, `E27`, `E21`, `E22` or `E23`. The other refusals
-- never occur
abbrev pub fault_of : Refusal → ProgramFault
fault_of (refusals.Deck line fault) = faults.Deck line fault
fault_of refusals.PackageRange = faults.PackageRange
fault_of refusals.PeripheralRange = faults.PeripheralRange
fault_of refusals.OutOfMemory = faults.OutOfMemory
fault_of refusals.Read = faults.Read
fault_of refusals.Write = faults.Write
fault_of other = faults.Stuck

-- the status with which the program ends if it prints a fault line
abbrev pub fault_status : ProgramFault → Status
fault_status (faults.Deck line fault) = Refused
fault_status faults.PackageRange = Usage
fault_status faults.PeripheralRange = Usage
fault_status faults.BadLog = Usage
fault_status faults.OutOfMemory = OutOfMemory
fault_status faults.Read = Device
fault_status faults.Write = Device
fault_status faults.Stuck = Running
