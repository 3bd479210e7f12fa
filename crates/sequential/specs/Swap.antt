-- The exchange: registers and sixteen words of memory are exchanged.
-- Source: 60100000, exchange jump; that a package starts at parcel 0, running, without a fault is ours.
use Rattle.std.specs.Prelude.{ℕ, false, List, None, is_some}
use Rattle.relocation.specs.Relocation.{overwritten}
use Rattle.exchange_package.specs.declared.package.Package.{Package}
use Rattle.exchange_package.specs.Package.{package_in, words_of, words_at}
use Rattle.sequential.specs.declared.state.State.{State}
use Rattle.sequential.specs.Position.{beginning}

-- the package that a state leaves in memory
unfoldable pub package_of : State → Package
package_of s =
    record { p = s.position.p; registers = s.registers; area = s.area; halted = is_some s.halt; fault = s.fault }

-- the state in which an incoming package starts: at parcel 0, running, without a fault
unfoldable pub program_entered : Package → List ℕ → State
program_entered incoming memory = record {
  registers = incoming.registers;
  memory = memory;
  position = beginning incoming.p;
  area = incoming.area;
  halt = None;
  fault = false;
}

-- the exchange at an absolute address; all words are read before any is written
unfoldable pub swap : ℕ → State → State
swap n s = program_entered (package_in (words_at s.memory n)) (overwritten s.memory n (words_of (package_of s)))
