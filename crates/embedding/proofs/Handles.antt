-- A call on the handle of a machine, described by its effect on the machine.
use Rattle.std.specs.Prelude.{◌≡◌, Option, Some}
use Rattle.std.proofs.Common.{sym, subst}
use Rattle.embedding.specs.declared.booted.Booted.{Booted}
use Rattle.embedding.specs.Keeping.{OnMachine}

pub on_machine : (old new : Option Booted) (nothing : Type 0) (done : Booted → Booted → Type 0) (b c : Booted)
    → Some b ≡ old → new ≡ Some c → done b c → OnMachine old new nothing done
on_machine old new nothing done b c same left does =
    subst (λ (o : Option Booted). OnMachine o new nothing done) same
    (subst (λ (n : Option Booted). OnMachine (Some b) n nothing done) (sym left) does)
