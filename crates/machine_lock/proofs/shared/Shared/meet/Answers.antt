use Rattle.std.proofs.Common.{ap}
use Rattle.std.specs.Prelude.{ℕ}
use Rattle.atomic_table.specs.Table.{Me}
use Rattle.machine_lock.specs.inner.Rules.{Knowing}
use Rattle.machine_lock.proofs.Laws.{known_by}
use Rattle.machine_lock.proofs.Numbers.{numbers_apart, apart_by}
use Rattle.machine_lock.proofs.shared.Shared.meet.Goals as goal

pub returns-clause-numbers : goal.returns-clause-numbers
returns-clause-numbers g c =
    let m = c.meet.ensures in
    numbers_apart (known_by c.meet.new.one.me) (known_by c.meet.new.other.me)
    (apart_by _ _ _ _ (ap (λ (y : Me ℕ Knowing). y.0.mine) m.one.1) (ap (λ (y : Me ℕ Knowing). y.0.mine) m.other.1)
    m.apart)
