use Rattle.scoreboard.proofs.in_slots.Small.{index_is}
use Rattle.std.proofs.Common.{ap, sym}
use Rattle.in_flight.specs.Lookup.{located}
use Rattle.in_flight.proofs.in_slots.Moving.{unit_read, read_nobody, stage_read, stage_must}
use Rattle.in_flight.proofs.slots.Slots.find_stage.Goals as goal

pub returns-in_default : goal.returns-in_default
unfolding located
returns-in_default c =
    ap located (sym (read_nobody
    (unit_read c.args.unit c.index-self-index.result c.self.invariant c.self.view_is (index_is c.args.unit)
    c.in_default.is)))

pub returns-in-Before : goal.returns-in-Before
returns-in-Before c =
    stage_read c.args.unit
    (unit_read c.args.unit c.index-self-index.result c.self.invariant c.self.view_is (index_is c.args.unit)
    c.in-Some.is) c.in-Before.is

pub returns-in-After : goal.returns-in-After
returns-in-After c = absurd (stage_must c.args.unit
    (unit_read c.args.unit c.index-self-index.result c.self.invariant c.self.view_is (index_is c.args.unit)
    c.in-Some.is) c.in-After.is)
