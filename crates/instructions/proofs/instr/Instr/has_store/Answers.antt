use Rattle.std.proofs.Common.{◌∙◌, ap, sym}
use Rattle.std.specs.Prelude.{Some}
use Rattle.instructions.specs.Shape.{shape_of}
use Rattle.instructions.proofs.MemoryUses.{writes, store_used}
use Rattle.instructions.proofs.instr.Instr.has_store.Goals as goal

pub returns-in-None : goal.returns-in-None
returns-in-None c = ap writes (sym c.in-None.is ∙ c.memory.ensures) ∙ store_used (shape_of c.args.self.now)

pub returns-in-Some-Loads : goal.returns-in-Some-Loads
returns-in-Some-Loads c =
    ap writes (ap Some (sym c.in-Some-Loads.field-0-is) ∙ sym c.in-Some-Loads.is ∙ c.memory.ensures)
    ∙ store_used (shape_of c.args.self.now)

pub returns-in-Some-Stores : goal.returns-in-Some-Stores
returns-in-Some-Stores c =
    ap writes (ap Some (sym c.in-Some-Stores.field-0-is) ∙ sym c.in-Some-Stores.is ∙ c.memory.ensures)
    ∙ store_used (shape_of c.args.self.now)

pub returns-in-Some-Links : goal.returns-in-Some-Links
returns-in-Some-Links c =
    ap writes (ap Some (sym c.in-Some-Links.field-0-is) ∙ sym c.in-Some-Links.is ∙ c.memory.ensures)
    ∙ store_used (shape_of c.args.self.now)
