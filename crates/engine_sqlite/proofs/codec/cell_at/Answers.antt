use Rattle.std.proofs.Common.{refl}
use Rattle.structures_cells.specs.Shape.{shape}
use Rattle.engine_sqlite.proofs.codec.cell_at.Goals as goal

pub returns-in-Ok : goal.returns-in-Ok
returns-in-Ok c = record { version = c.args.version; formed = (c.in-Ok.ensures.cell (shape c.in-Ok.cell)).0 refl; good = c.requires }
