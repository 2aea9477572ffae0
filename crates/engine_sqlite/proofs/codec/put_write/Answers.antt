use Rattle.std.proofs.Common.{string_bytes}
use Rattle.structures_cells.specs.Shape.{shape}
use Rattle.engine_sqlite.proofs.Spelling.{one_write}
use Rattle.engine_sqlite.proofs.codec.put_write.Goals as goal

pub returns : goal.returns
returns c =
    one_write (string_bytes c.args.write.now.key) (shape c.args.write.now.value) _ _ _ _ c.in_ok-value.ensures c.in_ok-put_key.ensures c.in_ok-put.ensures
