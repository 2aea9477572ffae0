use Rattle.std.proofs.Common.{◌∙◌, string_bytes, subst, sym}
use Rattle.structures_cells.specs.Shape.{shape}
use Rattle.engine_sqlite.specs.Spelled.{TakesValue}
use Rattle.engine_sqlite.proofs.Spelling.{one_taken}
use Rattle.engine_sqlite.proofs.codec.take_write.Goals as goal

pub returns : goal.returns
returns c =
    let key = subst (λ t. TakesValue t c.args.bytes.now c.in_ok-key.rest.now) (sym c.into_value.ensures ∙ c.in_ok-key-2.ensures) c.in_ok-key.ensures in
    one_taken (string_bytes c.in_ok-key-2.key) (shape c.in_ok-value-2.value) _ _ _ _ c.in_ok-value-2.ensures key c.in_ok-value.ensures
