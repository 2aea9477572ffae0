use Rattle.messages.proofs.Words.{Err, refl, shape, tree, reads_by}
use Rattle.messages.proofs.Fields.{told_cell, read_fault_is, told_fault}
use Rattle.messages.proofs.read_parts.cell_in.Goals as goal

pub returns-in_err-read_value : goal.returns-in_err-read_value
returns-in_err-read_value c =
    told_fault _ _ _ _ c.from_residual.ensures.1 (read_fault_is c.args.version (tree c.args.field.now) c.in_err-read_value.field-0.0 (reads_by c.args.version (tree c.args.field.now) (Err c.in_err-read_value.field-0.0) c.in_err-read_value.ensures.cell c.in_err-read_value.ensures.fault c.in_err-read_value.ensures.memory))

pub returns : goal.returns
returns c = told_cell c.args.version (shape c.in_ok-read_value.field-0) (tree c.args.field.now) ((c.in_ok-read_value.ensures.cell (shape c.in_ok-read_value.field-0)).0 refl)
