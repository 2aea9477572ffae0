use Rattle.std.proofs.Common.{sym, ◌∙◌}
use Rattle.structures_cells.specs.Prelude.{shape}
use Rattle.structures_cells.proofs.Equality.{same_tree-Decides}
use Rattle.structures_cells.proofs.comparison.same.Goals as goal

pub returns-clause-equal : goal.returns-clause-equal
returns-clause-equal c =
    let d = same_tree-Decides (shape c.args.one.now) (shape c.args.other.now) in
    (λ h. d.0 (sym c.same_cell.ensures ∙ h), λ h. c.same_cell.ensures ∙ d.1 h)
