use Rattle.std.proofs.Common.{refl, ap, rules}
use Rattle.packstream.specs.Prelude.{tree}
use Rattle.structures_cells.proofs.Faulty.{path_of}
use Rattle.structures_cells.proofs.path.is_shaped_by.Goals as goal

pub returns-then-len-gt0 : goal.returns-then-len-gt0
returns-then-len-gt0 c =
    let w = c.in-List-List-List in
    path_of _ _ _ w.nodes w.relationships w.steps c.len-then-len-gt0.result c.len-then-len-gt0-2.result c.deref.result.now c.walks.result (ap tree w.is-0) (ap tree w.is-1) (ap tree w.is-2) (search rules) (search rules) c.deref.ensures.value (search rules)

pub returns-else-len-gt0 : goal.returns-else-len-gt0
returns-else-len-gt0 c =
    let w = c.in-List-List-List in
    path_of _ _ _ w.nodes w.relationships w.steps c.len.result _ w.steps.items _ (ap tree w.is-0) (ap tree w.is-1) (ap tree w.is-2) (search rules) refl refl (search rules)
