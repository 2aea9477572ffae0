use Rattle.std.proofs.Common.{rules}
use Rattle.std.proofs.lemmas.List.Elements.{same_from_all_zip}
use Rattle.structures_cells.specs.declared.cell.Cell.{the_lemmas}
use Rattle.structures_cells.proofs.Views.{same_node, same_unbound, same_relationship}
use Rattle.structures_cells.proofs.clone.+copy.Goals as goal

pub copy_other-returns-in_ok-clone-in-Bytes : goal.copy_other-returns-in_ok-clone-in-Bytes
copy_other-returns-in_ok-clone-in-Bytes t c = search (rules, the_lemmas, same_from_all_zip)

pub copy_node-returns : goal.copy_node-returns
copy_node-returns t c = same_node _ c.args.node.now (search rules) c.in_ok-labels.ensures c.in_ok-properties.ensures c.in_ok-element_id.ensures

pub copy_unbound-returns : goal.copy_unbound-returns
copy_unbound-returns t c = same_unbound _ c.args.unbound.now (search rules) (search rules) c.in_ok-properties.ensures c.in_ok-element_id.ensures

pub copy_relationship-returns : goal.copy_relationship-returns
copy_relationship-returns t c = same_relationship _ c.args.relationship.now (search rules) (search rules) (search rules) (search rules) c.in_ok-properties.ensures c.in_ok-element_ids.ensures
