-- The words of this crate's definitions, as proofs import them.
pub use Rattle.structures_cells.specs.Table.{relationship_tag, Row, row, table, row_in, fields_in, fields_at, fields_of, kinds, node_tag, unbound_tag, path_tag, date_time_tag}
pub use Rattle.structures_cells.specs.Same.{same_bool, same_tree, same_trees, same_entries}
pub use Rattle.structures_cells.specs.Shape.{text_of, texts_of, numbers_of, element_of, elements_of, node_step, unbound_step, relationship_step, path_of, path_step, cell_step, shape, node_shape, unbound_shape, relationship_shape, path_shape, shapes, entry, entries}
pub use Rattle.structures_cells.specs.Faults.{is_int, is_text, has_tag, each, is_list_of, is_kind, are_kinds, is_between, in_range, are_in_range, moment_fields, to_utc, utc_fields, is_relationship, is_walk, is_path, first_failed, wrong, fault_by, fault, structures, structures_in, structures_under, next, fault_or_rest, FaultOf, scan, IsFine, IsBad}
pub use Rattle.structures_cells.specs.Writing.{moment_tag, tag_at, fault_of_structure_by, fault_of_structure, IsWritable, IsUnwritable}
pub use Rattle.structures_cells.specs.Cells.{has_count, is_row, is_typed, are_typed, have_typed}
pub use Rattle.structures_cells.specs.Steps.{all_fine, numbers_in_range, range_fault_by, range_fault, walk_fault}
