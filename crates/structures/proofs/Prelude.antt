-- The words and lemmas of the crates below, and the words of this one, as its proofs import them.
pub use Rattle.packstream.specs.declared.value.Value.{Int as IntValue, the_lemmas as value_lemmas, Value, List as ListValue, Dict as DictValue, Struct as StructValue}
pub use Rattle.packstream.specs.declared.fault.Reason.{Reason as PackReason}
pub use Rattle.packstream.specs.Prelude.{Tree, list, dict, structure, Trees, no_trees, tree_then, Entries, no_entries, entry_then, count, is_among, own_fault, faults_in, faults_in_all, faults_in_entries, int, tree, trees_of, entries_of, null, trees, entries as seen_entries, IsGood, float, text, boolean, byte_string, entry as seen_entry}
pub use Rattle.packstream.proofs.Views.{tree-List, tree-Dict, tree-Struct}
pub use Rattle.packstream.proofs.Putting.{len_trees}
pub use Rattle.wire.specs.declared.Version.{Version}
pub use Rattle.wire.specs.declared.Version.TheVariants.{V50, V51, V44}
pub use Rattle.wire.specs.Prelude.{every_version, has_element_ids, has_utc_times}
pub use Rattle.wire.specs.Versions.{lacks}
pub use Rattle.structures_cells.specs.declared.table.Field.{Field}
pub use Rattle.structures_cells.specs.declared.table.Field.TheVariants.{Integer, Text, Labels, Properties, Nanosecond, DayNanosecond, Offset, UtcSecond, Float, Nodes, Relationships, Indices}
pub use Rattle.structures_cells.specs.declared.fault.Reason.{Reason}
pub use Rattle.structures_cells.specs.declared.fault.Reason.TheVariants.{NotInVersion, Range, PathShape, FieldCount, FieldKind, UnknownTag}
pub use Rattle.structures_cells.specs.declared.cell.Cell.{Cell, List as ListCase, Dict as DictCase, Node as NodeCase, Relationship as RelationshipCase, UnboundRelationship as UnboundCase, Path as PathCase, the_lemmas}
pub use Rattle.structures_cells.specs.declared.cell.Path.{Path, out-Path, roll-Path}
pub use Rattle.structures_cells.specs.Prelude.{node_tag, unbound_tag, fault, structures, structures_in, structures_under, all_fine, text_of, texts_of, element_of, elements_of, numbers_of, entries, shape, shapes, node_shape, unbound_shape, relationship_shape, path_shape, path_of, row, row_in, table, fields_in, fields_at, fields_of, kinds, moment_fields, to_utc, each, is_kind, are_kinds, are_in_range, utc_fields, is_path, wrong, fault_by, has_tag, is_list_of, first_failed, scan, IsBad, IsFine, moment_tag, fault_of_structure, fault_of_structure_by, IsWritable, IsUnwritable, Row, is_int, is_text, in_range, is_relationship, is_walk, is_typed, are_typed, have_typed, is_row, has_count, entry}
pub use Rattle.structures_cells.specs.Faults.{is_place}
pub use Rattle.structures_cells.proofs.Both.{and_left, and_right, both_true}
pub use Rattle.structures_cells.proofs.Fine.{fine_scan, fine_itself, fine_within, fine_left, fine_right, fine_member, scan_fine, fine_append, fine_pair}
pub use Rattle.structures_cells.proofs.Faulty.{fault_is, wrong_is}
pub use Rattle.structures_cells.proofs.Typed.{typed_shape, shapes_typed, pairs_typed}
pub use Rattle.structures_cells.proofs.Views.{Pair, node_parts, unbound_parts, relationship_parts, node-out, node-roll, unbound-out, unbound-roll, relationship-out, relationship-roll, path-out, path-roll, shape-List, shape-Dict, shape-Date, shape-Time, shape-LocalTime, shape-LocalDateTime, shape-DateTime, shape-ZonedLocal, shape-ZonedUtc, shape-Duration, shape-Point2D, shape-Point3D}
pub use Rattle.structures.specs.declared.fault.CellFault.{CellFault}
pub use Rattle.structures.specs.Prelude.{Form, IsUnpacked, IsOfPacking, form, form_all, form_under, form_entry, fitted, fitted_all, fitted_under, fitted_by, fitted_entry, element_at, elements_at, typed, typed_all, typed_under, date_time_fields as three, tree_at, Got, Follows, typed_entry, IsSound, AreSound, with_fields, HasOneReading, HasOneWriting, Reads, Writes, HasGoodForm, HasBadForm, Gave, UnlessMemory, Packs, moment, to_local}
