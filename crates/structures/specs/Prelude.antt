-- The words of this crate's definitions, as proofs import them.
pub use Rattle.structures.specs.Form.{typed, typed_all, typed_under, form, Form, to_local, moment, form_all, form_under}
pub use Rattle.structures.specs.Answers.{UnlessMemory, Gave, ReadsForm, ReadsFault, Reads, IsUnpacked, HasGoodForm, HasBadForm, WritesForm, WritesFault, WritesPackFault, Writes, Packs, HasOneReading, HasOneWriting, IsOfPacking}
pub use Rattle.structures.specs.Fitting.{fitted, fitted_by, fitted_all, fitted_under, fitted_entry, element_at, elements_at, Fits}
pub use Rattle.structures.specs.Laying.{AreMade, none_made, then_made, OfKind, any_whole, within_second, within_day, within_offset, within_utc, any_number, any_text, any_labels, any_properties, any_nodes, any_relationships, any_indices, OfKinds, no_kinds, then_kind, Walks, no_steps, then_step, IsShaped, no_path, a_path, HasRow, row_alone, row_with_ids, date_time_fields, IsForm, of_null, of_boolean, of_int, of_float, of_bytes, of_text, of_list, AreForms, of_dict, HaveForms, of_structure, of_local_seconds, no_forms, then_form, no_entry_forms, then_entry_form}
pub use Rattle.structures.specs.Steps.{typed_entry, form_entry, AreEach, with_fields, IsRead, IsSound, AreSound, IsPlainTag, Passes, tree_at, ReadsAs, ReadsAt, Got, Follows}
