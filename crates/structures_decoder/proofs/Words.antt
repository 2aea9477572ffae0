-- What the proofs of this crate cite of other crates, and of what its own source and its definitions name.
pub use Rattle.std.proofs.Common.{Err, IfOk, List, Ok, Option, Result, [], ap, append-nil, append_assoc, arith, get_or, length, take, String, Global, string_bytes, cond, false, map, of_z, refl, rules, subst, suc, sym, to_z, true, w64, ℕ, ℤ, ◌*◌, ◌++◌, ◌+ℤ◌, ◌+◌, ◌-ℤ◌, ◌-◌, ◌<◌, ◌∙◌, ◌∷◌, ◌≡◌, ◌≤◌}
pub use Rattle.std.proofs.Math.Seq.{get_or-append_seam}
pub use Rattle.std.proofs.lemmas.List.{get_or_append_left, length-append, length-map, map_push, take-append-le, take-map, take_at}
pub use Rattle.std.proofs.lemmas.Simd.{map-map}
pub use Rattle.packstream.proofs.Bounds.{good_spelled}
pub use Rattle.packstream.proofs.Complete.{Pairs}
pub use Rattle.packstream.proofs.NextKeys.{new_key}
pub use Rattle.packstream.proofs.Ranges.{bytes_from_each, front_bytes}
pub use Rattle.packstream.proofs.Sound.{sound}
pub use Rattle.packstream.proofs.Steps.{entries_done, inner_more, inner_none, items_done, items_more, items_on}
pub use Rattle.packstream.specs.Prelude.{AreBytes, IsFirstTwin, IsGood, Read, Tree, is_among, Trees, count, depth, dict, entries_of, inner, int, key_at, keys, layer, list, names, no_trees, structure, text, tree_then, trees_of}
unfoldable pub use Rattle.packstream.specs.Prelude.{dict_at, entries_at, items_at, list_at, size_at, struct_at}
pub use Rattle.wire.specs.Prelude.{has_utc_times}
pub use Rattle.wire.specs.declared.Version.{Version}
pub use Rattle.structures_cells.proofs.Both.{both_true}
pub use Rattle.structures_cells.proofs.Fine.{fine_append, scan_fine}
pub use Rattle.structures_cells.proofs.Views.{Pair, node-roll, path-roll, relationship-roll, shape-DateTime, unbound-roll}
pub use Rattle.structures_cells.specs.Prelude.{IsWritable, all_fine, entries, entry, fault_of_structure, node_shape, shape, shapes, structures, structures_in, structures_under, text_of, unbound_shape}
pub use Rattle.structures_cells.specs.declared.cell.Cell.{DateTime, Int as IntCase, the_lemmas}
pub use Rattle.structures.proofs.Fitted.{form_list}
pub use Rattle.structures.proofs.Formed.{back_and_there}
pub use Rattle.structures.specs.Prelude.{date_time_fields as three, form, form_all, form_entry}
pub use Rattle.structures_decoder.specs.Fields.{HasFields, Laid}
pub use Rattle.structures_decoder.specs.Fronts.{CellJoins, IsRead, IsTaken, PairJoins, SpellsFront}
pub use Rattle.structures_decoder.specs.declared.scope.Scope.{Scope}
