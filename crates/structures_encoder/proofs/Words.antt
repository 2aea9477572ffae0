-- What the proofs of this crate cite of other crates, and of what its own source and its definitions name.
pub use Rattle.std.proofs.Common.{Err, FitsSigned, Global, List, Ok, Result, String, Vec, [], ap, append_assoc, arith, drop, false, get_or, length, lit<, map, of_z, pos, refl, rules, string_bytes, subst, suc, sym, take, to_z, true, w64, ℕ, ℤ, ◌*◌, ◌++◌, ◌+◌, ◌-◌, ◌<◌, ◌∙◌, ◌∷◌, ◌≡◌, ◌≤◌}
pub use Rattle.std.proofs.lemmas.List.{append-nil, drop_all, drop_more, get_or_default}
pub use Rattle.std.proofs.lemmas.Result.{on_ok_weaker}
pub use Rattle.std.proofs.lemmas.Str.{IsUtf8-string_bytes}
pub use Rattle.std.specs.Result.{is_ok}
pub use Rattle.packstream.specs.Prelude.{AreNewKeys, ArePlain, AreSound, Entries, HavePlain, HaveSoundValues, IsFirstTwin, IsPlain, IsSound, Tree, Trees, boolean, canon_all, count, depth, dict, entries_depth, entries_of, entry_count, entry_then, float, head, int, int_bytes, is_among, list, names, no_entries, no_trees, null, structure, tree_then, trees_depth, trees_of}
pub use Rattle.packstream.specs.Writing.{Grown}
pub use Rattle.wire.specs.declared.Version.{Version}
pub use Rattle.structures_cells.proofs.Both.{both_true}
pub use Rattle.structures_cells.proofs.Fine.{fine_append, fine_scan}
pub use Rattle.structures_cells.proofs.Views.{node-out, path-out, relationship-out, shape-Dict, shape-Point2D, shape-Point3D, unbound-out}
pub use Rattle.structures_cells.specs.Prelude.{all_fine, entries, fault_of_structure, node_shape, scan, shape, shapes, structures, structures_in, structures_under, text_of, unbound_shape}
pub use Rattle.structures_cells.specs.declared.cell.Cell.{Cell, Dict as DictCase}
pub use Rattle.structures_cells.specs.declared.cell.Path.{out-Path}
pub use Rattle.structures_cells.specs.declared.fault.Reason.{Reason}
pub use Rattle.structures.proofs.Fitted.{form_numbers}
pub use Rattle.structures.specs.Prelude.{form, form_all, form_under}
pub use Rattle.structures_encoder.specs.Adding.{Adds, AddsTree, IsPassed, Opens, Puts, Spells, SpellsAll, SpellsEach, SpellsPairs, dict_of, list_of}
pub use Rattle.structures_encoder.specs.Ready.{AreReady, HaveReady, IsReady}
pub use Rattle.structures_encoder.specs.declared.scope.Inside.TheVariants.{Unchecked}
pub use Rattle.structures_encoder.specs.declared.scope.Scope.{Scope}
