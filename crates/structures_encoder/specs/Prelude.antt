-- The words that the source says: those of the crates below, and of this one.
pub use Rattle.std.specs.Int.{w64}
pub use Rattle.std.specs.Str.{IsUtf8}
pub use Rattle.byteorder.specs.Endian.{big_bytes}
pub use Rattle.packstream.specs.Prelude.{count, int, structure, no_trees, tree_then, trees_of, head, long_head, int_bytes, text_bytes, AreBytes, canon, IsGood, depth}
pub use Rattle.structures_cells.specs.Prelude.{shape, text_of, element_of, elements_of, node_shape, unbound_shape, relationship_shape, path_shape, date_time_tag, IsWritable}
pub use Rattle.structures.specs.Form.{form}
pub use Rattle.structures_encoder.specs.Adding.{Spells, SpellsAnywhere, Puts, IsPassed, list_of, AddsTree, IsInner, dict_of, Adds, PutsHead}
