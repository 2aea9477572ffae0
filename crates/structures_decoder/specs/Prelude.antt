-- The words that the source says: those of the crates below, and of this one.
pub use Rattle.packstream.specs.Prelude.{dict_at, inner, int, text, list, trees_of, layer, after, key_at, names, float, list_at, struct_at, IsGood, depth}
pub use Rattle.structures_cells.specs.Prelude.{entries, shape, node_shape, unbound_shape, relationship_shape, path_shape, node_tag, relationship_tag, unbound_tag, path_tag, shapes, IsWritable}
pub use Rattle.structures_cells.specs.Shape.{text_of, texts_of, numbers_of, element_of, elements_of}
pub use Rattle.structures.specs.Form.{form}
pub use Rattle.structures_decoder.specs.Fields.{AreLeft, OpensList, OpensStructure, HasFields}
pub use Rattle.structures_decoder.specs.Fronts.{Takes, IsTaken, PairsTaken, PairJoins, dict_shape, IsRead, CellJoins, list_shape, SpellsFront}
pub use Rattle.packstream.specs.declared.marker.Size.TheVariants.{Here}
