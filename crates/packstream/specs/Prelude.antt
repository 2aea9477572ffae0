-- The words of this crate's definitions, as proofs import them.
pub use Rattle.packstream.specs.Tree.{float, text, dict, Tree, null, boolean, int, byte_string, list, Trees, Entries, structure, no_trees, tree_then, no_entries, entry_then}
pub use Rattle.packstream.specs.Plain.{AreBytes, IsPlain, ArePlain, HavePlain}
pub use Rattle.packstream.specs.Good.{depth, trees_depth, entries_depth, count, entry_count, is_among, AreNewKeys, IsSound, AreSound, HaveSoundValues, IsGood}
pub use Rattle.packstream.specs.View.{trees_of, entries_of, tree, trees, entry, entries}
pub use Rattle.packstream.specs.Markers.{width, size_len}
unfoldable pub use Rattle.packstream.specs.Markers.{marker}
pub use Rattle.packstream.specs.Reading.{Read, ◌>>=◌, Fails, keys, Gives}
unfoldable pub use Rattle.packstream.specs.Reading.{number_at, int_at, size_at, bytes_at, text_at, items_at, key_of, key_at, entries_at, list_at, dict_at, struct_at, form_at, layer, inner}
pub use Rattle.packstream.specs.Sources.{after}
pub use Rattle.packstream.specs.Hashing.{hash, in_place, numbered, is_key, is_other, Knows}
unfoldable pub use Rattle.packstream.specs.Hashing.{hash_more}
pub use Rattle.packstream.specs.Spelling.{Begins, IsNumber, IsSize, SpellsText, SpellsInt, SpellsTree, SpellsAll, SpellsEntries, Spells}
pub use Rattle.packstream.specs.Faults.{Place, is_text, nests, size_in, needs, text_in, is_repeated, keys_of, Opened, in_list, in_struct, at_key, at_value, IsOpened, key_there, within, innermost, AreOpened, outside, BadFront, Trails, Bad, IsBadAlways}
unfoldable pub use Rattle.packstream.specs.Faults.{fault_of, fault_at}
pub use Rattle.packstream.specs.Answers.{UnlessMemory, only_value, value_and_length, Tells, SpellsOnly, IsBadOnly, HasOneAnswer, ReadsBack, IsFrontAlone}
unfoldable pub use Rattle.packstream.specs.Answers.{whole_of, front_of}
pub use Rattle.packstream.specs.Canon.{text_bytes, canon, canon_all, canon_entries, IsShortest}
unfoldable pub use Rattle.packstream.specs.Canon.{long_head, head, int_bytes}
pub use Rattle.packstream.specs.Making.{own_fault, faults_in, faults_in_all, faults_in_entries, TellsFirst}
unfoldable pub use Rattle.packstream.specs.Making.{first_fault}
pub use Rattle.packstream.specs.Twins.{Pair, names, stands_before, IsFirstTwin}
pub use Rattle.packstream.specs.Limits.{max_depth, max_size}
pub use Rattle.packstream.specs.Writing.{Puts, whole}
pub use Rattle.packstream.specs.declared.fault.Reason.{Reason}
pub use Rattle.packstream.specs.declared.fault.PackFault.{PackFault}
pub use Rattle.packstream.specs.declared.marker.Width.{Width}
pub use Rattle.packstream.specs.declared.marker.Width.TheVariants.{One, Two, Four, Eight}
pub use Rattle.packstream.specs.declared.marker.Size.{Size}
pub use Rattle.packstream.specs.declared.marker.Size.TheVariants.{Here, After}
pub use Rattle.packstream.specs.declared.marker.Marker.{Marker}
pub use Rattle.packstream.specs.declared.places.Seen.{Seen}
