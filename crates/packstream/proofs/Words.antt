-- The words and lemmas of the libraries, and the words of this crate's definitions, that its proofs cite.
pub use Rattle.std.proofs.Common.{is_ok, slice_get, option_map, if◌then◌else◌, ℕ, ◌≤◌, List, ◌∷◌, ◌++◌, subst, arith, inl, inr, ℤ, FitsSigned, w64, ◌≡◌, ◌+◌, ◌<◌, min, Bool, true, false, cond, nat_lt, nat_le, [], length, take, drop, get_or, Option, Some, None, Result, Ok, Err, String, Global, string_bytes, refl, sym, ap, ◌∙◌, zero, suc, append_assoc, IsUtf8, ◌-◌, ◌↔◌, ◌==◌, below_more, ◌≢◌, mod-lt, ◌%◌, replicate, slice_set, nat_eq, add-one, ◌⊎◌, not, ◌||◌, bytes_eq, nat_cmp, ◌*◌, ◌^◌, ◌&&◌, pos, negsuc, int_le, map, Vec, ◌/◌, Fits, w8, slice_index_or, rules, fold}
pub use Rattle.byteorder.specs.Endian.{big_bytes, twos_complement, big_number}
pub use Rattle.byteorder.specs.Numbers.{big_from-append, length-bytes_high_first, big_from-lt, big_from-cons, big_number-reads_back, big_from-take}
pub use Rattle.std.proofs.Math.Seq.{get_or-append_seam, take-length, drop-length}
pub use Rattle.std.proofs.lemmas.Bool.{cases_eq, le-ltb, lt-leb, ltb-false, false_from_ne_true, cases_lt, leb-true, and_parts, ltb-true, cond_both, agree_below_at}
pub use Rattle.std.proofs.lemmas.Bool.Decides.{Decides-eqb, nat_tests}
pub use Rattle.std.proofs.lemmas.Int.{ints}
pub use Rattle.std.proofs.lemmas.List.{get_or_append_left, drop_more, drop_all, map_more, append-nil, take_at, drop_at, length-append, map_push, take-append-drop, length-drop, get_or-map, take-append-le, drop-append-le, get_or-replicate, get_or-set_same, get_or-set_other, length-map, length-set, length-replicate, length-take}
pub use Rattle.std.proofs.lemmas.List.Elements.{same_from_all_zip}
pub use Rattle.std.proofs.lemmas.List.Folds.{list_any-append}
pub use Rattle.std.proofs.lemmas.Map.Text.{is_eq-slice_cmp}
pub use Rattle.std.proofs.lemmas.Nat.{div-mul-add, mod-mul-add}
pub use Rattle.std.proofs.lemmas.Option.{slice_get-get_or, slice_get-map, slice_get_past, slice_get_read}
pub use Rattle.std.proofs.lemmas.Simd.{map-map}
pub use Rattle.std.proofs.lemmas.Slice.Eq.{bytes_eq-Decides, strip_prefix_is}
pub use Rattle.std.proofs.lemmas.Str.{is_utf8-from_IsUtf8, IsUtf8-from_is_utf8, IsUtf8-string_bytes}
pub use Rattle.std.specs.BTreeSet.{UpdatesBy}
pub use Rattle.std.specs.Cmp.Lexicographic.{slice_cmp, nat_list_eq_equiv}
pub use Rattle.std.specs.Int.{byte_at, w16, w32, cast_unsigned}
pub use Rattle.std.specs.Ordering.{is_eq, ordering_then}
pub use Rattle.std.specs.Str.{is_utf8}
pub use Rattle.packstream.specs.Prelude.{Tree, dict, Trees, no_trees, tree_then, Entries, no_entries, entry_then, count, entry_count, tree, trees, trees_of, entries, entries_of, text_bytes, canon, canon_all, canon_entries, Pair, null, Size, Here, After, Marker, boolean, int, float, byte_string, text, list, structure, depth, trees_depth, entries_depth, is_among, AreNewKeys, IsSound, AreSound, HaveSoundValues, width, Begins, IsNumber, IsSize, SpellsText, SpellsTree, SpellsAll, SpellsEntries, Read, keys, Reason, size_len, Place, nests, size_in, keys_of, Opened, in_list, in_struct, at_key, at_value, IsOpened, innermost, AreOpened, entry, names, Width, One, Two, Four, Eight, PackFault, IsGood, AreBytes, Spells, outside, BadFront, Bad, UnlessMemory, only_value, value_and_length, Tells, HasOneAnswer, ReadsBack, IsPlain, ArePlain, HavePlain, SpellsInt, ◌>>=◌, within, Seen, hash, in_place, numbered, is_key, is_other, Knows, IsShortest, needs, text_in, Trails, IsBadAlways, faults_in, faults_in_all, faults_in_entries, stands_before, IsFirstTwin, max_depth}
unfoldable pub use Rattle.packstream.specs.Prelude.{long_head, head, int_bytes, number_at, size_at, int_at, bytes_at, text_at, key_of, key_at, items_at, entries_at, list_at, dict_at, struct_at, form_at, layer, inner, marker, fault_of, fault_at, whole_of, front_of, first_fault, hash_more}
