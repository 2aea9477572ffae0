-- What the proofs of this crate cite of other crates, and of what its own source and its definitions name.
pub use Rattle.std.proofs.Common.{sym, refl, ap, ◌≡◌, drop, Ok, ◌∙◌, codes, rules, FitsSigned, to_z, of_z, w64, ℕ, List, ◌++◌, map, Bor, string_bytes, Some, Err, true, take, ◌-◌}
pub use Rattle.std.proofs.Common.{arith, subst, [], ◌∷◌}
pub use Rattle.std.proofs.Common.{Bool, Global, IsErrAnd, IsUtf8, None, Option, Result, String, Vec, append-nil, append_assoc, false, int_le, length, length-append, length-drop, pos, suc, w16, ℤ, ◌+◌}
pub use Rattle.std.proofs.Common.{◌<◌, ◌==◌, ◌≤◌, option_map, MatchBool, ◌↔◌, cond, ◌||◌, Any, Contains, bytes_eq, IfSome, inl, inr, ◌⊎◌, if◌then◌else◌, nat_le, reverse, ◌^◌, decimal, ◌&&◌}
pub use Rattle.std.proofs.Math.Seq.{take-nil}
pub use Rattle.std.proofs.lemmas.Bool.{and_parts, false_from_ne_true, cond_both}
pub use Rattle.std.proofs.lemmas.Bool.Decides.{Decides-eqb, Decides-int_eq}
pub use Rattle.std.proofs.lemmas.Fmt.{IsAscii-decimal, length-decimal-le}
pub use Rattle.std.proofs.lemmas.List.{reverse-append, reverse-reverse, drop-append-le, at_drop_all}
pub use Rattle.std.proofs.lemmas.List.Folds.{Any-from_list_any, list_any-from_Any}
pub use Rattle.std.proofs.lemmas.List.Elements.{All-cons, All-head, All-tail, All-contains, All-from_recursion, Contains-append_right}
pub use Rattle.std.proofs.lemmas.Result.{IfOk-weaker, IfOk-at_ok, on_ok_weaker}
pub use Rattle.std.proofs.lemmas.Slice.Eq.{bytes_eq-Decides, strip_prefix_is}
pub use Rattle.std.proofs.lemmas.Str.{IsUtf8-append, IsUtf8-from_ascii, IsUtf8-string_bytes, IsUtf8-from_is_utf8}
pub use Rattle.std.specs.Int.{to_be_bytes}
pub use Rattle.std.specs.List.{list_any, AllByRecursion}
unfoldable pub use Rattle.std.specs.Str.{is_utf8, chars}
pub use borrow.Author.Tests.{ltb-true, ltb-false}
pub use Rattle.packstream.proofs.Checking.{bad_when, good_when}
pub use Rattle.packstream.proofs.Deciding.{whole_value, whole_fault, no_proper_beginning_is}
pub use Rattle.packstream.proofs.Only.{canon_spells}
pub use Rattle.packstream.proofs.Putting.{len_trees, tree_of_dict}
pub use Rattle.packstream.proofs.Ranges.{fits_pos, fits_neg, bytes_from_each}
pub use Rattle.packstream.specs.Prelude.{Tree, int, text, list, dict, structure, Trees, no_trees, tree_then, Entries, no_entries, entry_then, text_bytes, canon, IsGood, depth}
pub use Rattle.packstream.specs.Prelude.{faults_in, entries_of, count, tree, trees, trees_of, entry_count, IsPlain, HavePlain, canon_all, canon_entries, null, keys_of, AreBytes}
pub use Rattle.packstream.specs.Prelude.{ArePlain, Spells, SpellsTree, Bad, UnlessMemory as PackUnless, entries as value_entries, SpellsText, SpellsEntries}
unfoldable pub use Rattle.packstream.specs.Prelude.{head, first_fault, long_head, int_bytes, marker, items_at, struct_at, form_at, layer, inner, whole_of}
pub use Rattle.packstream.specs.declared.fault.PackFault.{PackFault}
pub use Rattle.packstream.specs.declared.fault.Reason.{Reason as PackReason, Reason}
pub use Rattle.packstream.specs.declared.marker.Size.TheVariants.{Here}
pub use Rattle.packstream.specs.declared.value.Value.{Value, Text as TextCase, the_lemmas, Dict, Struct, Text}
pub use Rattle.wire.proofs.Framed.{reads_items}
pub use Rattle.wire.proofs.Fronts.{nil_left}
pub use Rattle.wire.proofs.Opened.{texts-map, within-map, frames_fronts, offered_length, said_text-map, said_within-map, said_arrives, past_opening}
pub use Rattle.wire.proofs.Proposals.{answer_length}
pub use Rattle.wire.proofs.Readers.{outputs-append}
pub use Rattle.wire.proofs.Runs.{text_of-short}
pub use Rattle.wire.specs.Prelude.{offer_of, wish_version, version_answer, Item, Opening, item_bytes, bytes_in_order, within, CanCome, AllCome, Noop, Message, items_heard}
pub use Rattle.wire.specs.Prelude.{bytes_newest_first, within_newest_first, Spoken, chunks, arrivals as arrived, refusal, Unfinished, fresh, outputs, items_of, messages}
pub use Rattle.wire.specs.Prelude.{hello_has_login, TooBig, Opened, at_server, items_received, at_client, state, has_utc_times, every_version}
unfoldable pub use Rattle.wire.specs.Prelude.{written_run}
pub use Rattle.wire.specs.Versions.{has_logon}
pub use Rattle.wire.specs.declared.Version.{Version}
pub use Rattle.wire.specs.declared.Version.TheVariants.{V44, V50, V51}
pub use Rattle.wire.specs.declared.Wish.{Wish}
pub use Rattle.wire.specs.declared.Wish.TheVariants.{Only, Newest}
pub use Rattle.wire.specs.declared.items.Piece.{Piece}
pub use Rattle.structures_cells.proofs.Fine.{fine_scan}
pub use Rattle.structures_cells.proofs.Views.{shape-Dict, shape-List, Pair}
pub use Rattle.structures_cells.specs.Prelude.{scan, fault as structure_fault, structures, structures_in, structures_under, fault_of_structure, IsWritable, text_of, shape, entries, shapes}
pub use Rattle.structures_cells.specs.declared.cell.Cell.{Cell, Dict as DictCell, List as ListCell}
pub use Rattle.structures_cells.specs.declared.fault.Reason.{Reason as CellReason}
pub use Rattle.structures.proofs.Clauses.{reads_by, writes_by}
pub use Rattle.structures.proofs.Formed.{again, form_is as formed_is, form_of}
pub use Rattle.structures.specs.Prelude.{HasGoodForm, form, typed, typed_all, typed_under, Form, Reads, Writes, form_all, form_under, to_local}
pub use Rattle.structures.specs.declared.fault.CellFault.{CellFault}
pub use Rattle.structures_decoder.specs.Fronts.{SpellsFront}
pub use Rattle.messages.specs.Prelude.{rows_put, value_told, is_token, requests, request_view, request_contents, request_held, responses, response_view, response_contents}
pub use Rattle.messages.specs.Prelude.{response_held, contents_by, form_put, lookup, entries_seen, how_many, all_named, ◌>>=◌, contents_in, named_text, auth_view, token_view}
pub use Rattle.messages.specs.Prelude.{refused, ignored, of_transaction, RECORD, contents}
pub use Rattle.messages.specs.Prelude.{Adds, AddsCells, AddsEntries, Answers, AnswersSpelled, AuthView, BEGIN, Begin, Contents, DISCARD, Discard, FAILURE, Failure, HELLO, Hello, IGNORED, Ignored}
pub use Rattle.messages.specs.Prelude.{IsNone, LOGON, Logoff, Logon, Means, Name, Named, Others, PULL, Pull, PutsRequest, RUN, ReadsMessage, ReadsSpelled, Record, RefusesBytes, RefusesSpelled, Req}
pub use Rattle.messages.specs.Prelude.{RequestView, Resp, ResponseView, Row, Run, SUCCESS, SpellsDict, SpellsEntry, SpellsExtra, SpellsList, SpellsNamed, Success, as_dict, as_list, cell_by, cell_list}
pub use Rattle.messages.specs.Prelude.{cell_of_field, cell_put, cells, contents_of_dict, contents_of_extra, contents_of_login, contents_of_message, contents_of_named, contents_of_number}
pub use Rattle.messages.specs.Prelude.{contents_of_row, contents_of_run, count_number, count_tree, credentials, dict_of_cells, entries_of_dict, error_pairs, extra, field_text, form_by, hello}
pub use Rattle.messages.specs.Prelude.{hello_pairs, list_of_cells, login_pairs, login_trees, mode_front, mode_pairs, mode_tree, no_field, of_cell, of_error, of_texts, one_field, only_dict, packed_by}
pub use Rattle.messages.specs.Prelude.{run_of_result, spelling_of_tree, spelling_within, text_field, three_fields, token_dict, token_tree, transaction_put, value_by, with_dict}
pub use Rattle.messages.specs.Prelude.{Holds, Field, layout, row_in, are_kinds, contents_of_entry, is_named, contents_of_entries, contents_of_fields, IsEntry, absent, here, further, SaysEntry}
pub use Rattle.messages.specs.Prelude.{the_text, reads, writes, writes_unsaid, all_rows, some_rows, of_last, of_last_unsaid, the_token, token_unsaid, metadata_unsaid, SaysNamed, no_more, passed_over}
pub use Rattle.messages.specs.Prelude.{then_named, SaysField, of_text, of_cells, of_list, of_extra, SaysFields, no_fields, then_field, of_row, SaysMessage, IsSpelled, contents_of_mode}
pub use Rattle.messages.specs.Prelude.{contents_of_metadata, IsCell, IsRequest, IsResponse, RequestsReadBack, ResponsesReadBack, of_pack, Gave, UnlessMemory, pairs_of, list_of, Appends, a_text}
pub use Rattle.messages.specs.Prelude.{a_mode, a_count, last_query, a_token, SaysRow, RequestsAreMade, ResponsesAreMade, Shook, Asked, arrival_of_offer, requests_in, arrivals, request_bytes}
pub use Rattle.messages.specs.Prelude.{AreWritten, RequestsArrive, Heard, Chosen, Quiet, Told, heard_version, heard_in, heard_of, heard_bytes, IsSaid, IsSpoken, SaysArrive, SoFarArrives}
pub use Rattle.messages.specs.Prelude.{NoVersionArrives, without_idle, requests_of, ArrivesWhole, End, then_read, taken_in, taken_by, taken, Arrival, server_end, IsLast, ArrivalsGoOn, NothingFollows}
pub use Rattle.messages.specs.Prelude.{client_end, HearsGoOn, IsLastHeard, NothingMoreHeard, Summary, Closing, response_of_summary, IsShort, room, FitsRoom, ReadsBack, Reset, NoMagic, Idle, Unread}
pub use Rattle.messages.specs.Prelude.{Strange, hears}
unfoldable pub use Rattle.messages.specs.Prelude.{request_of, response_of, request_spelling, response_spelling}
pub use Rattle.messages.specs.Sound.{HasTexts}
pub use Rattle.messages.specs.declared.fault.MsgFault.{MsgFault}
pub use Rattle.messages.specs.declared.request.Auth.{Auth}
pub use Rattle.messages.specs.declared.request.Count.{Count}
pub use Rattle.messages.specs.declared.request.Count.TheVariants.{All, Of}
pub use Rattle.messages.specs.declared.request.Mode.{Mode}
pub use Rattle.messages.specs.declared.request.Mode.TheVariants.{Read, Write}
pub use Rattle.messages.specs.declared.request.Request.{Request}
pub use Rattle.messages.specs.declared.response.Response.{Response}
