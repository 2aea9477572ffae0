-- The words of this crate's definitions, as proofs import them.
pub use Rattle.messages.specs.View.{AuthView, auth_view, auth_in, RequestView, Hello, Logon, Logoff, Goodbye, Reset, Run, Begin, Commit, Rollback, Discard, Pull, ResponseView, Success, Record, Ignored, Failure, token_view, request_view, response_view}
pub use Rattle.messages.specs.Table.{hello, of_error, LOGON, LOGOFF, GOODBYE, RESET, RUN, BEGIN, COMMIT, ROLLBACK, DISCARD, PULL, SUCCESS, RECORD, IGNORED, ignored, FAILURE, Holds, a_text, a_mode, a_count, last_query, a_token, Name, Named, Others, refused, cells, Field, text_field, cell_list, extra, HELLO, Row, credentials, of_transaction, how_many, layout, requests, responses, row_in, run_tag}
pub use Rattle.messages.specs.Faults.{of_pack, of_cell}
pub use Rattle.messages.specs.Reading.{◌>>=◌, contents, Contents, are_kinds, lookup, contents_of_text, contents_of_mode, contents_of_number, is_token, contents_of_token, contents_of_query, contents_of_metadata, contents_of_entry, contents_of_named, is_named, all_named, contents_of_extra, contents_of_entries, cell_by, cell_of_field, contents_of_fields, contents_of_row, row_at, contents_by_row, contents_of_message, mode_tree, count_tree, token_tree, request_contents, response_contents, login_trees, Answers, contents_at_tag, contents_of_count}
pub use Rattle.messages.specs.Parts.{value_told, no_field, one_field, entries_of_dict, only_dict, members_of_list, three_fields, entries_seen, contents_of_login, contents_of_dict, as_dict, as_list, contents_of_run, with_dict, transaction_put, rows_put, mode_pairs, mode_front, token_dict, count_number, named_text, of_texts, login_pairs, hello_pairs, error_pairs, IsKind, contents_of_plain, dict_of_cells, field_text, list_of_cells, found, fields_seen, cells_tree, row_tree, contents_of_transaction, transaction_trees, contents_of_rows}
pub use Rattle.messages.specs.Messages.{SpellsWhere, Means, IsNone, Req, Resp, Gave, UnlessMemory, contents_by, contents_in, pairs_of, list_of, mode_in, token_in, count_in, request_held, response_held, NoRequest, NoResponse, ReadsMessage, RefusesBytes, ReadsSpelled, RefusesSpelled, AnswersSpelled, TellsRequest, TellsResponse, OneAtMost, MessageIsTold, ToldIsMessage, FaultIsTold, ToldIsFault, NoProperBeginning, BeginsNone}
unfoldable pub use Rattle.messages.specs.Messages.{request_of, response_of}
pub use Rattle.messages.specs.Cells.{value_by, form_by, cell_put}
pub use Rattle.messages.specs.Writing.{Onward, with_entry, entry_put, named_put, entries_put, then_put, fields_put, form_put, packed_by, spelling_within, spelling_of_tree, spelling_of_request, spelling_of_response, form_of_request, form_of_response, Appends}
unfoldable pub use Rattle.messages.specs.Writing.{request_spelling, response_spelling}
pub use Rattle.messages.specs.Added.{Adds, AddsEntries, AddsCells}
pub use Rattle.messages.specs.Scanned.{SpellsEntry, SpellsExtra, SpellsRows, SpellsTransaction, SpellsNamed, SpellsDict, SpellsList}
pub use Rattle.messages.specs.Arrivals.{End, then_read, taken_in, taken_by, taken, Arrival, Shook, NoMagic, Idle, Asked, Unread, TooLong, arrival_of_offer, version_shaken, server_end, then_request, requests_in, after_shake, arrivals_of, arrivals, without_idle, too_long, requests_of, ArrivesWhole, run_of_result, request_bytes, IsWritten, PutsRequest, AreWritten, RequestsArrive, ArrivalsGoOn, IsLast, NothingFollows, Heard, Chosen, Strange, Quiet, Told, heard_among, heard_version, version_chosen, client_end, then_response, heard_in, after_version, heard_of, hears, heard_bytes, IsSaid, IsSpoken, SaysArrive, SoFarArrives, NoVersionArrives, HearsGoOn, IsLastHeard, NothingMoreHeard}
pub use Rattle.messages.specs.Summaries.{Summary, Greeting, RowsLeft, Closing, Committed, Plain, Refused, Passed, bookmark, bookmark_of, greeting, ending, response_of_summary, form_of, IsShort, HasTexts, room, FitsRoom, ReadsBack, AllFit, AllReadBack}
pub use Rattle.messages.specs.Saying.{here, IsEntry, absent, further, SaysEntry, the_text, reads, writes, writes_unsaid, all_rows, some_rows, of_last, of_last_unsaid, the_token, token_unsaid, metadata_unsaid, SaysNamed, no_more, passed_over, then_named, HasOnly, SaysField, of_text, of_cells, of_list, of_extra, SaysFields, no_fields, then_field, SaysRow, of_row, SaysMessage, IsSpelled, ToldByRows, StandsByRows}
pub use Rattle.messages.specs.Sound.{IsCell, IsCount, IsRequest, IsResponse, RequestsReadBack, ResponsesReadBack, RequestsAreMade, ResponsesAreMade, RequestStands, ResponseStands}
-- And what its contracts cite of the crates below.
pub use Rattle.packstream.specs.Prelude.{Tree, int, text, dict, structure, no_trees, tree_then, tree, trees, trees_of, entries as value_entries, entries_of, canon, canon_entries, IsGood, Spells, max_size, whole}
unfoldable pub use Rattle.packstream.specs.Prelude.{whole_of}
unfoldable pub use Rattle.wire.specs.Prelude.{written_run}
pub use Rattle.wire.specs.Limits.{max_message}
pub use Rattle.structures_cells.specs.Shape.{shape, text_of, entries}
